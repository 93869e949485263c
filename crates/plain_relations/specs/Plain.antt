-- Relations that hold no expression, read of the fields of their messages (`relations.proto`), over the inputs that are given.
use Rattle.std.specs.Prelude.{List}
use Rattle.proto_fields.specs.Fields.{Field}
use Rattle.proto_fields.specs.Readings.{int32_field, optional_bool, text_field, texts}
use Rattle.plain_relations.specs.declared.limit.Limit.{Limit}
use Rattle.plain_relations.specs.declared.limit.Offset.{Offset}
use Rattle.plain_relations.specs.declared.subquery_alias.SubqueryAlias.{SubqueryAlias}
use Rattle.plain_relations.specs.declared.to_df.ToDf.{ToDf}
use Rattle.plain_relations.specs.declared.deduplicate.Deduplicate.{Deduplicate}
use Rattle.plain_relations.specs.declared.renamed.WithColumnsRenamed.{WithColumnsRenamed}
use Rattle.plain_relations.specs.declared.set_operation.SetOperation.{SetOperation}
use Rattle.plain_relations.specs.RenameMaps.{map_in}

-- input 1, limit 2
abbrev pub limit_of : {R : Type 0} → R → List Field → Limit R
limit_of input fields = record { input = input; number = int32_field 2 fields }

-- input 1, offset 2
abbrev pub offset_of : {R : Type 0} → R → List Field → Offset R
offset_of input fields = record { input = input; number = int32_field 2 fields }

-- input 1, alias 2, qualifier 3
abbrev pub subquery_alias_of : {R : Type 0} → R → List Field → SubqueryAlias R
subquery_alias_of input fields = record { input = input; alias = text_field 2 fields; qualifier = texts 3 fields }

-- input 1, column_names 2
abbrev pub to_df_of : {R : Type 0} → R → List Field → ToDf R
to_df_of input fields = record { input = input; column_names = texts 2 fields }

-- input 1, column_names 2, all_columns_as_keys 3
abbrev pub deduplicate_of : {R : Type 0} → R → List Field → Deduplicate R
deduplicate_of input fields = record { input = input; column_names = texts 2 fields; all_columns_as_keys = optional_bool 3 fields }

-- input 1, rename_columns_map 2
abbrev pub renamed_of : {R : Type 0} → R → List Field → WithColumnsRenamed R
renamed_of input fields = record { input = input; rename_map = map_in fields }

-- left_input 1, right_input 2, set_op_type 3, is_all 4, by_name 5, allow_missing_columns 6
abbrev pub set_operation_of : {R : Type 0} → R → R → List Field → SetOperation R
set_operation_of left right fields = record {
  left_input = left;
  right_input = right;
  set_op_type = int32_field 3 fields;
  is_all = optional_bool 4 fields;
  by_name = optional_bool 5 fields;
  allow_missing_columns = optional_bool 6 fields;
}
