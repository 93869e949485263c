-- The fields of the same messages besides their inputs, in one spelling: by ascending number, a scalar left out at its default, a present optional
-- written, an entry of a map with its key and its value.
use Rattle.std.specs.Prelude.{List, ◌++◌}
use Rattle.proto_fields.specs.Fields.{Field}
use Rattle.proto_fields.specs.Spelling.{payload_fields, int_fields, optional_bool_fields, text_fields}
use Rattle.expression_messages.specs.Messages.{repeated_fields, messages_fields}
use Rattle.plain_relations.specs.declared.limit.Limit.{Limit}
use Rattle.plain_relations.specs.declared.limit.Offset.{Offset}
use Rattle.plain_relations.specs.declared.subquery_alias.SubqueryAlias.{SubqueryAlias}
use Rattle.plain_relations.specs.declared.to_df.ToDf.{ToDf}
use Rattle.plain_relations.specs.declared.deduplicate.Deduplicate.{Deduplicate}
use Rattle.plain_relations.specs.declared.rename_entry.RenameEntry.{RenameEntry}
use Rattle.plain_relations.specs.declared.renamed.WithColumnsRenamed.{WithColumnsRenamed}
use Rattle.plain_relations.specs.declared.set_operation.SetOperation.{SetOperation}

-- limit 2
abbrev pub limit_rest : {R : Type 0} → Limit R → List Field
limit_rest limit = int_fields 2 limit.number

-- offset 2
abbrev pub offset_rest : {R : Type 0} → Offset R → List Field
offset_rest offset = int_fields 2 offset.number

-- alias 2, qualifier 3
abbrev pub subquery_alias_rest : {R : Type 0} → SubqueryAlias R → List Field
subquery_alias_rest named = text_fields 2 named.alias ++ repeated_fields 3 named.qualifier

-- column_names 2
abbrev pub to_df_rest : {R : Type 0} → ToDf R → List Field
to_df_rest named = repeated_fields 2 named.column_names

-- column_names 2, all_columns_as_keys 3
abbrev pub deduplicate_rest : {R : Type 0} → Deduplicate R → List Field
deduplicate_rest distinct = repeated_fields 2 distinct.column_names ++ optional_bool_fields 3 distinct.all_columns_as_keys

-- key 1, value 2
abbrev pub entry_fields : RenameEntry → List Field
entry_fields entry = payload_fields 1 entry.key ++ payload_fields 2 entry.value

-- rename_columns_map 2
abbrev pub renamed_rest : {R : Type 0} → WithColumnsRenamed R → List Field
renamed_rest renamed = messages_fields entry_fields 2 renamed.rename_map.entries

-- set_op_type 3, is_all 4, by_name 5, allow_missing_columns 6
abbrev pub set_operation_rest : {R : Type 0} → SetOperation R → List Field
set_operation_rest operation =
    int_fields 3 operation.set_op_type ++ optional_bool_fields 4 operation.is_all ++ optional_bool_fields 5 operation.by_name
    ++ optional_bool_fields 6 operation.allow_missing_columns
