-- The same messages as fields, in one spelling: by ascending number, a scalar left out at its default, a present optional and a message that is
-- present written.
use Rattle.std.specs.Prelude.{List, ◌++◌, option_map}
use Rattle.proto_fields.specs.Fields.{Field}
use Rattle.proto_fields.specs.Spelling.{spell, int_fields, optional_int_fields, text_fields, optional_payload_fields}
use Rattle.relation_parts.specs.declared.common.RelationCommon.{RelationCommon}
use Rattle.relation_parts.specs.declared.read.NamedTable.{NamedTable}
use Rattle.relation_parts.specs.declared.read.Read.{Read}
use Rattle.relation_parts.specs.declared.range.Range.{Range}
use Rattle.relation_parts.specs.declared.local_relation.LocalRelation.{LocalRelation}

-- plan_id 2
abbrev pub common_fields : RelationCommon → List Field
common_fields common = optional_int_fields 2 common.plan_id

-- unparsed_identifier 1
abbrev pub named_table_fields : NamedTable → List Field
named_table_fields table = text_fields 1 table.unparsed_identifier

-- named_table 1
abbrev pub read_fields : Read → List Field
read_fields read = optional_payload_fields 1 (option_map (λ table. spell (named_table_fields table)) read.named_table)

-- start 1, end 2, step 3, num_partitions 4
abbrev pub range_fields : Range → List Field
range_fields range =
    optional_int_fields 1 range.start ++ int_fields 2 range.end ++ int_fields 3 range.step ++ optional_int_fields 4 range.num_partitions

-- data 1, schema 2
abbrev pub local_relation_fields : LocalRelation → List Field
local_relation_fields local = optional_payload_fields 1 local.payload ++ optional_payload_fields 2 local.schema
