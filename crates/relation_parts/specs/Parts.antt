-- The messages of a relation that hold no other relation, read of their fields (`relations.proto`).
use Rattle.std.specs.Prelude.{List, option_map}
use Rattle.proto_fields.specs.Fields.{Field}
use Rattle.proto_fields.specs.Readings.{int64_field, optional_int32, optional_int64, text_field, optional_text, last_payload, merged}
use Rattle.relation_parts.specs.declared.common.RelationCommon.{RelationCommon}
use Rattle.relation_parts.specs.declared.read.NamedTable.{NamedTable}
use Rattle.relation_parts.specs.declared.read.Read.{Read}
use Rattle.relation_parts.specs.declared.range.Range.{Range}
use Rattle.relation_parts.specs.declared.local_relation.LocalRelation.{LocalRelation}

-- plan_id 2
abbrev pub common_of : List Field → RelationCommon
common_of fields = record { plan_id = optional_int64 2 fields }

-- unparsed_identifier 1
abbrev pub named_table_of : List Field → NamedTable
named_table_of fields = record { unparsed_identifier = text_field 1 fields }

-- named_table 1; none where it is absent
abbrev pub read_of : List Field → Read
read_of fields = record { named_table = option_map named_table_of (merged 1 fields) }

-- start 1, end 2, step 3, num_partitions 4
abbrev pub range_of : List Field → Range
range_of fields = record {
  start = optional_int64 1 fields;
  end = int64_field 2 fields;
  step = int64_field 3 fields;
  num_partitions = optional_int32 4 fields;
}

-- data 1, schema 2
abbrev pub local_relation_of : List Field → LocalRelation
local_relation_of fields = record { payload = last_payload 1 fields; schema = optional_text 2 fields }
