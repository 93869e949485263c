-- What is read of any fields is valid, and texts are those of the fault table.
use Rattle.std.proofs.Common.{List, refl}
use Rattle.std.specs.Prelude.{IsUtf8}
use Rattle.proto_fields.specs.declared.kind.MessageKind.TheVariants as kinds
use Rattle.proto_fields.specs.Fields.{Field}
use Rattle.proto_fields.specs.Kinds.{payload_of}
use Rattle.proto_fields.specs.Readings.{merged}
use Rattle.proto_fields.proofs.TextReadings.{int64_valid, optional_int32_valid, optional_int64_valid, text_valid, optional_text_valid, keeps_text, keeps_optional_text}
use Rattle.expression_messages.proofs.Valid.{if_there}
use Rattle.relation_parts.specs.declared.read.NamedTable.{NamedTable}
use Rattle.relation_parts.specs.Parts.{common_of, named_table_of, read_of, range_of, local_relation_of}
use Rattle.relation_parts.specs.Bits.{HasCommonBits, HasReadBits, HasRangeBits, HasLocalRelationBits}
use Rattle.relation_parts.specs.Laws.{PartTextsAreKept}

pub common_valid : (fields : List Field) → HasCommonBits (common_of fields)
common_valid fields = optional_int64_valid 2 fields

pub read_valid : (fields : List Field) → HasReadBits (read_of fields)
read_valid fields = if_there (λ (table : NamedTable). IsUtf8 table.unparsed_identifier) named_table_of (λ found. text_valid 1 found) (merged 1 fields)

pub range_valid : (fields : List Field) → HasRangeBits (range_of fields)
range_valid fields = record {
  start = optional_int64_valid 1 fields;
  end = int64_valid 2 fields;
  step = int64_valid 3 fields;
  num_partitions = optional_int32_valid 4 fields;
}

pub local_relation_valid : (fields : List Field) → HasLocalRelationBits (local_relation_of fields)
local_relation_valid fields = optional_text_valid 2 fields

pub part_texts : PartTextsAreKept
unfolding payload_of
part_texts = record { unparsed_identifier = keeps_text kinds.NamedTable 1 refl; schema = keeps_optional_text kinds.LocalRelation 2 refl }
