-- Laws over the definitions, for all messages.
use Rattle.std.specs.Prelude.{ℕ, ◌≤◌, List}
use Rattle.proto_fields.specs.declared.kind.MessageKind.TheVariants as kinds
use Rattle.proto_fields.specs.Fields.{Field}
use Rattle.proto_fields.specs.Texts.{KeepsText, KeepsOptionalText}
use Rattle.expression_messages.specs.Laws.{IsShort, IsReadBack}
use Rattle.relation_parts.specs.declared.common.RelationCommon.{RelationCommon}
use Rattle.relation_parts.specs.declared.read.Read.{Read}
use Rattle.relation_parts.specs.declared.range.Range.{Range}
use Rattle.relation_parts.specs.declared.local_relation.LocalRelation.{LocalRelation}
use Rattle.relation_parts.specs.Parts.{common_of, named_table_of, read_of, range_of, local_relation_of}
use Rattle.relation_parts.specs.Spelled.{common_fields, read_fields, range_fields, local_relation_fields}
use Rattle.relation_parts.specs.Depths.{read_depth}
use Rattle.relation_parts.specs.Bits.{HasCommonBits, HasReadBits, HasRangeBits, HasLocalRelationBits}

-- what a message is spelled as is sound wherever its depth is allowed, and is read as the message
pub record PartsAreReadBack : Type 0 where
  pub commons : (level : ℕ) (common : RelationCommon) → HasCommonBits common → IsShort (common_fields common) → 1 ≤ level →
      IsReadBack level kinds.RelationCommon (common_fields common) common_of common
  pub reads : (level : ℕ) (read : Read) → HasReadBits read → IsShort (read_fields read) → read_depth read ≤ level →
      IsReadBack level kinds.Read (read_fields read) read_of read
  pub ranges : (level : ℕ) (range : Range) → HasRangeBits range → IsShort (range_fields range) → 1 ≤ level →
      IsReadBack level kinds.Range (range_fields range) range_of range
  pub local_relations : (level : ℕ) (local : LocalRelation) → HasLocalRelationBits local → IsShort (local_relation_fields local) → 1 ≤ level →
      IsReadBack level kinds.LocalRelation (local_relation_fields local) local_relation_of local

-- whatever fields are read, the numbers have the bits of their types and the texts are UTF-8, so that what was read can be written again
pub record PartsAreValid : Type 0 where
  pub commons : (fields : List Field) → HasCommonBits (common_of fields)
  pub reads : (fields : List Field) → HasReadBits (read_of fields)
  pub ranges : (fields : List Field) → HasRangeBits (range_of fields)
  pub local_relations : (fields : List Field) → HasLocalRelationBits (local_relation_of fields)

-- every text of a sound message is read as it stands
pub record PartTextsAreKept : Type 0 where
  pub unparsed_identifier : KeepsText kinds.NamedTable 1 (λ fields. (named_table_of fields).unparsed_identifier)
  pub schema : KeepsOptionalText kinds.LocalRelation 2 (λ fields. (local_relation_of fields).schema)
