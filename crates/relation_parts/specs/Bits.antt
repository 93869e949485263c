-- That the numbers in a message have the bits of their types, and that its texts are UTF-8.
use Rattle.std.specs.Prelude.{IfSome, FitsSigned, IsUtf8}
use Rattle.std.specs.Int.{w32, w64}
use Rattle.relation_parts.specs.declared.common.RelationCommon.{RelationCommon}
use Rattle.relation_parts.specs.declared.read.Read.{Read}
use Rattle.relation_parts.specs.declared.range.Range.{Range}
use Rattle.relation_parts.specs.declared.local_relation.LocalRelation.{LocalRelation}

abbrev pub HasCommonBits : RelationCommon → Type 0
HasCommonBits common = IfSome common.plan_id (FitsSigned w64)

abbrev pub HasReadBits : Read → Type 0
HasReadBits read = IfSome read.named_table (λ table. IsUtf8 table.unparsed_identifier)

pub record HasRangeBits (range : Range) : Type 0 where
  pub start : IfSome range.start (FitsSigned w64)
  pub end : FitsSigned w64 range.end
  pub step : FitsSigned w64 range.step
  pub num_partitions : IfSome range.num_partitions (FitsSigned w32)

abbrev pub HasLocalRelationBits : LocalRelation → Type 0
HasLocalRelationBits local = IfSome local.schema IsUtf8
