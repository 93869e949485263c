-- Which relations have a spelling, and that the numbers and texts in them are values of their types.
use Rattle.std.specs.Prelude.{Bool, IsTrue, IfSome}
use Rattle.relation_parts.specs.Bits.{HasCommonBits}
use Rattle.relation_members.specs.Known.{is_known_member, HasRestBits}
use Rattle.relation_messages.specs.declared.relation.Relation.{Relation}
use Rattle.relation_messages.specs.declared.relation.Relation.TheOpen.{Relation-F}
use Rattle.relation_messages.specs.declared.relation.Relation.TheFolds.{fold-Relation, every-Relation}

abbrev pub is_known_relation_step : Relation-F Bool → Bool
is_known_relation_step relation = is_known_member (λ known. known) relation.member

-- a relation of the profile, and every relation, expression and type in it
unfoldable pub is_known_relation : Relation → Bool
is_known_relation = fold-Relation Bool is_known_relation_step

abbrev pub IsKnownRelation : Relation → Type 0
IsKnownRelation relation = IsTrue (is_known_relation relation)

-- in one relation, its inputs aside
pub record HasRelationBitsHere (relation : Relation-F Relation) : Type 0 where
  pub common : IfSome relation.common HasCommonBits
  pub rest : HasRestBits relation.member

-- in it and in every relation in it
unfoldable pub HasRelationBits : Relation → Type 0
HasRelationBits = every-Relation HasRelationBitsHere
