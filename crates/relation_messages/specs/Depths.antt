-- How many messages are nested in the spelling of a relation, its own message among them.
use Rattle.std.specs.Prelude.{ℕ, ◌+◌, max, Option, Some, None}
use Rattle.relation_parts.specs.declared.common.RelationCommon.{RelationCommon}
use Rattle.relation_members.specs.Depths.{member_depth}
use Rattle.relation_messages.specs.declared.relation.Relation.{Relation}
use Rattle.relation_messages.specs.declared.relation.Relation.TheOpen.{Relation-F}
use Rattle.relation_messages.specs.declared.relation.Relation.TheFolds.{fold-Relation}

abbrev pub common_depth : Option RelationCommon → ℕ
common_depth None = 0
common_depth (Some common) = 1

-- one relation, with the depth of each relation in it in its place
abbrev pub relation_depth_step : Relation-F ℕ → ℕ
relation_depth_step relation = 1 + max (common_depth relation.common) (member_depth (λ depth. depth) relation.member)

unfoldable pub relation_depth : Relation → ℕ
relation_depth = fold-Relation ℕ relation_depth_step
