-- The same walk with numbers for ids: each relation has room for as many as it may have columns, behind those of its inputs.
use Rattle.std.specs.Prelude.{ℕ, ◌+◌, ◌*◌, nat_eq, Bool, List, Option, Some, None}
use Rattle.table_store.specs.declared.tables.NamedTable.{NamedTable}
use Rattle.relation_members.specs.declared.member.RelationMember.{RelationMember}
use Rattle.relation_members.specs.Inputs.{first_of, second_of}
use Rattle.relation_messages.specs.declared.relation.Relation.{Relation}
use Rattle.relation_messages.specs.declared.relation.Relation.TheOpen.{Relation-F}
use Rattle.relation_messages.specs.declared.relation.Relation.TheFolds.{fold-Relation}
use Rattle.resolve_names.specs.Checks.{Checked}
use Rattle.resolve_relations.specs.declared.found.FoundOf.{FoundOf}
use Rattle.resolve_relations.specs.Columns.{ids_from}
use Rattle.plan_resolve.specs.Members.{limited, member_rule}

-- what stands for a relation in the one above it: how many relations it has, itself among them, and what it is resolved to with the ids from a
-- number on
pub record Counted : Type 0 where
  pub relations : ℕ
  pub found : ℕ → Checked (FoundOf ℕ)

abbrev pub relations_in : Option Counted → ℕ
relations_in (Some input) = input.relations
relations_in None = 0

-- the first id behind those of so many relations
abbrev pub behind : ℕ → ℕ → ℕ
behind base relations = base + relations * 1000

abbrev pub first_relations : RelationMember Counted → ℕ
first_relations member = relations_in (first_of member)

abbrev pub all_inputs : RelationMember Counted → ℕ
all_inputs member = relations_in (first_of member) + relations_in (second_of member)

abbrev pub left_from : ℕ → Counted → Checked (FoundOf ℕ)
left_from base input = input.found base

module _ (exact : Bool) (tables : List NamedTable) where
  abbrev pub counted_found : Relation-F Counted → ℕ → Checked (FoundOf ℕ)
  counted_found relation base = limited relation.common
      (member_rule nat_eq exact tables (ids_from (behind base (all_inputs relation.member))) (left_from base) (left_from (behind base (first_relations relation.member))) relation.member)

  abbrev pub counted_step : Relation-F Counted → Counted
  counted_step relation = record { relations = all_inputs relation.member + 1; found = counted_found relation }

  unfoldable pub counted : Relation → Counted
  counted = fold-Relation Counted counted_step
