-- A relation with all that is below it. A column's id is the place of the relation that made it, as a path from the root, and the column's
-- number there.
use Rattle.std.specs.Prelude.{ℕ, ◌&&◌, ◌+◌, ◌*◌, nat_eq, Bool, List, [], ◌∷◌, bytes_eq}
use Rattle.table_store.specs.declared.tables.NamedTable.{NamedTable}
use Rattle.relation_messages.specs.declared.relation.Relation.{Relation}
use Rattle.relation_messages.specs.declared.relation.Relation.TheOpen.{Relation-F}
use Rattle.relation_messages.specs.declared.relation.Relation.TheFolds.{fold-Relation}
use Rattle.resolve_names.specs.Checks.{Checked}
use Rattle.resolve_relations.specs.declared.found.FoundOf.{FoundOf}
use Rattle.plan_resolve.specs.Members.{limited, member_rule}

-- the way from the root, its last step first: 0 leads to a left or only input, and 1 to a right one
abbrev pub Path : Type 0
Path = List ℕ

pub record Id : Type 0 where
  pub relation : Path
  pub number : ℕ

abbrev pub same_id : Id → Id → Bool
same_id a b = bytes_eq a.relation b.relation && nat_eq a.number b.number

abbrev pub made_at : Path → ℕ → Id
made_at path number = record { relation = path; number = number }

-- what stands for a relation in the one above it
abbrev pub Resolver : Type 0
Resolver = Path → Checked (FoundOf Id)

abbrev pub left_of : Path → Resolver → Checked (FoundOf Id)
left_of path input = input (0 ∷ path)

abbrev pub right_of : Path → Resolver → Checked (FoundOf Id)
right_of path input = input (1 ∷ path)

module _ (exact : Bool) (tables : List NamedTable) where
  abbrev pub resolved_step : Relation-F Resolver → Resolver
  resolved_step relation path = limited relation.common (member_rule same_id exact tables (made_at path) (left_of path) (right_of path) relation.member)

  unfoldable pub resolved : Relation → Resolver
  resolved = fold-Relation Resolver resolved_step
