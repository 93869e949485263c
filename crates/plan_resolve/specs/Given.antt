-- The walk step by step: a relation over its inputs that are resolved already.
use Rattle.std.specs.Prelude.{ℕ, nat_eq, Bool, List, Option, Some, None, Ok, Err}
use Rattle.table_store.specs.declared.tables.NamedTable.{NamedTable}
use Rattle.relation_members.specs.declared.member.RelationMember.{RelationMember}
use Rattle.relation_members.specs.Inputs.{first_of, second_of}
use Rattle.relation_messages.specs.declared.relation.Relation.{Relation}
use Rattle.relation_messages.specs.declared.relation.Relation.TheViews.{out-Relation}
use Rattle.resolve_names.specs.declared.error.ResolveStop.TheVariants.{OutOfMemory}
use Rattle.resolve_names.specs.Checks.{Checked, ◌>>=◌}
use Rattle.resolve_relations.specs.declared.found.FoundOf.{FoundOf}
use Rattle.resolve_relations.specs.Columns.{ids_from}
use Rattle.plan_resolve.specs.Drawing.{behind, counted}
use Rattle.plan_resolve.specs.Members.{limited, member_rule}

-- an input that is there; where none is, nothing is said
abbrev pub given : {R F : Type 0} → Option F → R → Checked F
given (Some found) input = Ok found
given None input = Err OutOfMemory

module _ (exact : Bool) (tables : List NamedTable) where
  -- an input, where there is one
  abbrev pub input_found : Option Relation → ℕ → Checked (Option (FoundOf ℕ))
  input_found (Some input) base = (counted exact tables input).found base >>= λ found. Ok (Some found)
  input_found None base = Ok None

  abbrev pub input_relations : Option Relation → ℕ
  input_relations (Some input) = (counted exact tables input).relations
  input_relations None = 0

  -- the first id behind the first input's, and behind both inputs'
  abbrev pub behind_first : RelationMember Relation → ℕ → ℕ
  behind_first member base = behind base (input_relations (first_of member))

  abbrev pub behind_inputs : RelationMember Relation → ℕ → ℕ
  behind_inputs member base = behind (behind_first member base) (input_relations (second_of member))

  abbrev pub over_inputs : Relation → ℕ → Option (FoundOf ℕ) → Option (FoundOf ℕ) → Checked (FoundOf ℕ)
  over_inputs relation base first second =
      limited (out-Relation relation).common (member_rule nat_eq exact tables (ids_from base) (given first) (given second) (out-Relation relation).member)

  unfoldable pub walked : Relation → ℕ → Checked (FoundOf ℕ)
  walked relation base = do
    first ← input_found (first_of (out-Relation relation).member) base
    second ← input_found (second_of (out-Relation relation).member) (behind_first (out-Relation relation).member base)
    over_inputs relation (behind_inputs (out-Relation relation).member base) first second
