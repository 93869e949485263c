-- Rules of two relations mean the same whatever the ids of columns are.
use Rattle.std.specs.Prelude.{ℕ, ℤ, Bool, List, Option}
use Rattle.expression_messages.specs.declared.expression.Expr.{Expr}
use Rattle.resolve_relations.specs.declared.found.FoundOf.{FoundOf}
use Rattle.resolve_joins.specs.Joins.{join_rule}
use Rattle.resolve_sets.specs.Sets.{set_rule}
use Rattle.resolve_ids.specs.Renaming.{Alike, DrawnAlike, TellsApart, renamed}

-- `join`
pub record JoinedAlike (I J : Type 0) : Type 0 where
  pub join : (name : I → J) (fresh : ℕ → I) (fresh_too : ℕ → J) → DrawnAlike name fresh fresh_too →
      (same : I → I → Bool) (same_too : J → J → Bool) → TellsApart same same_too name →
      (exact : Bool) (left right : FoundOf I) (number : ℤ) (condition : Option Expr) (names : List (List ℕ)) →
      Alike name (join_rule same exact fresh left right number condition names)
      (join_rule same_too exact fresh_too (renamed name left) (renamed name right) number condition names)

-- `set_op`
pub record CombinedAlike (I J : Type 0) : Type 0 where
  pub set_op : (name : I → J) (fresh : ℕ → I) (fresh_too : ℕ → J) → DrawnAlike name fresh fresh_too →
      (exact : Bool) (left right : FoundOf I) (number : ℤ) (all named missing : Bool) →
      Alike name (set_rule exact fresh left right number all named missing)
      (set_rule exact fresh_too (renamed name left) (renamed name right) number all named missing)
