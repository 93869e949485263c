-- What the rules of two relations keep: of relations of which something holds they make such ones.
use Rattle.std.specs.Prelude.{ℕ, ℤ, nat_eq, Bool, List, Option}
use Rattle.expression_messages.specs.declared.expression.Expr.{Expr}
use Rattle.resolve_relations.specs.declared.found.FoundOf.{FoundOf}
use Rattle.resolve_joins.specs.Joins.{join_rule}
use Rattle.resolve_sets.specs.Sets.{set_rule}
use Rattle.resolve_sound.specs.Sound.{KeepsBoth}

pub record JoinsAre (Is : FoundOf ℕ → Type 0) : Type 0 where
  pub joins : (exact : Bool) (fresh : ℕ → ℕ) (kind : ℤ) (condition : Option Expr) (names : List (List ℕ)) →
      KeepsBoth Is (λ left right. join_rule nat_eq exact fresh left right kind condition names)

-- whatever tells columns apart
pub record SetOperationsAre (I : Type 0) (Is : FoundOf I → Type 0) : Type 0 where
  pub set_operations : (exact : Bool) (fresh : ℕ → I) (kind : ℤ) (all named missing : Bool) →
      KeepsBoth Is (λ left right. set_rule exact fresh left right kind all named missing)
