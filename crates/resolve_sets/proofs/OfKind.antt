-- The chain of a set operation, from its parts.
use Rattle.std.proofs.Common.{◌≡◌, ℕ, Bool, List, Ok, Err, sym, ap, ◌∙◌}
use Rattle.std.specs.Prelude.{IfOk}
use Rattle.plan_model.specs.declared.node.SetKind.{SetKind}
use Rattle.resolve_names.specs.Checks.{Checked, ◌>>=◌}
use Rattle.resolve_relations.specs.declared.found.FoundOf.{FoundOf}
use Rattle.resolve_sets.specs.declared.aligned.Aligned.{Aligned}
use Rattle.resolve_sets.specs.declared.aligned.Places.{Places}
use Rattle.resolve_sets.specs.Aligning.{aligned}
use Rattle.resolve_sets.specs.Sets.{combined, of_kind, places_of}

module _ {I : Type 0} (exact : Bool) (fresh : ℕ → I) (kind : SetKind) (left right : FoundOf I) (all named missing : Bool) where
  of_kind_is : (places : List Places) (columns : List Aligned) (found : FoundOf I) →
      places_of exact named missing left.columns right.columns ≡ Ok places → aligned left.columns right.columns places ≡ Ok columns →
      found ≡ combined fresh left right kind all columns → of_kind exact fresh kind left right all named missing ≡ Ok found
  of_kind_is places columns found placed typed is =
      ap (λ (r : Checked (List Places)). r >>= λ p. aligned left.columns right.columns p >>= λ c. Ok (combined fresh left right kind all c)) placed
      ∙ ap (λ (r : Checked (List Aligned)). r >>= λ c. Ok (combined fresh left right kind all c)) typed
      ∙ ap (λ (f : FoundOf I). Ok f) (sym is)

  pub of_kind_result : (places : List Places) (columns : List Aligned) (result : Checked (FoundOf I)) →
      places_of exact named missing left.columns right.columns ≡ Ok places → aligned left.columns right.columns places ≡ Ok columns →
      IfOk result (λ found. found ≡ combined fresh left right kind all columns) → IfOk result (λ found. of_kind exact fresh kind left right all named missing ≡ Ok found)
  of_kind_result places columns (Ok found) placed typed is = of_kind_is places columns found placed typed is
  of_kind_result places columns (Err stop) placed typed is = tt
