-- A name is looked up in one table, and then in the next.
use Rattle.std.proofs.Common.{◌≡◌, ℕ, Bool, List, [], ◌∷◌, ◌++◌, true, false, cond, Some, refl}
use Rattle.std.specs.Option.{option_or}
use Rattle.std.specs.Str.{str_eq_ignore_ascii_case}
use Rattle.resolve_functions.specs.FunctionNames.{at_name}

pub at_name_append : {X : Type 0} (name : List ℕ) (one other : List (List ℕ × X)) → at_name name (one ++ other) ≡ option_or (at_name name one) (at_name name other)
at_name_append name [] other = refl
at_name_append name (entry ∷ one) other = by (str_eq_ignore_ascii_case name entry.0) (at_name_append name one other)
  where
    by : (here : Bool) → at_name name (one ++ other) ≡ option_or (at_name name one) (at_name name other) →
        cond here (Some entry.1) (at_name name (one ++ other)) ≡ option_or (cond here (Some entry.1) (at_name name one)) (at_name name other)
    by true rest = refl
    by false rest = rest
