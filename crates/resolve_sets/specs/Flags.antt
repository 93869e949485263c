-- Flags by place: which columns are partners, and the places of the others.
use Rattle.std.specs.Prelude.{ℕ, suc, Bool, true, false, if◌then◌else◌, List, [], ◌∷◌, slice_set, Option, Some, None}
use Rattle.std.specs.List.{list_any}
use Rattle.resolve_sets.specs.Aligning.{is_place}

abbrev pub is_taken : {X : Type 0} → List (Option ℕ) → ℕ → X → Bool
is_taken partners place column = list_any (is_place place) partners

-- the flags with a partner's set
unfoldable pub marked : List Bool → Option ℕ → List Bool
marked flags (Some place) = slice_set flags place true
marked flags None = flags

-- the places, from this one on, of the flags that are not set
abbrev pub free_from : ℕ → List Bool → List ℕ
free_from place [] = []
free_from place (taken ∷ flags) = if taken then free_from (suc place) flags else place ∷ free_from (suc place) flags
