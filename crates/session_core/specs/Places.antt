-- The places of keys among settings, as a sorted map holds them.
use Rattle.std.specs.Prelude.{◌≡◌, ℕ, suc, Bool, if◌then◌else◌, List, [], ◌∷◌, Option, Some, None, is_some}
use Rattle.std.specs.Option.{option_map}
use Rattle.std.specs.BTreeMap.{BTreeMap, get_by}
use Rattle.std.specs.Cmp.Lexicographic.{slice_cmp}
use Rattle.std.specs.Ordering.{nat_cmp}
use Rattle.std.specs.Borrow.{Bor}
use Rattle.cn_types.specs.declared.settings.Pair.{Pair}
use Rattle.session_core.specs.Settings.{has_key}

-- the place of the first pair with a key
abbrev pub place_in : List Pair → List ℕ → Option ℕ
place_in [] key = None
place_in (pair ∷ rest) key = if has_key key pair then Some 0 else option_map suc (place_in rest key)

-- the place that the map holds for a key
abbrev pub place_of : BTreeMap (Bor (List ℕ)) ℕ → List ℕ → Option ℕ
place_of places key = get_by (λ held. slice_cmp nat_cmp key held.now) places

-- the map holds the place of the first pair with each key
abbrev pub AreFirst : BTreeMap (Bor (List ℕ)) ℕ → List Pair → Type 0
AreFirst places settings = (key : List ℕ) → place_of places key ≡ place_in settings key

-- whether a map of keys has this one
abbrev pub is_in : BTreeMap (Bor (List ℕ)) (Unit {0}) → List ℕ → Bool
is_in keys key = is_some (get_by (λ held. slice_cmp nat_cmp key held.now) keys)
