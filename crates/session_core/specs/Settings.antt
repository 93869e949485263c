-- Settings as a list of pairs: what a key has, and what setting and unsetting leave.
use Rattle.std.specs.Prelude.{ℕ, Bool, if◌then◌else◌, List, [], ◌∷◌, Option, fold, filter, bytes_eq}
use Rattle.std.specs.List.{find, flat_map, list_any}
use Rattle.std.specs.Option.{option_and_then}
use Rattle.cn_types.specs.declared.settings.Pair.{Pair}
use Rattle.session_core.specs.Presets.{presets}

-- keys are compared exactly
abbrev pub has_key : List ℕ → Pair → Bool
has_key key pair = bytes_eq pair.key key

-- the value of a key: that of the first pair with it
abbrev pub value_of : List Pair → List ℕ → Option (List ℕ)
value_of settings key = option_and_then (λ pair. pair.value) (find (has_key key) settings)

-- a pair is put where its key stands, or else last
abbrev pub put : List Pair → Pair → List Pair
put [] new = new ∷ []
put (pair ∷ rest) new = if has_key new.key pair then new ∷ rest else pair ∷ put rest new

-- pairs are put one after another
abbrev pub put_all : List Pair → List Pair → List Pair
put_all settings new = fold put settings new

-- what is left of a pair where these keys are unset: one that isn't named stays, a preset gets its preset value, another goes
abbrev pub left_of : List (List ℕ) → Pair → List Pair
left_of keys pair = if list_any (λ named. bytes_eq named pair.key) keys then filter (has_key pair.key) presets else pair ∷ []

abbrev pub without : List (List ℕ) → List Pair → List Pair
without keys settings = flat_map (left_of keys) settings
