-- One pair more of settings of which keys are unset.
use Rattle.std.proofs.Common.{◌≡◌, ℕ, ◌+◌, ◌<◌, Bool, true, false, cond, List, [], ◌∷◌, ◌++◌, length, drop, get_or, filter, append_assoc, arith, sym, ap, ◌∙◌}
use Rattle.std.specs.Prelude.{bytes_eq}
use Rattle.std.specs.BTreeMap.{BTreeMap}
use Rattle.std.specs.Borrow.{Bor}
use Rattle.std.specs.List.{list_any}
use Rattle.std.proofs.lemmas.Grind.{common_steps}
use Rattle.cn_types.specs.declared.settings.Pair.{Pair}
use Rattle.session_core.specs.Places.{is_in}
use Rattle.session_core.specs.Presets.{presets}
use Rattle.session_core.specs.Settings.{has_key, left_of, without}

-- whether the key of a pair is named
named : (set : BTreeMap (Bor (List ℕ)) (Unit {0})) (keys : List (List ℕ)) (key : List ℕ) (pair : Pair) (test : Bool)
    → ((k : List ℕ) → is_in set k ≡ list_any (λ named. bytes_eq named k) keys) → test ≡ is_in set key → key ≡ pair.key
    → list_any (λ named. bytes_eq named pair.key) keys ≡ test
named set keys key pair test holds is same = sym (holds pair.key) ∙ ap (is_in set) (sym same) ∙ sym is

next : (keys : List (List ℕ)) (settings : List Pair) (i : ℕ) (pair : Pair) (done now whole : List Pair) → i < length settings
    → pair ≡ get_or settings i pair → now ≡ done ++ left_of keys pair → done ++ without keys (drop i settings) ≡ whole
    → now ++ without keys (drop (i + 1) settings) ≡ whole
next keys settings i pair done now whole within is left before =
    let split : drop i settings ≡ pair ∷ drop (i + 1) settings = grind (arith, common_steps) in
    ap (λ (l : List Pair). l ++ without keys (drop (i + 1) settings)) left
    ∙ append_assoc done (left_of keys pair) (without keys (drop (i + 1) settings))
    ∙ ap (λ (l : List Pair). done ++ without keys l) (sym split) ∙ before

-- a pair whose key is named leaves the preset of its key
pub without-named : (set : BTreeMap (Bor (List ℕ)) (Unit {0})) (keys : List (List ℕ)) (settings : List Pair) (key again : List ℕ) (i : ℕ) (pair : Pair)
    (done now whole : List Pair) → ((k : List ℕ) → is_in set k ≡ list_any (λ named. bytes_eq named k) keys)
    → true ≡ is_in set key → key ≡ pair.key → again ≡ pair.key → i < length settings → pair ≡ get_or settings i pair
    → now ≡ done ++ filter (has_key again) presets → done ++ without keys (drop i settings) ≡ whole
    → now ++ without keys (drop (i + 1) settings) ≡ whole
without-named set keys settings key again i pair done now whole holds test same also within is left before =
    next keys settings i pair done now whole within is
    (left ∙ ap (λ (k : List ℕ). done ++ filter (has_key k) presets) also
    ∙ ap (λ (b : Bool). done ++ cond b (filter (has_key pair.key) presets) (pair ∷ [])) (sym (named set keys key pair true holds test same))) before

-- another pair stays
pub without-kept : (set : BTreeMap (Bor (List ℕ)) (Unit {0})) (keys : List (List ℕ)) (settings : List Pair) (key : List ℕ) (i : ℕ) (pair copy : Pair)
    (done now whole : List Pair) → ((k : List ℕ) → is_in set k ≡ list_any (λ named. bytes_eq named k) keys)
    → false ≡ is_in set key → key ≡ pair.key → copy ≡ pair → i < length settings → pair ≡ get_or settings i pair
    → now ≡ done ++ copy ∷ [] → done ++ without keys (drop i settings) ≡ whole
    → now ++ without keys (drop (i + 1) settings) ≡ whole
without-kept set keys settings key i pair copy done now whole holds test same copied within is left before =
    next keys settings i pair done now whole within is
    (left ∙ ap (λ (p : Pair). done ++ p ∷ []) copied
    ∙ ap (λ (b : Bool). done ++ cond b (filter (has_key pair.key) presets) (pair ∷ [])) (sym (named set keys key pair false holds test same))) before
