-- What the parts of an answer say: prefixes, presets and keys without a value.
use Rattle.std.proofs.Common.{◌≡◌, ℕ, Bool, true, false, cond, ◌&&◌, List, [], ◌∷◌, ◌++◌, length, take, drop, map, filter, Option, Some, option_map, Ok, Err, refl, sym, ap, ◌∙◌, true≢false}
use Rattle.std.specs.Prelude.{codes, bytes_eq, is_some, is_none}
use Rattle.std.specs.List.{find}
use Rattle.std.specs.Option.{option_map_or}
use Rattle.std.proofs.lemmas.List.{take_at, drop_at, take-append-drop}
use Rattle.std.proofs.lemmas.Slice.Eq.{bytes_eq-Decides}
use Rattle.cn_types.specs.declared.settings.Pair.{Pair}
use Rattle.session_core.specs.declared.refusal.ConfigRefusal.TheVariants as refusal
use Rattle.session_core.specs.Config.{under, pair_at, getting}
use Rattle.session_core.specs.Presets.{pair, presets, case_sensitive_key, batch_rows_key, ansi_key, time_zone_key, cache_key}
use Rattle.session_core.specs.Settings.{has_key, value_of}

-- texts that differ test so
differ : (a b : List ℕ) → (b ≡ a → ⊥) → bytes_eq a b ≡ false
differ a b never = by (bytes_eq a b) refl
  where
    by : (t : Bool) → bytes_eq a b ≡ t → t ≡ false
    by true same = absurd (never (sym ((bytes_eq-Decides a b).0 same)))
    by false other = refl

of_five : (p : Pair → Bool) (a b c d e : Pair) → p a ≡ false → p b ≡ false → p c ≡ false → p d ≡ false → p e ≡ false
    → filter p (a ∷ b ∷ c ∷ d ∷ e ∷ []) ≡ []
of_five p a b c d e fa fb fc fd fe = rw (fa, fb, fc, fd, fe) refl

-- a key that is none of the presets' has no preset
pub no_preset : (key : List ℕ) → (key ≡ case_sensitive_key → ⊥) → (key ≡ batch_rows_key → ⊥) → (key ≡ ansi_key → ⊥) → (key ≡ time_zone_key → ⊥)
    → (key ≡ cache_key → ⊥) → filter (has_key key) presets ≡ []
no_preset key a b c d e =
    of_five (has_key key) (pair case_sensitive_key (codes "false")) (pair batch_rows_key (codes "10000")) (pair ansi_key (codes "false"))
    (pair time_zone_key (codes "UTC")) (pair cache_key (codes "67108864")) (differ case_sensitive_key key a) (differ batch_rows_key key b)
    (differ ansi_key key c) (differ time_zone_key key d) (differ cache_key key e)

-- a key without the prefix isn't shown
pub under-none : (prefix : List ℕ) (pair : Pair) → ((rest : List ℕ) → pair.key ≡ prefix ++ rest → ⊥) → [] ≡ under prefix pair
under-none prefix pair never = by (is_some pair.value) (bytes_eq prefix (take (length prefix) pair.key)) refl
  where
    shown : Pair
    shown = record { key = drop (length prefix) pair.key; value = pair.value }

    by : (b t : Bool) → bytes_eq prefix (take (length prefix) pair.key) ≡ t → [] ≡ cond (b && t) (shown ∷ []) []
    by false t e = refl
    by true false e = refl
    by true true same =
        absurd (never (drop (length prefix) pair.key)
        (sym (take-append-drop (length prefix) pair.key) ∙ ap (λ (l : List ℕ). l ++ drop (length prefix) pair.key) (sym ((bytes_eq-Decides _ _).0 same))))

-- a key with the prefix is shown without it
pub under-some : (prefix : List ℕ) (pair : Pair) (value text rest : List ℕ) → pair.value ≡ Some value → text ≡ value → pair.key ≡ prefix ++ rest
    → ◌≡◌ {A = List Pair} (record { key = rest; value = Some text } ∷ []) (under prefix pair)
under-some prefix pair value text rest valued same begins =
    let front : take (length prefix) pair.key ≡ prefix = ap (take (length prefix)) begins ∙ take_at prefix rest (length prefix) refl in
    let back : drop (length prefix) pair.key ≡ rest = ap (drop (length prefix)) begins ∙ drop_at prefix rest (length prefix) refl in
    let test : bytes_eq prefix (take (length prefix) pair.key) ≡ true = (bytes_eq-Decides _ _).1 (sym front) in
    by (is_some pair.value) (bytes_eq prefix (take (length prefix) pair.key)) (ap is_some valued) test
    (ap (λ (v : List ℕ). record { key = rest; value = Some v }) same ∙ ap (λ (k : List ℕ). record { key = k; value = Some value }) (sym back)
    ∙ ap (λ (v : Option (List ℕ)). record { key = drop (length prefix) pair.key; value = v }) (sym valued))
  where
    shown : Pair
    shown = record { key = drop (length prefix) pair.key; value = pair.value }

    by : (b t : Bool) → b ≡ true → t ≡ true → ◌≡◌ {A = Pair} (record { key = rest; value = Some text }) shown
        → ◌≡◌ {A = List Pair} (record { key = rest; value = Some text } ∷ []) (cond (b && t) (shown ∷ []) [])
    by true true e f is = ap (λ (p : Pair). p ∷ []) is
    by false t e f is = absurd (true≢false (sym e))
    by true false e f is = absurd (true≢false (sym f))

-- the first key without a value, by the pairs
first_key : (settings : List Pair) (keys : List (List ℕ))
    → option_map (λ pair. pair.key) (find (λ pair. is_none pair.value) (map (pair_at settings) keys)) ≡ find (λ key. is_none (value_of settings key)) keys
first_key settings [] = refl
first_key settings (key ∷ keys) = by (is_none (value_of settings key)) (first_key settings keys)
  where
    by : (b : Bool)
        → option_map (λ pair. pair.key) (find (λ pair. is_none pair.value) (map (pair_at settings) keys)) ≡ find (λ key. is_none (value_of settings key)) keys
        → option_map (λ pair. pair.key) (cond b (Some (pair_at settings key)) (find (λ pair. is_none pair.value) (map (pair_at settings) keys)))
        ≡ cond b (Some key) (find (λ key. is_none (value_of settings key)) keys)
    by true rest = refl
    by false rest = rest

-- a get is decided by the first pair without a value
pub getting-first : (settings : List Pair) (keys : List (List ℕ)) (shown : List Pair) (first : Option (List ℕ)) → shown ≡ map (pair_at settings) keys
    → first ≡ option_map (λ pair. pair.key) (find (λ pair. is_none pair.value) shown)
    → getting settings keys ≡ option_map_or (λ key. Err (refusal.NotFound key)) first (Ok shown)
getting-first settings keys shown first is found =
    let key : first ≡ find (λ key. is_none (value_of settings key)) keys =
    found ∙ ap (λ (l : List Pair). option_map (λ pair. pair.key) (find (λ pair. is_none pair.value) l)) is ∙ first_key settings keys in
    sym (ap (λ (o : Option (List ℕ)). option_map_or (λ k. Err (refusal.NotFound k)) o (Ok shown)) key
    ∙ ap (λ (l : List Pair). option_map_or (λ k. Err (refusal.NotFound k)) (find (λ k. is_none (value_of settings k)) keys) (Ok l)) is)
