-- The presets' keys stay first, and no key stands twice, whatever an operation changes.
use Rattle.std.proofs.Common.{◌≡◌, ℕ, ◌<◌, ◌≤◌, ◌⊎◌, inl, inr, Bool, true, false, cond, List, [], ◌∷◌, ◌++◌, length, get_or, take, map, filter, min, arith, refl, sym, ap, ◌∙◌, subst}
use Rattle.std.specs.Prelude.{codes, bytes_eq}
use Rattle.std.specs.List.{IsDistinct, AllByRecursion, list_any}
use Rattle.std.proofs.lemmas.List.{take-append-le, length-take, map-append}
use Rattle.std.proofs.lemmas.Slice.Eq.{bytes_eq-Decides}
use Rattle.cn_types.specs.declared.settings.Pair.{Pair}
use Rattle.request_messages.specs.declared.config.ConfigOperation.{ConfigOperation}
use Rattle.request_messages.specs.declared.config.ConfigOperation.TheVariants as operation
use Rattle.session_core.specs.Config.{changed, pair_of}
use Rattle.session_core.specs.Laws.{keys_of, HavePresets, PresetsStay}
use Rattle.session_core.specs.Presets.{presets, pair, case_sensitive_key, batch_rows_key, ansi_key, time_zone_key, cache_key}
use Rattle.session_core.specs.Settings.{has_key, put, put_all, left_of, without}

same_text : (a b : List ℕ) → bytes_eq a b ≡ true → a ≡ b
same_text a b e = (bytes_eq-Decides a b).0 e

-- ---- a pair that is put

keys-put : (settings : List Pair) (new : Pair)
    → (keys_of (put settings new) ≡ keys_of settings)
    ⊎ ((keys_of (put settings new) ≡ keys_of settings ++ new.key ∷ []) × AllByRecursion (λ other. bytes_eq other new.key ≡ false) (keys_of settings))
keys-put [] new = inr (refl, tt)
keys-put (pair ∷ rest) new = by (has_key new.key pair) refl (keys-put rest new)
  where
    by : (b : Bool) → bytes_eq pair.key new.key ≡ b
        → (keys_of (put rest new) ≡ keys_of rest)
        ⊎ ((keys_of (put rest new) ≡ keys_of rest ++ new.key ∷ []) × AllByRecursion (λ other. bytes_eq other new.key ≡ false) (keys_of rest))
        → (keys_of (cond b (new ∷ rest) (pair ∷ put rest new)) ≡ pair.key ∷ keys_of rest)
        ⊎ ((keys_of (cond b (new ∷ rest) (pair ∷ put rest new)) ≡ pair.key ∷ (keys_of rest ++ new.key ∷ []))
        × AllByRecursion (λ other. bytes_eq other new.key ≡ false) (pair.key ∷ keys_of rest))
    by true e h = inl (ap (λ (k : List ℕ). k ∷ keys_of rest) (sym (same_text pair.key new.key e)))
    by false e (inl h) = inl (ap (λ (l : List (List ℕ)). pair.key ∷ l) h)
    by false e (inr h) = inr (ap (λ (l : List (List ℕ)). pair.key ∷ l) h.0, (e, h.1))

all-push : (x k : List ℕ) (xs : List (List ℕ)) → AllByRecursion (λ y. bytes_eq x y ≡ false) xs → bytes_eq x k ≡ false
    → AllByRecursion (λ y. bytes_eq x y ≡ false) (xs ++ k ∷ [])
all-push x k [] h e = (e, tt)
all-push x k (y ∷ ys) h e = (h.0, all-push x k ys h.1 e)

distinct-push : (k : List ℕ) (xs : List (List ℕ)) → IsDistinct bytes_eq xs → AllByRecursion (λ other. bytes_eq other k ≡ false) xs
    → IsDistinct bytes_eq (xs ++ k ∷ [])
unfolding IsDistinct
distinct-push k [] h a = (tt, tt)
distinct-push k (x ∷ xs) h a = (all-push x k xs h.0 a.0, distinct-push k xs h.1 a.1)

five : (keys : List (List ℕ)) → take 5 keys ≡ keys_of presets → 5 ≤ length keys
five keys first =
    let size : min 5 (length keys) ≡ 5 = sym (length-take 5 keys) ∙ ap length first in omega arith

HavePresets-put : (settings : List Pair) (new : Pair) → HavePresets settings → HavePresets (put settings new)
HavePresets-put settings new have = by (keys-put settings new)
  where
    by : (keys_of (put settings new) ≡ keys_of settings)
        ⊎ ((keys_of (put settings new) ≡ keys_of settings ++ new.key ∷ []) × AllByRecursion (λ other. bytes_eq other new.key ≡ false) (keys_of settings))
        → HavePresets (put settings new)
    by (inl h) = record { first = ap (take 5) h ∙ have.first; distinct = subst (IsDistinct bytes_eq) (sym h) have.distinct }
    by (inr h) = record {
      first = ap (take 5) h.0 ∙ take-append-le 5 (keys_of settings) (new.key ∷ []) (five (keys_of settings) have.first) ∙ have.first;
      distinct = subst (IsDistinct bytes_eq) (sym h.0) (distinct-push new.key (keys_of settings) have.distinct h.1);
    }

HavePresets-put_all : (settings new : List Pair) → HavePresets settings → HavePresets (put_all settings new)
HavePresets-put_all settings [] have = have
HavePresets-put_all settings (x ∷ xs) have = HavePresets-put_all (put settings x) xs (HavePresets-put settings x have)

-- ---- keys that are unset

abbrev Single : List ℕ → List Pair → Type 0
Single key pairs = (keys_of pairs ≡ key ∷ []) ⊎ (keys_of pairs ≡ [])

abbrev PresetIsSingle : List ℕ → Type 0
PresetIsSingle key = Single key (filter (has_key key) presets)

-- what holds of a known key, and of every other, holds of a key
on_key : (known key : List ℕ) (P : List ℕ → Type 0) → P known → (bytes_eq known key ≡ false → P key) → P key
on_key known key P there other = by (bytes_eq known key) refl
  where
    by : (b : Bool) → bytes_eq known key ≡ b → P key
    by true e = subst P (same_text known key e) there
    by false e = other e

none_of_five : (p : Pair → Bool) (a b c d e : Pair) → p a ≡ false → p b ≡ false → p c ≡ false → p d ≡ false → p e ≡ false
    → filter p (a ∷ b ∷ c ∷ d ∷ e ∷ []) ≡ []
none_of_five p a b c d e fa fb fc fd fe = rw (fa, fb, fc, fd, fe) refl

preset_single : (key : List ℕ) → PresetIsSingle key
preset_single key =
    on_key case_sensitive_key key PresetIsSingle (inl refl)
    (λ a. on_key batch_rows_key key PresetIsSingle (inl refl)
    (λ b. on_key ansi_key key PresetIsSingle (inl refl)
    (λ c. on_key time_zone_key key PresetIsSingle (inl refl)
    (λ d. on_key cache_key key PresetIsSingle (inl refl)
    (λ e. inr (ap keys_of (none_of_five (has_key key) (pair case_sensitive_key (codes "false")) (pair batch_rows_key (codes "10000"))
    (pair ansi_key (codes "false")) (pair time_zone_key (codes "UTC")) (pair cache_key (codes "67108864")) a b c d e)))))))

left_single : (names : List (List ℕ)) (pair : Pair) → Single pair.key (left_of names pair)
left_single names pair = by (list_any (λ named. bytes_eq named pair.key) names)
  where
    by : (b : Bool) → Single pair.key (cond b (filter (has_key pair.key) presets) (pair ∷ []))
    by true = preset_single pair.key
    by false = inl refl

joined : (left rest : List Pair) (keys : List (List ℕ)) → keys_of left ≡ keys → keys_of (left ++ rest) ≡ keys ++ keys_of rest
joined left rest keys e = map-append (λ p. p.key) left rest ∙ ap (λ (l : List (List ℕ)). l ++ keys_of rest) e

all-without : (P : List ℕ → Type 0) (names : List (List ℕ)) (settings : List Pair) → AllByRecursion P (keys_of settings)
    → AllByRecursion P (keys_of (without names settings))
all-without P names [] h = h
all-without P names (pair ∷ rest) h = by (left_single names pair) (all-without P names rest h.1)
  where
    by : Single pair.key (left_of names pair) → AllByRecursion P (keys_of (without names rest))
        → AllByRecursion P (keys_of (left_of names pair ++ without names rest))
    by (inl e) ih = subst (AllByRecursion P) (sym (joined (left_of names pair) (without names rest) (pair.key ∷ []) e)) (h.0, ih)
    by (inr e) ih = subst (AllByRecursion P) (sym (joined (left_of names pair) (without names rest) [] e)) ih

distinct-without : (names : List (List ℕ)) (settings : List Pair) → IsDistinct bytes_eq (keys_of settings)
    → IsDistinct bytes_eq (keys_of (without names settings))
unfolding IsDistinct
distinct-without names [] h = h
distinct-without names (pair ∷ rest) h = by (left_single names pair) (distinct-without names rest h.1)
  where
    by : Single pair.key (left_of names pair) → IsDistinct bytes_eq (keys_of (without names rest))
        → IsDistinct bytes_eq (keys_of (left_of names pair ++ without names rest))
    by (inl e) ih =
        subst (IsDistinct bytes_eq) (sym (joined (left_of names pair) (without names rest) (pair.key ∷ []) e))
        (all-without (λ y. bytes_eq pair.key y ≡ false) names rest h.0, ih)
    by (inr e) ih = subst (IsDistinct bytes_eq) (sym (joined (left_of names pair) (without names rest) [] e)) ih

-- a pair with a preset's key leaves one pair with it
preset_left : (known : List ℕ) (names : List (List ℕ)) (pair : Pair) (rest : List Pair) (keys : List (List ℕ))
    → keys_of (filter (has_key known) presets) ≡ known ∷ [] → pair.key ≡ known → keys_of rest ≡ keys
    → keys_of (left_of names pair ++ rest) ≡ known ∷ keys
preset_left known names pair rest keys there is e =
    joined (left_of names pair) rest (known ∷ []) (by (list_any (λ named. bytes_eq named pair.key) names))
    ∙ ap (λ (l : List (List ℕ)). known ∷ l) e
  where
    by : (b : Bool) → keys_of (cond b (filter (has_key pair.key) presets) (pair ∷ [])) ≡ known ∷ []
    by true = ap (λ (k : List ℕ). keys_of (filter (has_key k) presets)) is ∙ there
    by false = ap (λ (k : List ℕ). k ∷ []) is

-- fewer keys aren't those of the presets
short : (keys : List (List ℕ)) → length keys < 5 → keys ≡ keys_of presets → ⊥
short keys few is = let size : length keys ≡ 5 = ap length is in omega arith

first-without : (names : List (List ℕ)) (settings : List Pair) → take 5 (keys_of settings) ≡ keys_of presets
    → take 5 (keys_of (without names settings)) ≡ keys_of presets
first-without names [] first = absurd (short _ (omega arith) first)
first-without names (a ∷ []) first = absurd (short _ (omega arith) first)
first-without names (a ∷ b ∷ []) first = absurd (short _ (omega arith) first)
first-without names (a ∷ b ∷ c ∷ []) first = absurd (short _ (omega arith) first)
first-without names (a ∷ b ∷ c ∷ d ∷ []) first = absurd (short _ (omega arith) first)
first-without names (a ∷ b ∷ c ∷ d ∷ e ∷ rest) first =
    ap (take 5)
    (preset_left case_sensitive_key names a _ _ refl (ap (λ (l : List (List ℕ)). get_or l 0 []) first)
    (preset_left batch_rows_key names b _ _ refl (ap (λ (l : List (List ℕ)). get_or l 1 []) first)
    (preset_left ansi_key names c _ _ refl (ap (λ (l : List (List ℕ)). get_or l 2 []) first)
    (preset_left time_zone_key names d _ _ refl (ap (λ (l : List (List ℕ)). get_or l 3 []) first)
    (preset_left cache_key names e (without names rest) (keys_of (without names rest)) refl (ap (λ (l : List (List ℕ)). get_or l 4 []) first) refl)))))

-- ---- every operation

presets_distinct : IsDistinct bytes_eq (keys_of presets)
unfolding IsDistinct
presets_distinct = ((refl, (refl, (refl, (refl, tt)))), ((refl, (refl, (refl, tt))), ((refl, (refl, tt)), ((refl, tt), (tt, tt)))))

pub presets_stay : PresetsStay
presets_stay = (record { first = refl; distinct = presets_distinct }, by)
  where
    by : (settings : List Pair) (asked : ConfigOperation) → HavePresets settings → HavePresets (changed settings asked)
    by settings (operation.Set new) have = HavePresets-put_all settings (map pair_of new) have
    by settings (operation.Get keys) have = have
    by settings (operation.GetWithDefault pairs) have = have
    by settings (operation.GetOption keys) have = have
    by settings (operation.GetAll prefix) have = have
    by settings (operation.Unset keys) have = record { first = first-without keys settings have.first; distinct = distinct-without keys settings have.distinct }
    by settings (operation.IsModifiable keys) have = have
    by settings operation.Absent have = have
