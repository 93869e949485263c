-- What the first place of a key says: the value of the key, what putting a pair does, and where keys stand then.
use Rattle.std.proofs.Common.{◌≡◌, ℕ, suc, ◌<◌, Bool, true, false, cond, ◌+◌, List, [], ◌∷◌, ◌++◌, length, get_or, take, Option, Some, None, option_map, arith, refl, sym, ap, ◌∙◌, subst, true≢false}
use Rattle.std.specs.Prelude.{bytes_eq, slice_set, slice_get, is_some, OnOk, Result, Ok, Err, ◌||◌}
use Rattle.std.specs.BTreeMap.{BTreeMap}
use Rattle.std.specs.Borrow.{Bor}
use Rattle.std.specs.List.{find}
use Rattle.std.specs.Option.{option_and_then, option_or}
use Rattle.std.proofs.lemmas.List.{take_more, length-take-le}
use Rattle.std.proofs.lemmas.Option.{same_Some}
use Rattle.std.proofs.lemmas.Slice.Eq.{bytes_eq-Decides}
use Rattle.cn_types.specs.declared.settings.Pair.{Pair}
use Rattle.session_core.specs.Settings.{has_key, value_of, put}
use Rattle.session_core.specs.Places.{place_in, place_of, AreFirst}

-- a place found behind a first pair
abbrev pub place_after : Bool → Option ℕ → Option ℕ
place_after b o = cond b (Some 0) (option_map suc o)

-- the first place lies within the list
pub place_in-within : (settings : List Pair) (key : List ℕ) (i : ℕ) → place_in settings key ≡ Some i → i < length settings
place_in-within [] key i e = absurd (true≢false (sym (ap is_some e)))
place_in-within (pair ∷ rest) key i e = step (has_key key pair) (place_in rest key) e (place_in-within rest key)
  where
    step : (b : Bool) (o : Option ℕ) → place_after b o ≡ Some i → ((j : ℕ) → o ≡ Some j → j < length rest) → i < suc (length rest)
    step true o is within = let z : 0 ≡ i = same_Some _ _ is in omega arith
    step false (Some j) is within = let z : suc j ≡ i = same_Some _ _ is in let h : j < length rest = within j refl in omega arith
    step false None is within = absurd (true≢false (sym (ap is_some is)))

-- the value of a key is that of the pair at its first place
pub value_of-placed : (settings : List Pair) (key : List ℕ) (i : ℕ) → place_in settings key ≡ Some i
    → value_of settings key ≡ option_and_then (λ pair. pair.value) (slice_get settings i)
value_of-placed [] key i e = absurd (true≢false (sym (ap is_some e)))
value_of-placed (pair ∷ rest) key i e = step (has_key key pair) (place_in rest key) e (value_of-placed rest key)
  where
    step : (b : Bool) (o : Option ℕ) → place_after b o ≡ Some i
        → ((j : ℕ) → o ≡ Some j → value_of rest key ≡ option_and_then (λ p. p.value) (slice_get rest j))
        → option_and_then (λ p. p.value) (cond b (Some pair) (find (has_key key) rest)) ≡ option_and_then (λ p. p.value) (slice_get (pair ∷ rest) i)
    step true o is value =
        subst (λ (n : ℕ). pair.value ≡ option_and_then (λ p. p.value) (slice_get (pair ∷ rest) n)) (same_Some _ _ is) refl
    step false (Some j) is value =
        subst (λ (n : ℕ). value_of rest key ≡ option_and_then (λ p. p.value) (slice_get (pair ∷ rest) n)) (same_Some _ _ is) (value j refl)
    step false None is value = absurd (true≢false (sym (ap is_some is)))

-- a key without a place has no value
pub value_of-none : (settings : List Pair) (key : List ℕ) → place_in settings key ≡ None → value_of settings key ≡ None
value_of-none [] key e = refl
value_of-none (pair ∷ rest) key e = step (has_key key pair) (place_in rest key) e (value_of-none rest key)
  where
    step : (b : Bool) (o : Option ℕ) → place_after b o ≡ None → (o ≡ None → value_of rest key ≡ None)
        → option_and_then (λ p. p.value) (cond b (Some pair) (find (has_key key) rest)) ≡ None
    step true o is none = absurd (true≢false (ap is_some is))
    step false (Some j) is none = absurd (true≢false (ap is_some is))
    step false None is none = none refl

-- a pair whose key has a place is put there
pub put-placed : (settings : List Pair) (new : Pair) (i : ℕ) → place_in settings new.key ≡ Some i → put settings new ≡ slice_set settings i new
put-placed [] new i e = absurd (true≢false (sym (ap is_some e)))
put-placed (pair ∷ rest) new i e = step (has_key new.key pair) (place_in rest new.key) e (put-placed rest new)
  where
    step : (b : Bool) (o : Option ℕ) → place_after b o ≡ Some i → ((j : ℕ) → o ≡ Some j → put rest new ≡ slice_set rest j new)
        → cond b (new ∷ rest) (pair ∷ put rest new) ≡ slice_set (pair ∷ rest) i new
    step true o is there = subst (λ (n : ℕ). new ∷ rest ≡ slice_set (pair ∷ rest) n new) (same_Some _ _ is) refl
    step false (Some j) is there =
        subst (λ (n : ℕ). pair ∷ put rest new ≡ slice_set (pair ∷ rest) n new) (same_Some _ _ is) (ap (λ (l : List Pair). pair ∷ l) (there j refl))
    step false None is there = absurd (true≢false (sym (ap is_some is)))

-- a pair whose key has none is put last
pub put-new : (settings : List Pair) (new : Pair) → place_in settings new.key ≡ None → put settings new ≡ settings ++ new ∷ []
put-new [] new e = refl
put-new (pair ∷ rest) new e = step (has_key new.key pair) (place_in rest new.key) e (put-new rest new)
  where
    step : (b : Bool) (o : Option ℕ) → place_after b o ≡ None → (o ≡ None → put rest new ≡ rest ++ new ∷ [])
        → cond b (new ∷ rest) (pair ∷ put rest new) ≡ pair ∷ (rest ++ new ∷ [])
    step true o is last = absurd (true≢false (ap is_some is))
    step false (Some j) is last = absurd (true≢false (ap is_some is))
    step false None is last = ap (λ (l : List Pair). pair ∷ l) (last refl)

-- two texts that test as equal are the same
same_text : (a b : List ℕ) → bytes_eq a b ≡ true → a ≡ b
same_text a b e = (bytes_eq-Decides a b).0 e

-- a pair in the place of another with its key leaves every place
pub place_in-set : (settings : List Pair) (new : Pair) (i : ℕ) (key : List ℕ) → place_in settings new.key ≡ Some i
    → place_in (slice_set settings i new) key ≡ place_in settings key
place_in-set [] new i key e = absurd (true≢false (sym (ap is_some e)))
place_in-set (pair ∷ rest) new i key e = step (has_key new.key pair) refl (place_in rest new.key) e (λ j. place_in-set rest new j key)
  where
    step : (b : Bool) → has_key new.key pair ≡ b → (o : Option ℕ) → place_after b o ≡ Some i
        → ((j : ℕ) → o ≡ Some j → place_in (slice_set rest j new) key ≡ place_in rest key)
        → place_in (slice_set (pair ∷ rest) i new) key ≡ place_in (pair ∷ rest) key
    step true test o is kept =
        subst (λ (n : ℕ). place_in (slice_set (pair ∷ rest) n new) key ≡ place_in (pair ∷ rest) key) (same_Some _ _ is)
        (ap (λ (k : List ℕ). place_after (bytes_eq k key) (place_in rest key)) (sym (same_text pair.key new.key test)))
    step false test (Some j) is kept =
        subst (λ (n : ℕ). place_in (slice_set (pair ∷ rest) n new) key ≡ place_in (pair ∷ rest) key) (same_Some _ _ is)
        (ap (λ (o : Option ℕ). place_after (has_key key pair) o) (kept j refl))
    step false test None is kept = absurd (true≢false (sym (ap is_some is)))

-- a pair that comes last has the last place where its key had none
pub place_in-push : (settings : List Pair) (new : Pair) (key : List ℕ)
    → place_in (settings ++ new ∷ []) key ≡ option_or (place_in settings key) (cond (has_key key new) (Some (length settings)) None)
place_in-push [] new key = by (has_key key new)
  where
    by : (b : Bool) → place_after b None ≡ cond b (Some 0) None
    by true = refl
    by false = refl
place_in-push (pair ∷ rest) new key = step (has_key key pair) (place_in rest key) (has_key key new) (place_in-push rest new key)
  where
    step : (b : Bool) (o : Option ℕ) (t : Bool) → place_in (rest ++ new ∷ []) key ≡ option_or o (cond t (Some (length rest)) None)
        → place_after b (place_in (rest ++ new ∷ []) key) ≡ option_or (place_after b o) (cond t (Some (suc (length rest))) None)
    step true o t e = refl
    step false (Some j) t e = rw e refl
    step false None true e = rw e refl
    step false None false e = rw e refl

-- what a map holds for a key after the place of a new pair was put into it
abbrev pub Notes : BTreeMap (Bor (List ℕ)) ℕ → List ℕ → ℕ → BTreeMap (Bor (List ℕ)) ℕ → Type 0
Notes old key place new = (other : List ℕ) → place_of new other ≡ cond (bytes_eq key other) (Some place) (place_of old other)

pub AreFirst-push : (old new : BTreeMap (Bor (List ℕ)) ℕ) (settings : List Pair) (pair : Pair) → AreFirst old settings
    → place_in settings pair.key ≡ None → Notes old pair.key (length settings) new → AreFirst new (settings ++ pair ∷ [])
AreFirst-push old new settings pair first none notes key =
    notes key ∙ step (bytes_eq pair.key key) refl (place_in settings key) refl ∙ sym (place_in-push settings pair key)
  where
    step : (b : Bool) → bytes_eq pair.key key ≡ b → (o : Option ℕ) → place_in settings key ≡ o
        → cond (bytes_eq pair.key key) (Some (length settings)) (place_of old key)
        ≡ option_or (place_in settings key) (cond (bytes_eq pair.key key) (Some (length settings)) None)
    step true test o is =
        let gone : place_in settings key ≡ None = ap (place_in settings) (sym (same_text pair.key key test)) ∙ none in
        rw (test, gone) refl
    step false test (Some j) is = rw (test, first key, is) refl
    step false test None is = rw (test, first key, is) refl

-- a pair whose key has a place changes none
pub AreFirst-kept : (places : BTreeMap (Bor (List ℕ)) ℕ) (settings : List Pair) (pair : Pair) → AreFirst places settings
    → is_some (place_in settings pair.key) ≡ true → AreFirst places (settings ++ pair ∷ [])
AreFirst-kept places settings pair first some key =
    first key ∙ step (bytes_eq pair.key key) refl (place_in settings key) refl ∙ sym (place_in-push settings pair key)
  where
    step : (b : Bool) → bytes_eq pair.key key ≡ b → (o : Option ℕ) → place_in settings key ≡ o
        → place_in settings key ≡ option_or (place_in settings key) (cond (bytes_eq pair.key key) (Some (length settings)) None)
    step true test (Some j) is = rw is refl
    step true test None is =
        absurd (true≢false (sym some ∙ ap (λ (k : List ℕ). is_some (place_in settings k)) (same_text pair.key key test) ∙ ap is_some is))
    step false test (Some j) is = rw is refl
    step false test None is = rw (is, test) refl

none_of : {X : Type 0} (o : Option X) → is_some o ≡ false → o ≡ None
none_of None e = refl
none_of (Some x) e = absurd (true≢false e)

-- the places of one pair more
next_pair : (settings : List Pair) (i : ℕ) (pair : Pair) → i < length settings → pair ≡ get_or settings i pair
    → take (i + 1) settings ≡ take i settings ++ pair ∷ []
next_pair settings i pair within is = take_more settings i pair within ∙ ap (λ (p : Pair). take i settings ++ p ∷ []) (sym is)

pub AreFirst-next_new : (old new : BTreeMap (Bor (List ℕ)) ℕ) (settings : List Pair) (i : ℕ) (pair : Pair) (key : List ℕ)
    → i < length settings → pair ≡ get_or settings i pair → key ≡ pair.key → AreFirst old (take i settings)
    → is_some (place_of old key) ≡ false → Notes old key i new → AreFirst new (take (i + 1) settings)
AreFirst-next_new old new settings i pair key within is same first none notes =
    let size : length (take i settings) ≡ i = length-take-le i settings (omega arith) in
    subst (AreFirst new) (sym (next_pair settings i pair within is))
    (AreFirst-push old new (take i settings) pair first
    (sym (first pair.key) ∙ ap (place_of old) (sym same) ∙ none_of _ none)
    (λ other. notes other ∙ ap (λ (k : List ℕ). cond (bytes_eq k other) (Some i) (place_of old other)) same
    ∙ ap (λ (n : ℕ). cond (bytes_eq pair.key other) (Some n) (place_of old other)) (sym size)))

pub AreFirst-next_kept : (places : BTreeMap (Bor (List ℕ)) ℕ) (settings : List Pair) (i : ℕ) (pair : Pair) (key : List ℕ)
    → i < length settings → pair ≡ get_or settings i pair → key ≡ pair.key → AreFirst places (take i settings)
    → is_some (place_of places key) ≡ true → AreFirst places (take (i + 1) settings)
AreFirst-next_kept places settings i pair key within is same first some =
    subst (AreFirst places) (sym (next_pair settings i pair within is))
    (AreFirst-kept places (take i settings) pair first
    (ap is_some (sym (first pair.key)) ∙ ap (λ (k : List ℕ). is_some (place_of places k)) (sym same) ∙ some))

-- what holds of a good answer, and so does another fact
pub OnOk-map : {T E : Type 0} (r : Result T E) (P Q : Type 0) → (P → Q) → OnOk r P → OnOk r Q
OnOk-map (Ok x) P Q f h = f h
OnOk-map (Err e) P Q f h = tt

-- a key more, in a map of keys
pub is_in-next : (old : Option (Unit {0})) (new : Bool) (t : Bool) (rest whole : Bool)
    → is_some (cond t (Some tt) old) ≡ new → (is_some old || (t || rest)) ≡ whole → (new || rest) ≡ whole
is_in-next None new true rest whole is before = rw (sym is) before
is_in-next None new false rest whole is before = rw (sym is) before
is_in-next (Some x) new true rest whole is before = rw (sym is) before
is_in-next (Some x) new false rest whole is before = rw (sym is) before

-- the value of a key with a place, by the pair that stands there
pub value_of-at : (settings : List Pair) (key : List ℕ) (i : ℕ) (pair : Option Pair) → place_in settings key ≡ Some i → pair ≡ slice_get settings i
    → option_and_then (λ p. p.value) pair ≡ value_of settings key
value_of-at settings key i pair there is = ap (λ (o : Option Pair). option_and_then (λ p. p.value) o) is ∙ sym (value_of-placed settings key i there)

-- a map that holds the place of a key holds its first
pub place_in-held : (places : BTreeMap (Bor (List ℕ)) ℕ) (settings : List Pair) (key : List ℕ) (held : Option ℕ) → AreFirst places settings
    → held ≡ place_of places key → place_in settings key ≡ held
place_in-held places settings key held first is = sym (first key) ∙ sym is

-- the same of a key that is this one
pub place_in-held_as : (places : BTreeMap (Bor (List ℕ)) ℕ) (settings : List Pair) (key other : List ℕ) (held : Option ℕ) → AreFirst places settings
    → other ≡ key → held ≡ place_of places key → place_in settings other ≡ held
place_in-held_as places settings key other held first same is = ap (place_in settings) same ∙ place_in-held places settings key held first is

-- the places after a new key's pair was put last
pub AreFirst-put_new : (old new : BTreeMap (Bor (List ℕ)) ℕ) (settings : List Pair) (pair : Pair) (key : List ℕ) (place : ℕ) → AreFirst old settings
    → pair.key ≡ key → place_in settings pair.key ≡ None → place ≡ length settings → Notes old key place new → AreFirst new (settings ++ pair ∷ [])
AreFirst-put_new old new settings pair key place first same none last notes =
    AreFirst-push old new settings pair first none (λ other. notes other
    ∙ ap (λ (k : List ℕ). cond (bytes_eq k other) (Some place) (place_of old other)) (sym same)
    ∙ ap (λ (n : ℕ). cond (bytes_eq pair.key other) (Some n) (place_of old other)) last)
