-- One more record at the end of those that were read.
use Rattle.std.proofs.Common.{◌≡◌, ℕ, ◌+◌, ◌-◌, ◌<◌, Bool, true, false, not, List, [], ◌∷◌, ◌++◌, length, get_or, take, map, Option, None, Some, refl, sym, ap, ◌∙◌, arith}
use Rattle.std.specs.Option.{option_or}
use Rattle.std.specs.List.{filter_map, suffix_len}
use Rattle.std.specs.Prelude.{option_map}
use Rattle.std.proofs.lemmas.List.Elements.{filter_map-append}
use Rattle.std.proofs.lemmas.List.{take_more, map-append, append-nil, length-map}
use Rattle.std.proofs.Math.ListN.{get_or-map}
use Rattle.std.proofs.lemmas.List.Sums.{suffix_len-take_yes, suffix_len-take_no}
use Rattle.proto_fields.specs.Readings.{last_some}

pub option_or-assoc : {A : Type 0} → (a b c : Option A) → option_or (option_or a b) c ≡ option_or a (option_or b c)
option_or-assoc None b c = refl
option_or-assoc (Some x) b c = refl

pub option_or-none : {A : Type 0} → (a : Option A) → option_or a None ≡ a
option_or-none None = refl
option_or-none (Some x) = refl

pub last_some-push : {A B : Type 0} (read : A → Option B) (xs : List A) (x : A) → last_some read (xs ++ x ∷ []) ≡ option_or (read x) (last_some read xs)
unfolding last_some
last_some-push read [] x = sym (option_or-none (read x))
last_some-push read (y ∷ xs) x =
    rw (last_some-push read xs x) (option_or-assoc (read x) (last_some read xs) (read y))

-- one more of the records of the code
pub seen-take : {A B : Type 0} (view : A → B) (xs : List A) (i : ℕ) (d : A) → i < length xs → map view (take (i + 1) xs) ≡ map view (take i xs) ++ view (get_or xs i d) ∷ []
seen-take view xs i d room = ap (map view) (take_more xs i d room) ∙ map-append view (take i xs) (get_or xs i d ∷ [])

pub last_some-take : {A B C : Type 0} (read : B → Option C) (view : A → B) (xs : List A) (i : ℕ) (d : A) → i < length xs →
    last_some read (map view (take (i + 1) xs)) ≡ option_or (read (view (get_or xs i d))) (last_some read (map view (take i xs)))
last_some-take read view xs i d room =
    ap (last_some read) (seen-take view xs i d room) ∙ last_some-push read (map view (take i xs)) (view (get_or xs i d))

-- the last of what is read, after one more record
pub last_some-next : {A B C : Type 0} (read : B → Option C) (view : A → B) (xs : List A) (i : ℕ) (d : A) (found last next : Option C) → i < length xs →
    found ≡ read (view (get_or xs i d)) → last ≡ last_some read (map view (take i xs)) → next ≡ option_or found last → next ≡ last_some read (map view (take (i + 1) xs))
last_some-next read view xs i d found last next room found_is last_is next_is =
    next_is ∙ rw (found_is, last_is) (sym (last_some-take read view xs i d room))

option_map-or : {A B : Type 0} (f : A → B) (a b : Option A) → option_map f (option_or a b) ≡ option_or (option_map f a) (option_map f b)
option_map-or f None b = refl
option_map-or f (Some x) b = refl

-- the same where what the code keeps is seen through a view
pub last_some-next_seen : {A B C D : Type 0} (read : B → Option C) (view : A → B) (kept : D → C) (xs : List A) (i : ℕ) (d : A) (found last next : Option D) → i < length xs →
    option_map kept found ≡ read (view (get_or xs i d)) → option_map kept last ≡ last_some read (map view (take i xs)) → next ≡ option_or found last → option_map kept next ≡ last_some read (map view (take (i + 1) xs))
last_some-next_seen read view kept xs i d found last next room found_is last_is next_is =
    last_some-next read view xs i d (option_map kept found) (option_map kept last) (option_map kept next) room found_is last_is
    (ap (option_map kept) next_is ∙ option_map-or kept found last)

-- what is read of all, after one more record of which something is read
pub filter_map-some : {A B C D : Type 0} (read : B → Option C) (view : A → B) (kept : D → C) (xs : List A) (i : ℕ) (d : A) (found next : List D) (here : Option D) (x : D) → i < length xs →
    here ≡ Some x → option_map kept here ≡ read (view (get_or xs i d)) → map kept found ≡ filter_map read (map view (take i xs)) → next ≡ found ++ x ∷ [] → map kept next ≡ filter_map read (map view (take (i + 1) xs))
filter_map-some {C = C} read view kept xs i d found next here x room is here_is found_is next_is =
    let some : read (view (get_or xs i d)) ≡ Some (kept x) = sym here_is ∙ ap (option_map kept) is in
    let one : filter_map read (view (get_or xs i d) ∷ []) ≡ kept x ∷ [] = rw some refl in
    ap (map kept) next_is ∙ map-append kept found (x ∷ []) ∙ ap (λ (ys : List C). ys ++ kept x ∷ []) found_is
    ∙ sym (ap (filter_map read) (seen-take view xs i d room) ∙ filter_map-append read (map view (take i xs)) (view (get_or xs i d) ∷ []) ∙ ap (λ (ys : List C). filter_map read (map view (take i xs)) ++ ys) one)

-- and after one of which nothing is
pub filter_map-none : {A B C D : Type 0} (read : B → Option C) (view : A → B) (kept : D → C) (xs : List A) (i : ℕ) (d : A) (found next : List D) (here : Option D) → i < length xs →
    here ≡ None → option_map kept here ≡ read (view (get_or xs i d)) → map kept found ≡ filter_map read (map view (take i xs)) → next ≡ found → map kept next ≡ filter_map read (map view (take (i + 1) xs))
filter_map-none {C = C} read view kept xs i d found next here room is here_is found_is next_is =
    let nothing : read (view (get_or xs i d)) ≡ None = sym here_is ∙ ap (option_map kept) is in
    let one : filter_map read (view (get_or xs i d) ∷ []) ≡ [] = rw nothing refl in
    ap (map kept) next_is ∙ found_is
    ∙ sym (ap (filter_map read) (seen-take view xs i d room) ∙ filter_map-append read (map view (take i xs)) (view (get_or xs i d) ∷ []) ∙ ap (λ (ys : List C). filter_map read (map view (take i xs)) ++ ys) one ∙ append-nil (filter_map read (map view (take i xs))))

-- ---- the place after the last record that passes a test

-- the test of one more record
test_at : {A B : Type 0} (test : B → Bool) (view : A → B) (xs : List A) (i : ℕ) (d : A) (here : Bool) → here ≡ test (view (get_or xs i d)) → not (test (get_or (map view xs) (i + 1 - 1) (view d))) ≡ not here
test_at test view xs i d here is =
    let place : i + 1 - 1 ≡ i = omega arith in
    rw (place, get_or-map view xs i d, ← is) refl

pub place-passed : {A B : Type 0} (test : B → Bool) (view : A → B) (xs : List A) (i : ℕ) (d : A) (here : Bool) (place : ℕ) → i < length xs → here ≡ test (view (get_or xs i d)) → here ≡ true → place ≡ i + 1 →
    place + suffix_len (λ x. not (test x)) (take (i + 1) (map view xs)) ≡ i + 1
place-passed test view xs i d here place room is passed place_is =
    let fails = test_at test view xs i d here is ∙ ap not passed in
    let none = suffix_len-take_no (λ x. not (test x)) (map view xs) (i + 1) (view d) (omega arith) (omega (arith, length-map xs view)) fails in
    omega arith

pub place-kept : {A B : Type 0} (test : B → Bool) (view : A → B) (xs : List A) (i : ℕ) (d : A) (here : Bool) (before place : ℕ) → i < length xs → here ≡ test (view (get_or xs i d)) → here ≡ false →
    before + suffix_len (λ x. not (test x)) (take i (map view xs)) ≡ i → place ≡ before → place + suffix_len (λ x. not (test x)) (take (i + 1) (map view xs)) ≡ i + 1
place-kept test view xs i d here before place room is failed before_is place_is =
    let passes = test_at test view xs i d here is ∙ ap not failed in
    let back : i + 1 - 1 ≡ i = omega arith in
    let more = suffix_len-take_yes (λ x. not (test x)) (map view xs) (i + 1) (view d) (omega arith) (omega (arith, length-map xs view)) passes in
    let more' = rw back at more in
    omega arith
