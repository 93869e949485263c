-- Lists as multisets, where a test tells all elements apart: lists with the same counts are permutations of one another.
use Rattle.std.proofs.Common.{◌≡◌, ◌↔◌, ℕ, zero, suc, inl, inr, ◌+◌, ◌<◌, ◌*◌, min, Bool, true, false, cond, List, [], ◌∷◌, ◌++◌, map, replicate, refl, sym, ap, ◌∙◌, subst, arith}
use Rattle.std.specs.List.{AllByRecursion, count_by, sum_by, filter, flat_map, list_any}
use Rattle.std.specs.List.Sorted.{IsPermutation}
use Rattle.std.proofs.lemmas.Bool.{false≢true, or_parts, or_cases}
use Rattle.std.proofs.lemmas.List.Sorted.{IsPermutation-refl, IsPermutation-cons, IsPermutation-sym, IsPermutation-trans, IsPermutation-middle, sum_by-IsPermutation}
use Rattle.std.proofs.lemmas.List.Sums.{sum_by-cons, sum_by-append}

count_by-cons : {A : Type 0} (p : A → Bool) (x : A) (xs : List A) → count_by p (x ∷ xs) ≡ cond (p x) 1 0 + count_by p xs
count_by-cons p x xs = sum_by-cons (λ y. cond (p y) 1 0) x xs

pub count_by-append : {A : Type 0} (p : A → Bool) (xs ys : List A) → count_by p (xs ++ ys) ≡ count_by p xs + count_by p ys
count_by-append p xs ys = sum_by-append (λ y. cond (p y) 1 0) xs ys

pub count_by-IsPermutation : {A : Type 0} (p : A → Bool) (xs ys : List A) → IsPermutation xs ys → count_by p xs ≡ count_by p ys
count_by-IsPermutation p xs ys h = sym (sum_by-IsPermutation (λ y. cond (p y) 1 0) xs ys h)

pub count_by-flat_map : {A B : Type 0} (p : B → Bool) (f : A → List B) (xs : List A) → count_by p (flat_map f xs) ≡ sum_by (λ x. count_by p (f x)) xs
count_by-flat_map p f [] = refl
count_by-flat_map p f (x ∷ xs) =
    count_by-append p (f x) (flat_map f xs) ∙ ap (λ n. count_by p (f x) + n) (count_by-flat_map p f xs) ∙ sym (sum_by-cons (λ y. count_by p (f y)) x xs)

kept_all : {A : Type 0} (P : A → Type 0) (b : Bool) (x : A) (xs : List A) → P x → AllByRecursion P xs → AllByRecursion P (cond b (x ∷ xs) xs)
kept_all P true x xs here rest = (here, rest)
kept_all P false x xs here rest = rest

-- what holds of all elements holds of those that pass
pub AllByRecursion-filter : {A : Type 0} (P : A → Type 0) (p : A → Bool) (xs : List A) → AllByRecursion P xs → AllByRecursion P (filter p xs)
AllByRecursion-filter P p [] all = tt
AllByRecursion-filter P p (x ∷ xs) all = kept_all P (p x) x (filter p xs) all.0 (AllByRecursion-filter P p xs all.1)

module _ {A : Type 0} (eq : A → A → Bool) (exact : (a b : A) → (eq a b ≡ true) ↔ (a ≡ b)) where
  -- how often an element stands in a list
  abbrev pub copies : List A → A → ℕ
  copies xs a = count_by (eq a) xs

  -- equally often, each element
  abbrev pub Same : List A → List A → Type 0
  Same xs ys = (a : A) → copies xs a ≡ copies ys a

  pub itself : (a : A) → eq a a ≡ true
  itself a = (exact a a).1 refl

  pub copies-cons : (x : A) (xs : List A) (a : A) → copies (x ∷ xs) a ≡ cond (eq a x) 1 0 + copies xs a
  copies-cons x xs a = count_by-cons (eq a) x xs

  pub copies-here : (x : A) (xs : List A) → copies (x ∷ xs) x ≡ 1 + copies xs x
  copies-here x xs = copies-cons x xs x ∙ ap (λ (b : Bool). cond b 1 0 + copies xs x) (itself x)

  pub copies-append : (xs ys : List A) (a : A) → copies (xs ++ ys) a ≡ copies xs a + copies ys a
  copies-append xs ys a = count_by-append (eq a) xs ys

  pub copies-middle : (p : List A) (x : A) (q : List A) (a : A) → copies (p ++ (x ∷ q)) a ≡ cond (eq a x) 1 0 + copies (p ++ q) a
  copies-middle p x q a = omega (arith, copies-append p (x ∷ q) a, copies-cons x q a, copies-append p q a)

  -- where an element stands
  abbrev pub Found : List A → A → Type 0
  Found xs a = (p : List A) × (q : List A) × (xs ≡ p ++ (a ∷ q))

  found_first : (x : A) (xs : List A) (a : A) → a ≡ x → Found (x ∷ xs) a
  found_first x xs a e = ([], xs, ap (λ (y : A). y ∷ xs) (sym e))

  found_later : (x : A) (xs : List A) (a : A) → Found xs a → Found (x ∷ xs) a
  found_later x xs a f = (x ∷ f.0, f.1, ap (λ (ys : List A). x ∷ ys) f.2)

  -- a list's count by whether its first element is the one
  pub count_of_rest : (x : A) (xs : List A) (a : A) (b : Bool) → eq a x ≡ b → copies (x ∷ xs) a ≡ cond b 1 0 + copies xs a
  count_of_rest x xs a b e = copies-cons x xs a ∙ ap (λ (c : Bool). cond c 1 0 + copies xs a) e

  found_where : (x : A) (xs : List A) (a : A) (b : Bool) → eq a x ≡ b → 0 < copies (x ∷ xs) a → (0 < copies xs a → Found xs a) → Found (x ∷ xs) a
  found_where x xs a true e h later = found_first x xs a ((exact a x).0 e)
  found_where x xs a false e h later = found_later x xs a (later (omega (arith, count_of_rest x xs a false e)))

  pub found : (xs : List A) (a : A) → 0 < copies xs a → Found xs a
  found [] a h = absurd (omega arith)
  found (x ∷ xs) a h = found_where x xs a (eq a x) refl h (found xs a)

  empty_has_none : (y : A) (ys : List A) → Same [] (y ∷ ys) → ⊥
  empty_has_none y ys h = omega (arith, h y, copies-here y ys)

  rest_same : (x : A) (xs p q : List A) → Same (x ∷ xs) (p ++ (x ∷ q)) → Same xs (p ++ q)
  rest_same x xs p q h a = omega (arith, h a, copies-cons x xs a, copies-middle p x q a)

  -- where the first element of one list stands in the other
  pub first_found : (x : A) (xs ys : List A) → Same (x ∷ xs) ys → Found ys x
  first_found x xs ys h = found ys x (omega (arith, h x, copies-here x xs))

  pub rest_found : (x : A) (xs ys : List A) (h : Same (x ∷ xs) ys) (f : Found ys x) → Same xs (f.0 ++ f.1)
  rest_found x xs ys h f = rest_same x xs f.0 f.1 (λ a. h a ∙ ap (λ (zs : List A). copies zs a) f.2)

  -- lists with the same counts are permutations
  pub permuted : (xs ys : List A) → Same xs ys → IsPermutation xs ys
  permuted [] [] h = IsPermutation-refl []
  permuted [] (y ∷ ys) h = absurd (empty_has_none y ys h)
  permuted (x ∷ xs) ys h =
      let f = first_found x xs ys h in
      let rest : IsPermutation (x ∷ xs) (x ∷ (f.0 ++ f.1)) = IsPermutation-cons x xs (f.0 ++ f.1) (permuted xs (f.0 ++ f.1) (rest_found x xs ys h f)) in
      let moved : IsPermutation (x ∷ (f.0 ++ f.1)) (f.0 ++ (x ∷ f.1)) = IsPermutation-sym (f.0 ++ (x ∷ f.1)) (x ∷ (f.0 ++ f.1)) (IsPermutation-middle f.0 x f.1) in
      subst (IsPermutation (x ∷ xs)) (sym f.2) (IsPermutation-trans (x ∷ xs) (x ∷ (f.0 ++ f.1)) (f.0 ++ (x ∷ f.1)) rest moved)

  pub same_from_permutation : (xs ys : List A) → IsPermutation xs ys → Same xs ys
  same_from_permutation xs ys h a = count_by-IsPermutation (eq a) xs ys h

  -- a function of a list that takes one element from any place alike
  pub kept : {B : Type 0} (F : List A → B) (step : A → B → B) → ((x : A) (p q : List A) → F (p ++ (x ∷ q)) ≡ step x (F (p ++ q))) → (xs ys : List A) → Same xs ys → F xs ≡ F ys
  kept F step takes [] [] h = refl
  kept F step takes [] (y ∷ ys) h = absurd (empty_has_none y ys h)
  kept F step takes (x ∷ xs) ys h =
      let f = first_found x xs ys h in
      takes x [] xs ∙ ap (step x) (kept F step takes xs (f.0 ++ f.1) (rest_found x xs ys h f)) ∙ sym (takes x f.0 f.1) ∙ ap F (sym f.2)

  -- what holds of all elements that stand in a list
  pub All-from_copies : (P : A → Type 0) (xs : List A) → ((a : A) → 0 < copies xs a → P a) → AllByRecursion P xs
  All-from_copies P [] h = tt
  All-from_copies P (x ∷ xs) h = (h x (omega (arith, copies-here x xs)), All-from_copies P xs (λ a more. h a (omega (arith, copies-cons x xs a))))

  All_where : (P : A → Type 0) (x : A) (xs : List A) (a : A) (b : Bool) → eq a x ≡ b → P x → 0 < copies (x ∷ xs) a → (0 < copies xs a → P a) → P a
  All_where P x xs a true e here h later = subst P (sym ((exact a x).0 e)) here
  All_where P x xs a false e here h later = later (omega (arith, count_of_rest x xs a false e))

  pub copies-from_All : (P : A → Type 0) (xs : List A) → AllByRecursion P xs → (a : A) → 0 < copies xs a → P a
  copies-from_All P [] all a h = absurd (omega arith)
  copies-from_All P (x ∷ xs) all a h = All_where P x xs a (eq a x) refl all.0 h (copies-from_All P xs all.1 a)

  -- a filter keeps all copies of what passes
  filter_where : (p : A → Bool) (x : A) (xs : List A) (a : A) (b c : Bool) → p x ≡ b → eq a x ≡ c → copies (filter p xs) a ≡ cond (p a) (copies xs a) 0
      → copies (cond b (x ∷ filter p xs) (filter p xs)) a ≡ cond (p a) (copies (x ∷ xs) a) 0
  filter_where p x xs a true true e f h =
      let passes : p a ≡ true = ap p ((exact a x).0 f) ∙ e in
      let before : copies (filter p xs) a ≡ copies xs a = h ∙ ap (λ (t : Bool). cond t (copies xs a) 0) passes in
      count_of_rest x (filter p xs) a true f ∙ ap (λ n. 1 + n) before ∙ sym (count_of_rest x xs a true f) ∙ ap (λ (t : Bool). cond t (copies (x ∷ xs) a) 0) (sym passes)
  filter_where p x xs a true false e f h =
      let rest : copies (x ∷ xs) a ≡ copies xs a = omega (arith, count_of_rest x xs a false f) in
      let kept_rest : copies (x ∷ filter p xs) a ≡ copies (filter p xs) a = omega (arith, count_of_rest x (filter p xs) a false f) in
      kept_rest ∙ h ∙ ap (λ n. cond (p a) n 0) (sym rest)
  filter_where p x xs a false true e f h =
      let fails : p a ≡ false = ap p ((exact a x).0 f) ∙ e in
      h ∙ ap (λ (t : Bool). cond t (copies xs a) 0) fails ∙ ap (λ (t : Bool). cond t (copies (x ∷ xs) a) 0) (sym fails)
  filter_where p x xs a false false e f h =
      let rest : copies (x ∷ xs) a ≡ copies xs a = omega (arith, count_of_rest x xs a false f) in
      h ∙ ap (λ n. cond (p a) n 0) (sym rest)

  none_passes : (b : Bool) → ◌≡◌ {A = ℕ} 0 (cond b 0 0)
  none_passes true = refl
  none_passes false = refl

  pub copies-filter : (p : A → Bool) (xs : List A) (a : A) → copies (filter p xs) a ≡ cond (p a) (copies xs a) 0
  copies-filter p [] a = none_passes (p a)
  copies-filter p (x ∷ xs) a = filter_where p x xs a (p x) (eq a x) refl refl (copies-filter p xs a)

  one_more : (b : Bool) (n : ℕ) → cond b 1 0 + cond b n 0 ≡ cond b (suc n) 0
  one_more true n = omega arith
  one_more false n = omega arith

  -- an element stands so often in a list of its copies, and no other does
  pub copies-replicate : (n : ℕ) (x a : A) → copies (replicate n x) a ≡ cond (eq a x) n 0
  copies-replicate zero x a = none_passes (eq a x)
  copies-replicate (suc n) x a = copies-cons x (replicate n x) a ∙ ap (λ m. cond (eq a x) 1 0 + m) (copies-replicate n x a) ∙ one_more (eq a x) n

  one_term : (g : A → ℕ) (x : A) (xs : List A) (a : A) (b : Bool) → eq a x ≡ b → cond b (g x) 0 + copies xs a * g a ≡ copies (x ∷ xs) a * g a
  one_term g x xs a true e =
      let same : g x ≡ g a = ap g (sym ((exact a x).0 e)) in
      omega (arith, ap (λ n. n * g a) (count_of_rest x xs a true e), same)
  one_term g x xs a false e = omega (arith, ap (λ n. n * g a) (count_of_rest x xs a false e))

  -- a sum over a list, of the terms of one element
  pub sum_of_one : (g : A → ℕ) (xs : List A) (a : A) → sum_by (λ x. cond (eq a x) (g x) 0) xs ≡ copies xs a * g a
  sum_of_one g [] a = omega arith
  sum_of_one g (x ∷ xs) a =
      sum_by-cons (λ y. cond (eq a y) (g y) 0) x xs ∙ ap (λ n. cond (eq a x) (g x) 0 + n) (sum_of_one g xs a) ∙ one_term g x xs a (eq a x) refl

  -- lists by a key of their elements
  module _ {X : Type 0} (key : X → A) where
    no_copies : (k : A) (xs : List X) → list_any (λ y. eq k (key y)) xs ≡ false → copies (map key xs) k ≡ 0
    no_copies k [] h = refl
    no_copies k (x ∷ xs) h =
        let parts = or_parts (eq k (key x)) (list_any (λ y. eq k (key y)) xs) h in
        omega (arith, count_of_rest (key x) (map key xs) k false parts.0, no_copies k xs parts.1)

    some_copies : (k : A) (xs : List X) → list_any (λ y. eq k (key y)) xs ≡ true → 0 < copies (map key xs) k
    some_copies k [] h = absurd (false≢true h)
    some_copies k (x ∷ xs) h = elim (or_cases (eq k (key x)) (list_any (λ y. eq k (key y)) xs) h) [
      | inl here ↦ omega (arith, count_of_rest (key x) (map key xs) k true here)
      | inr later ↦ omega (arith, copies-cons (key x) (map key xs) k, some_copies k xs later)
    ]

    keys_where : (x : X) (xs ys : List X) (a : A) (b c : Bool) → list_any (λ y. eq (key x) (key y)) xs ≡ b → eq a (key x) ≡ c
        → copies (map key ys) a ≡ min (copies (map key xs) a) 1 → copies (map key (cond b ys (x ∷ ys))) a ≡ min (copies (map key (x ∷ xs)) a) 1
    keys_where x xs ys a true true h e before =
        let some : 0 < copies (map key xs) a = subst (λ k. 0 < copies (map key xs) k) (sym ((exact a (key x)).0 e)) (some_copies (key x) xs h) in
        omega (arith, count_of_rest (key x) (map key xs) a true e, before)
    keys_where x xs ys a true false h e before = omega (arith, count_of_rest (key x) (map key xs) a false e, before)
    keys_where x xs ys a false true h e before =
        let none : copies (map key xs) a ≡ 0 = subst (λ k. copies (map key xs) k ≡ 0) (sym ((exact a (key x)).0 e)) (no_copies (key x) xs h) in
        omega (arith, count_of_rest (key x) (map key xs) a true e, count_of_rest (key x) (map key ys) a true e, before)
    keys_where x xs ys a false false h e before = omega (arith, count_of_rest (key x) (map key xs) a false e, count_of_rest (key x) (map key ys) a false e, before)

    -- a list that leaves out an element whose key stands behind it has each key once
    pub keys_once : (F : List X → List X) → F [] ≡ [] → ((x : X) (xs : List X) → F (x ∷ xs) ≡ cond (list_any (λ y. eq (key x) (key y)) xs) (F xs) (x ∷ F xs))
        → (xs : List X) (a : A) → copies (map key (F xs)) a ≡ min (copies (map key xs) a) 1
    keys_once F none step [] a = ap (λ (ys : List X). copies (map key ys) a) none
    keys_once F none step (x ∷ xs) a =
        ap (λ (ys : List X). copies (map key ys) a) (step x xs)
        ∙ keys_where x xs (F xs) a (list_any (λ y. eq (key x) (key y)) xs) (eq a (key x)) refl refl (keys_once F none step xs a)
