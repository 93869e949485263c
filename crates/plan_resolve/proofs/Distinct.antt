-- Lists in which nothing stands twice.
use Rattle.std.proofs.Common.{◌≡◌, ◌≢◌, ℕ, zero, suc, ◌+◌, ◌<◌, List, [], ◌∷◌, ◌++◌, length, refl, sym, ap, ◌∙◌, arith}
use Rattle.std.specs.Prelude.{get_or}
use Rattle.std.specs.List.{AllByRecursion}

abbrev pub IsOther : {X : Type 0} → X → X → Type 0
IsOther x y = x ≢ y

abbrev pub NoTwice : {X : Type 0} → List X → Type 0
NoTwice [] = Unit {0}
NoTwice (x ∷ xs) = AllByRecursion (IsOther x) xs × NoTwice xs

-- no item of the one is one of the other
abbrev pub Apart : {X : Type 0} → List X → List X → Type 0
Apart xs ys = AllByRecursion (λ x. AllByRecursion (IsOther x) ys) xs

pub all_append : {X : Type 0} (P : X → Type 0) (xs ys : List X) → AllByRecursion P xs → AllByRecursion P ys → AllByRecursion P (xs ++ ys)
all_append P [] ys one other = other
all_append P (x ∷ xs) ys one other = (one.0, all_append P xs ys one.1 other)

pub no_twice_append : {X : Type 0} (xs ys : List X) → NoTwice xs → NoTwice ys → Apart xs ys → NoTwice (xs ++ ys)
no_twice_append [] ys one other apart = other
no_twice_append (x ∷ xs) ys one other apart = (all_append (IsOther x) xs ys one.0 apart.0, no_twice_append xs ys one.1 other apart.1)

-- an item of the list passes what all do
pub passed : {X : Type 0} (P : X → Type 0) (xs : List X) (i : ℕ) (d : X) → AllByRecursion P xs → i < length xs → P (get_or xs i d)
passed P [] i d all within = absurd (omega arith)
passed P (x ∷ xs) zero d all within = all.0
passed P (x ∷ xs) (suc i) d all within = passed P xs i d all.1 (omega arith)

pub same_place : {X : Type 0} (xs : List X) (i j : ℕ) (d : X) → NoTwice xs → i < length xs → j < length xs → get_or xs i d ≡ get_or xs j d → i ≡ j
same_place [] i j d once within too is = absurd (omega arith)
same_place (x ∷ xs) zero zero d once within too is = refl
same_place (x ∷ xs) zero (suc j) d once within too is = absurd (passed (IsOther x) xs j d once.0 (omega arith) is)
same_place (x ∷ xs) (suc i) zero d once within too is = absurd (passed (IsOther x) xs i d once.0 (omega arith) (sym is))
same_place (x ∷ xs) (suc i) (suc j) d once within too is = ap suc (same_place xs i j d once.1 (omega arith) (omega arith) is)

pub apart_append : {X : Type 0} (xs ys zs : List X) → Apart xs ys → Apart xs zs → Apart xs (ys ++ zs)
apart_append [] ys zs one other = tt
apart_append (x ∷ xs) ys zs one other = (all_append (IsOther x) ys zs one.0 other.0, apart_append xs ys zs one.1 other.1)
