-- Where at most one item passes, two places of items that pass are one.
use Rattle.std.proofs.Common.{◌≡◌, ℕ, zero, suc, ◌+◌, ◌<◌, ◌≤◌, Bool, List, [], ◌∷◌, true, false, cond, length, refl, ap, sym, ◌∙◌, subst, Some, None, Option, arith}
use Rattle.std.specs.Prelude.{count_by, nat_lt, position, slice_get, IsSomeAnd, Ok}
use Rattle.std.proofs.lemmas.Bool.{ltb-false}
use Rattle.std.proofs.lemmas.List.Quantifiers.{position-Some}
use Rattle.std.proofs.lemmas.List.Sums.{sum_by-cons}
use Rattle.std.proofs.lemmas.Option.{get_or_from_slice_get}
use Rattle.resolve_names.specs.declared.scope.ColumnOf.{ColumnOf}
use Rattle.resolve_names.specs.Checks.{Checked, or_refused, refused}
use Rattle.resolve_names.specs.Laws.{FoundIsTheOnlyOne}
use Rattle.resolve_names.specs.Refusals.{Refusal}
use Rattle.resolve_names.specs.Scopes.{ambiguous, is_named, named_place, only_place, unresolved}

abbrev weigh : Bool → ℕ
weigh passes = cond passes 1 0

module _ {X : Type 0} (p : X → Bool) where
  counted : (x : X) (xs : List X) → count_by p (x ∷ xs) ≡ weigh (p x) + count_by p xs
  counted x xs = sum_by-cons (λ y. weigh (p y)) x xs

  -- an item that passes is counted
  at_least : (xs : List X) (x : X) (i : ℕ) → slice_get xs i ≡ Some x → p x ≡ true → 1 ≤ count_by p xs
  at_least [] x i at passes = cc
  at_least (y ∷ ys) x zero at passes =
      let same : y ≡ x = cc in
      let own : weigh (p y) ≡ 1 = ap weigh (ap p same ∙ passes) in
      omega (arith, counted y ys, own)
  at_least (y ∷ ys) x (suc i) at passes = omega (arith, counted y ys, at_least ys x i at passes)

  one_place : (xs : List X) (x y : X) (i j : ℕ) → count_by p xs ≤ 1 → slice_get xs i ≡ Some x → p x ≡ true → slice_get xs j ≡ Some y → p y ≡ true → i ≡ j
  one_place [] x y i j few at passes other also = cc
  one_place (z ∷ zs) x y zero zero few at passes other also = refl
  one_place (z ∷ zs) x y zero (suc j) few at passes other also =
      let same : z ≡ x = cc in
      let own : weigh (p z) ≡ 1 = ap weigh (ap p same ∙ passes) in
      let rest : 1 ≤ count_by p zs = at_least zs y j other also in
      absurd (omega (arith, counted z zs, own, rest, few))
  one_place (z ∷ zs) x y (suc i) zero few at passes other also =
      let same : z ≡ y = cc in
      let own : weigh (p z) ≡ 1 = ap weigh (ap p same ∙ also) in
      let rest : 1 ≤ count_by p zs = at_least zs x i at passes in
      absurd (omega (arith, counted z zs, own, rest, few))
  one_place (z ∷ zs) x y (suc i) (suc j) few at passes other also =
      let fewer : count_by p zs ≤ 1 = omega (arith, counted z zs, few) in
      ap suc (one_place zs x y i j fewer at passes other also)

-- the place that is found is that of an item that passes, and at most one does
module _ {X : Type 0} (p : X → Bool) (none many : Refusal) (xs : List X) where
  few_pass : (place : ℕ) → only_place none many p xs ≡ Ok place → (count_by p xs ≤ 1) × (position p xs ≡ Some place)
  few_pass place e = by (nat_lt 1 (count_by p xs)) refl e
    where
      found : (o : Option ℕ) → ◌≡◌ {A = Checked ℕ} (or_refused none o) (Ok place) → o ≡ Some place
      found None e = cc
      found (Some i) e = cc

      by : (test : Bool) → nat_lt 1 (count_by p xs) ≡ test → ◌≡◌ {A = Checked ℕ} (cond test (refused many) (or_refused none (position p xs))) (Ok place) →
          (count_by p xs ≤ 1) × (position p xs ≡ Some place)
      by true is e = cc
      by false is e = (ltb-false 1 (count_by p xs) is, found (position p xs) e)

some_at : {X : Type 0} (P : X → Type 0) (xs : List X) (i : ℕ) → IsSomeAnd (slice_get xs i) P → (x : X) × ((slice_get xs i ≡ Some x) × P x)
some_at {X} P xs i h = by (slice_get xs i) refl h
  where
    by : (o : Option X) → slice_get xs i ≡ o → IsSomeAnd o P → (x : X) × ((slice_get xs i ≡ Some x) × P x)
    by None is h = absurd h
    by (Some x) is h = (x, (is, h))

at_some : {X : Type 0} (P : X → Type 0) (xs : List X) (i : ℕ) (x : X) → slice_get xs i ≡ Some x → P x → IsSomeAnd (slice_get xs i) P
at_some {X} P xs i x is h = subst (λ (o : Option X). IsSomeAnd o P) (sym is) h

-- an item at a place within
there : {X : Type 0} (xs : List X) (i : ℕ) → i < length xs → (x : X) × (slice_get xs i ≡ Some x)
there [] i within = absurd (omega arith)
there (x ∷ xs) zero within = (x, refl)
there (x ∷ xs) (suc i) within = there xs i (omega arith)

position_within : {X : Type 0} (p : X → Bool) (xs : List X) (i : ℕ) → position p xs ≡ Some i → i < length xs
position_within p [] i e = cc
position_within p (x ∷ xs) i e = (position-Some p (x ∷ xs) i x e).0

pub found_is_the_only_one : FoundIsTheOnlyOne
unfolding named_place
found_is_the_only_one columns exact identifier parts place other e =
    let p : ColumnOf ℕ → Bool = is_named exact parts in
    let found = few_pass p (unresolved identifier) (ambiguous identifier) columns place e in
    let within : place < length columns = position_within p columns place found.1 in
    let own = there columns place within in
    let passes : p own.0 ≡ true
    = ap p (sym (get_or_from_slice_get columns place own.0 own.0 own.1)) ∙ (position-Some p columns place own.0 found.1).1 in (
      at_some (λ column. p column ≡ true) columns place own.0 own.1 passes,
      λ h. let one = some_at (λ column. p column ≡ true) columns other h in one_place p columns one.0 own.0 other place found.0 one.1.0 one.1.1 own.1 passes,
    )
