-- The elements of a list that pass a test, where they stand together.
use Rattle.std.proofs.Common.{◌≡◌, ◌≤◌, ℕ, zero, suc, ◌+◌, Bool, true, false, cond, List, [], ◌∷◌, length, take, drop, refl, sym, ap, ◌∙◌, arith}
use Rattle.std.specs.Prelude.{filter, IsPermutation}
use Rattle.std.specs.List.{AllWithin}
use Rattle.std.proofs.lemmas.List.{nil_from_length}
use Rattle.std.proofs.lemmas.List.Sums.{length-filter}
use Rattle.plan_model.proofs.Multisets.{count_by-IsPermutation}

module _ {X : Type 0} (test : X → Bool) where
  passed : (x : X) (xs : List X) → test x ≡ true → filter test (x ∷ xs) ≡ x ∷ filter test xs
  passed x xs e = ap (λ (b : Bool). cond b (x ∷ filter test xs) (filter test xs)) e

  failed : (x : X) (xs : List X) → test x ≡ false → filter test (x ∷ xs) ≡ filter test xs
  failed x xs e = ap (λ (b : Bool). cond b (x ∷ filter test xs) (filter test xs)) e

  -- those from a place on, so many of them, are all that pass
  pub window : (xs : List X) (start count : ℕ) → start + count ≤ length xs → AllWithin (λ y. test y ≡ false) xs 0 start → AllWithin (λ y. test y ≡ true) xs start (start + count)
      → AllWithin (λ y. test y ≡ false) xs (start + count) (length xs) → filter test xs ≡ take count (drop start xs)
  window [] zero zero fits before within after = refl
  window [] zero (suc count) fits before within after = absurd (omega arith)
  window [] (suc start) count fits before within after = absurd (omega arith)
  window (x ∷ xs) zero zero fits before within after =
      failed x xs (after 0 x (omega arith) (omega arith)) ∙ window xs zero zero (omega arith) (λ k d l h. absurd (omega arith)) (λ k d l h. absurd (omega arith)) (λ k d l h. after (suc k) d (omega arith) (omega arith))
  window (x ∷ xs) zero (suc count) fits before within after =
      passed x xs (within 0 x (omega arith) (omega arith))
      ∙ ap (λ (ys : List X). x ∷ ys) (window xs zero count (omega arith) (λ k d l h. absurd (omega arith)) (λ k d l h. within (suc k) d (omega arith) (omega arith)) (λ k d l h. after (suc k) d (omega arith) (omega arith)))
  window (x ∷ xs) (suc start) count fits before within after =
      failed x xs (before 0 x (omega arith) (omega arith))
      ∙ window xs start count (omega arith) (λ k d l h. before (suc k) d (omega arith) (omega arith)) (λ k d l h. within (suc k) d (omega arith) (omega arith)) (λ k d l h. after (suc k) d (omega arith) (omega arith))

  -- what passes passes
  first_where : (x first : X) (xs rest : List X) (b : Bool) → test x ≡ b → (filter test xs ≡ first ∷ rest → test first ≡ true) → cond b (x ∷ filter test xs) (filter test xs) ≡ first ∷ rest → test first ≡ true
  first_where x first xs rest true e later h = let same : x ≡ first = cc in ap test (sym same) ∙ e
  first_where x first xs rest false e later h = later h

  pub first_passes : (xs rest : List X) (first : X) → filter test xs ≡ first ∷ rest → test first ≡ true
  first_passes [] rest first h = cc
  first_passes (x ∷ xs) rest first h = first_where x first xs rest (test x) refl (first_passes xs rest first) h

  pub none_permuted : (xs ys : List X) → IsPermutation xs ys → filter test xs ≡ [] → filter test ys ≡ []
  none_permuted xs ys p e =
      nil_from_length (filter test ys) (length-filter test ys ∙ sym (count_by-IsPermutation test xs ys p) ∙ sym (length-filter test xs) ∙ ap length e)

-- tests that agree keep the same elements
pub filter-alike : {X : Type 0} (p q : X → Bool) → ((x : X) → p x ≡ q x) → (xs : List X) → filter p xs ≡ filter q xs
filter-alike p q same [] = refl
filter-alike {X} p q same (x ∷ xs) =
    ap (λ (b : Bool). cond b (x ∷ filter p xs) (filter p xs)) (same x) ∙ ap (λ (ys : List X). cond (q x) (x ∷ ys) ys) (filter-alike p q same xs)
