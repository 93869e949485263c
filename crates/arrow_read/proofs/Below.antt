-- Tests, misses and faults of the numbers below one.
use Rattle.std.proofs.Common.{◌≡◌, ℕ, zero, suc, ◌<◌, ◌⊎◌, inl, inr, Bool, true, false, ◌&&◌, Option, None, Some, arith, refl, ap, ◌∙◌, subst, sym}
use Rattle.std.proofs.lemmas.Bool.{both_ways, cases_lt, and_parts, false_from_ne_true}
use Rattle.arrow_read.specs.declared.fault.ArrowFault.{ArrowFault}
use Rattle.arrow_read.specs.Columns.{all_below, later, first_fault}

-- a number below the next one is below this one or is it
split : (i n : ℕ) → i < suc n → (i < n) ⊎ (i ≡ n)
split i n h = elim (cases_lt i n) [ inl l ↦ inl l | inr l ↦ inr (omega arith) ]

pub all_below_at : (n : ℕ) (test : ℕ → Bool) → all_below n test ≡ true → (i : ℕ) → i < n → test i ≡ true
all_below_at zero test h i l = absurd (omega arith)
all_below_at (suc n) test h i l =
    let parts = and_parts (all_below n test) (test n) h in
    elim (split i n l) [ inl below ↦ all_below_at n test parts.0 i below | inr here ↦ subst (λ (k : ℕ). test k ≡ true) (sym here) parts.1 ]

pub all_below_from : (n : ℕ) (test : ℕ → Bool) → ((i : ℕ) → i < n → test i ≡ true) → all_below n test ≡ true
all_below_from zero test h = refl
all_below_from (suc n) test h =
    ap (λ (b : Bool). b && test n) (all_below_from n test (λ i l. h i (omega arith))) ∙ h n (omega arith)

pub all_below_miss : (n : ℕ) (test : ℕ → Bool) (i : ℕ) → i < n → test i ≡ false → all_below n test ≡ false
all_below_miss n test i l f = false_from_ne_true (all_below n test) (λ e. both_ways (test i) f (all_below_at n test e i l))

pub fault_at : (n : ℕ) (faults : ℕ → Option ArrowFault) (i : ℕ) (x : ArrowFault) → i < n → first_fault i faults ≡ None → faults i ≡ Some x → first_fault n faults ≡ Some x
fault_at zero faults i x l h f = absurd (omega arith)
fault_at (suc n) faults i x l h f = elim (split i n l) [
  | inl below ↦ ap (λ (o : Option ArrowFault). later o (faults n)) (fault_at n faults i x below h f)
  | inr here ↦
      let none : first_fault n faults ≡ None = subst (λ (k : ℕ). first_fault k faults ≡ None) here h in
      ap (λ (o : Option ArrowFault). later o (faults n)) none ∙ subst (λ (k : ℕ). faults k ≡ Some x) here f
]

pub no_fault_at : (n : ℕ) (faults : ℕ → Option ArrowFault) → first_fault n faults ≡ None → (i : ℕ) → i < n → faults i ≡ None
no_fault_at zero faults h i l = absurd (omega arith)
no_fault_at (suc n) faults h i l = elim (split i n l) [ inl below ↦ no_fault_at n faults (before (first_fault n faults) h) i below | inr here ↦ subst (λ (k : ℕ). faults k ≡ None) (sym here) (last (first_fault n faults) h) ]
  where
    before : (o : Option ArrowFault) → later o (faults n) ≡ None → o ≡ None
    before None e = refl
    before (Some x) e = absurd (cc)

    last : (o : Option ArrowFault) → later o (faults n) ≡ None → faults n ≡ None
    last None e = e
    last (Some x) e = absurd (cc)

pub no_fault_from : (n : ℕ) (faults : ℕ → Option ArrowFault) → ((i : ℕ) → i < n → faults i ≡ None) → first_fault n faults ≡ None
no_fault_from zero faults h = refl
no_fault_from (suc n) faults h = ap (λ (o : Option ArrowFault). later o (faults n)) (no_fault_from n faults (λ i l. h i (omega arith))) ∙ h n (omega arith)
