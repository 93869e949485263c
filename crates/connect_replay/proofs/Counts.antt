-- How often a number stands among the first numbers of a range.
use Rattle.std.proofs.Common.{◌≡◌, ◌≢◌, ℕ, zero, suc, ◌+◌, ◌-◌, ◌<◌, Bool, true, false, cond, ℤ, pos, List, [], ◌∷◌, ◌++◌, refl, ap, sym, ◌∙◌, arith, zero-add, add-zero, add-suc, inl, inr, ◌⊎◌, ⊎_elim}
use Rattle.std.specs.Ordering.{int_eq}
use Rattle.std.proofs.lemmas.Bool.{false≢true}
use Rattle.std.proofs.lemmas.Bool.Decides.{Decides-int_eq}
use Rattle.std.proofs.lemmas.List.Sums.{sum_by-append}
use Rattle.connect_replay.specs.Range.{number_at, count_of}
use Rattle.connect_replay.proofs.Numbers.{number_at-apart}

-- the first numbers of a range, in order
abbrev pub firsts : ℤ → ℤ → ℕ → List ℤ
firsts start step zero = []
firsts start step (suc place) = firsts start step place ++ number_at start step place ∷ []

by_test : {P : Type 0} (t : Bool) → ((t ≡ true) → P) → (P → t ≡ true) → P ⊎ (P → ⊥)
by_test true sound complete = inl (sound refl)
by_test false sound complete = inr (λ p. absurd (false≢true (complete p)))

same_or_other : (a b : ℤ) → (a ≡ b) ⊎ (a ≢ b)
same_or_other a b = by_test (int_eq a b) (Decides-int_eq a b).0 (Decides-int_eq a b).1

-- one if the two are the same, else none
one_if : ℤ → ℤ → ℕ
one_if a b = cond (int_eq a b) 1 0

cond-untrue : (t : Bool) → ((t ≡ true) → ⊥) → ◌≡◌ {A = ℕ} (cond t 1 0) 0
cond-untrue true never = absurd (never refl)
cond-untrue false never = refl

one_if-same : (a b : ℤ) → b ≡ a → one_if a b ≡ 1
unfolding one_if
one_if-same a b same = ap (λ (t : Bool). cond t 1 0) ((Decides-int_eq a b).1 (sym same))

one_if-other : (a b : ℤ) → b ≢ a → one_if a b ≡ 0
unfolding one_if
one_if-other a b other = cond-untrue (int_eq a b) (λ same. other (sym ((Decides-int_eq a b).0 same)))

count-more : (start step : ℤ) (place : ℕ) (number : ℤ) → count_of number (firsts start step (suc place)) ≡ count_of number (firsts start step place) + one_if (number_at start step place) number
unfolding one_if
count-more start step place number =
    sum_by-append (λ (other : ℤ). cond (int_eq other number) 1 0) (firsts start step place) (number_at start step place ∷ [])
    ∙ ap (λ (last : ℕ). count_of number (firsts start step place) + last) (zero-add (one_if (number_at start step place) number))

-- a number at no place before this one does not stand among the numbers before it
count-none : (start step : ℤ) (places : ℕ) (number : ℤ) → ((place : ℕ) → place < places → number ≢ number_at start step place) → count_of number (firsts start step places) ≡ 0
count-none start step zero number none = refl
count-none start step (suc places) number none =
    let before = count-none start step places number (λ place within. none place (omega arith)) in
    let last = one_if-other (number_at start step places) number (none places (omega arith)) in
    count-more start step places number ∙ omega arith

later-apart : (start step : ℤ) (earlier place : ℕ) → earlier < place → step ≢ pos 0 → number_at start step place ≢ number_at start step earlier
later-apart start step earlier place within moves same =
    let sum : suc (earlier + (place - suc earlier)) ≡ place = omega arith in
    number_at-apart start step earlier (place - suc earlier) moves (ap (number_at start step) sum ∙ same)

-- where the step is not 0, the number at a place stands once among the numbers up to a later place
pub count-one : (start step : ℤ) (place more : ℕ) → step ≢ pos 0 → count_of (number_at start step place) (firsts start step (suc (place + more))) ≡ 1
count-one start step place zero moves =
    let number = number_at start step place in
    let none = count-none start step place number (λ earlier within same. later-apart start step earlier place within moves same) in
    let last = one_if-same number number refl in
    rw add-zero (count-more start step place number ∙ omega arith)
count-one start step place (suc more) moves =
    let number = number_at start step place in
    let before = count-one start step place more moves in
    let last = one_if-other (number_at start step (suc (place + more))) number (λ same. number_at-apart start step place more moves (sym same)) in
    rw add-suc (count-more start step (suc (place + more)) number ∙ omega arith)

-- what stands among the first numbers is the number at a place
pub place-found : (start step : ℤ) (places : ℕ) (number : ℤ) → 0 < count_of number (firsts start step places) → (place : ℕ) × (place < places) × (number_at start step place ≡ number)
place-found start step zero number some = absurd (omega arith)
place-found start step (suc places) number some =
    ⊎_elim
    (λ (same : number_at start step places ≡ number). (places, omega arith, same))
    (λ (other : number_at start step places ≢ number).
    let last = one_if-other (number_at start step places) number (λ same. other (sym same)) in
    let more = count-more start step places number in
    let left : 0 < count_of number (firsts start step places) = omega arith in
    let found = place-found start step places number left in
    (found.0, omega arith, found.2))
    (same_or_other (number_at start step places) number)
