-- The numbers of a range by their places: a range with a step rises or falls at each place.
use Rattle.std.proofs.Common.{◌≡◌, ◌≢◌, ℕ, zero, suc, ◌+◌, ◌-◌, ◌<◌, ℤ, pos, ◌+ℤ◌, ◌*ℤ◌, ◌<ℤ◌, ◌≤ℤ◌, arith, add-zero, add-suc, ◌⊎◌, ⊎_elim, subst, true}
use lib.Signed.{le_z}
use Rattle.std.proofs.lemmas.Bool.{cases_lt}
use Rattle.std.proofs.lemmas.Int.{ints}
use Rattle.connect_replay.specs.Range.{number_at, IsBefore}

-- the numbers of a rising range never fall
number_at-≤ : (start step : ℤ) (place more : ℕ) → pos 0 <ℤ step → number_at start step place ≤ℤ number_at start step (place + more)
number_at-≤ start step place zero up = rw add-zero (omega (arith, ints))
number_at-≤ start step place (suc more) up = rw add-suc (let before = number_at-≤ start step place more up in omega (arith, ints, before))

-- those of a falling range never rise
number_at-≥ : (start step : ℤ) (place more : ℕ) → step <ℤ pos 0 → number_at start step (place + more) ≤ℤ number_at start step place
number_at-≥ start step place zero down = rw add-zero (omega (arith, ints))
number_at-≥ start step place (suc more) down = rw add-suc (let before = number_at-≥ start step place more down in omega (arith, ints, before))

-- a number goes up or down, where it is not 0
pub goes : (step : ℤ) → step ≢ pos 0 → (pos 0 <ℤ step) ⊎ (step <ℤ pos 0)
goes step moves = grind (arith, ints)

-- what stands before one that is before the end is before it too
pub IsBefore-earlier : (start step end : ℤ) (place more : ℕ) → IsBefore step (number_at start step (place + more)) end → IsBefore step (number_at start step place) end
IsBefore-earlier start step end place more before =
    record {
      rising = λ up. let least = number_at-≤ start step place more up in let above = before.rising up in omega (arith, ints, least, above);
      falling = λ down. let most = number_at-≥ start step place more down in let below = before.falling down in omega (arith, ints, most, below);
    }

-- no two places have one number
pub number_at-apart : (start step : ℤ) (place more : ℕ) → step ≢ pos 0 → number_at start step (suc (place + more)) ≢ number_at start step place
number_at-apart start step place more moves same =
    ⊎_elim
    (λ up. let least = number_at-≤ start step place more up in omega (arith, ints, least))
    (λ down. let most = number_at-≥ start step place more down in omega (arith, ints, most))
    (goes step moves)

-- the number at a place without going there
pub number_at-closed : (start step : ℤ) (place : ℕ) → number_at start step place ≡ start +ℤ (pos place *ℤ step)
number_at-closed start step zero = omega (arith, ints)
number_at-closed start step (suc place) = let before = number_at-closed start step place in omega (arith, ints, before)

either : (a b : ℤ) → (a <ℤ b) ⊎ (b ≤ℤ a)
either a b = grind (arith, ints)

-- a rising range has fewer numbers before its end than a place, exactly where the number at that place is not before the end
pub few-rising : (start step end number : ℤ) (limit : ℕ) → pos 0 <ℤ step → number ≡ start +ℤ (pos limit *ℤ step)
    → (end ≤ℤ number → (place : ℕ) → IsBefore step (number_at start step place) end → place < limit)
    × (((place : ℕ) → IsBefore step (number_at start step place) end → place < limit) → end ≤ℤ number)
few-rising start step end number limit up is =
    let at_limit = number_at-closed start step limit in (
      (λ past place before. ⊎_elim (λ within. within)
          (λ beyond.
          let sum : place ≡ limit + (place - limit) = omega arith in
          let at_sum = subst (λ (p : ℕ). IsBefore step (number_at start step p) end) sum before in
          let below = (IsBefore-earlier start step end limit (place - limit) at_sum).rising up in
          absurd (omega (arith, ints, below)))
          (cases_lt place limit)),
      (λ few. ⊎_elim
          (λ (below : number <ℤ end).
          let early = few limit (record { rising = λ _. omega (arith, ints); falling = λ down. absurd (omega (arith, ints)) }) in
          absurd (omega arith))
          (λ (past : end ≤ℤ number). past)
          (either number end)),
    )

-- and so has a falling one
pub few-falling : (start step end number : ℤ) (limit : ℕ) → step <ℤ pos 0 → number ≡ start +ℤ (pos limit *ℤ step)
    → (number ≤ℤ end → (place : ℕ) → IsBefore step (number_at start step place) end → place < limit)
    × (((place : ℕ) → IsBefore step (number_at start step place) end → place < limit) → number ≤ℤ end)
few-falling start step end number limit down is =
    let at_limit = number_at-closed start step limit in (
      (λ past place before. ⊎_elim (λ within. within)
          (λ beyond.
          let sum : place ≡ limit + (place - limit) = omega arith in
          let at_sum = subst (λ (p : ℕ). IsBefore step (number_at start step p) end) sum before in
          let above = (IsBefore-earlier start step end limit (place - limit) at_sum).falling down in
          absurd (omega (arith, ints, above)))
          (cases_lt place limit)),
      (λ few. ⊎_elim
          (λ (above : end <ℤ number).
          let early = few limit (record { rising = λ up. absurd (omega (arith, ints)); falling = λ _. omega (arith, ints) }) in
          absurd (omega arith))
          (λ (past : number ≤ℤ end). past)
          (either end number)),
    )

le_z-≤ℤ : (a b : ℤ) → le_z a b ≡ true → a ≤ℤ b
le_z-≤ℤ a b passed = grind (arith, ints)

≤ℤ-le_z : (a b : ℤ) → a ≤ℤ b → le_z a b ≡ true
≤ℤ-le_z a b below = grind (arith, ints)

-- the same by the tests of a program
pub few-rising_test : (start step end number last : ℤ) (limit : ℕ) → pos 0 <ℤ step → number ≡ start +ℤ (pos limit *ℤ step) → last ≡ end
    → (le_z last number ≡ true → (place : ℕ) → IsBefore step (number_at start step place) end → place < limit)
    × (((place : ℕ) → IsBefore step (number_at start step place) end → place < limit) → le_z last number ≡ true)
few-rising_test start step end number last limit up is same =
    let few = few-rising start step end number limit up is in (
      (λ passed. few.0 (let below = le_z-≤ℤ last number passed in omega (arith, ints, below))),
      (λ all. let past = few.1 all in ≤ℤ-le_z last number (omega (arith, ints, past))),
    )

pub few-falling_test : (start step end number last : ℤ) (limit : ℕ) → step <ℤ pos 0 → number ≡ start +ℤ (pos limit *ℤ step) → last ≡ end
    → (le_z number last ≡ true → (place : ℕ) → IsBefore step (number_at start step place) end → place < limit)
    × (((place : ℕ) → IsBefore step (number_at start step place) end → place < limit) → le_z number last ≡ true)
few-falling_test start step end number last limit down is same =
    let few = few-falling start step end number limit down is in (
      (λ passed. few.0 (let above = le_z-≤ℤ number last passed in omega (arith, ints, above))),
      (λ all. let past = few.1 all in ≤ℤ-le_z number last (omega (arith, ints, past))),
    )
