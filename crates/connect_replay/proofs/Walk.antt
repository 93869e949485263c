-- What a walk over a range keeps.
use Rattle.std.proofs.Common.{◌≡◌, ◌≢◌, ℕ, suc, ◌+◌, ◌-◌, ◌<◌, ◌≤◌, ◌^◌, ℤ, pos, negsuc, ◌+ℤ◌, ◌<ℤ◌, List, [], ◌∷◌, ◌++◌, length, refl, ap, sym, ◌∙◌, arith, inl, inr, ◌⊎◌, ⊎_elim, subst, min, cond, ◌-ℤ◌, length-append}
use Rattle.std.proofs.lemmas.Bool.{cases_lt}
use Rattle.std.proofs.lemmas.Int.{ints}
use Rattle.std.specs.Int.{saturate_signed, w64}
use mir.Val.{SFits}
use lib.Signed.{lt_z}
use borrow.Author.Differences.{up}
use Rattle.connect_replay.specs.Range.{number_at, IsBefore, IsRange, count_of}
use Rattle.connect_replay.proofs.Numbers.{IsBefore-earlier, goes}
use Rattle.connect_replay.proofs.Counts.{firsts, count-one, place-found}

-- the numbers so far are the range's first ones, and the next is the range's next, unless both are past the end
pub record IsWalked (start end step number : ℤ) (numbers : List ℤ) : Type 0 where
  pub firsts_are : numbers ≡ firsts start step (length numbers)
  pub here : IsBefore step number end → number ≡ number_at start step (length numbers)
  pub there : IsBefore step (number_at start step (length numbers)) end → IsBefore step number end
  pub before : (place : ℕ) → place < length numbers → IsBefore step (number_at start step place) end

-- the walk's start
pub walked-none : (start end step : ℤ) → IsWalked start end step start []
walked-none start end step =
    record { firsts_are = refl; here = λ _. refl; there = λ b. b; before = λ place within. absurd (omega arith) }

min_left : (a b : ℕ) → a ≤ b → min a b ≡ a
min_left a b below = omega arith

min_right : (a b : ℕ) → b ≤ a → min a b ≡ b
min_right a b below = omega arith

-- the nearest number of 64 bits is the number itself, or the last one in its direction
nearest : (z : ℤ) → (saturate_signed w64 z ≡ z) ⊎ (((saturate_signed w64 z ≡ pos (2 ^ 63 - 1)) × (pos (2 ^ 63 - 1) <ℤ z)) ⊎ ((saturate_signed w64 z ≡ negsuc (2 ^ 63 - 1)) × (z <ℤ negsuc (2 ^ 63 - 1))))
nearest (pos n) =
    ⊎_elim (λ low. inl (ap pos (min_left n _ (omega arith)))) (λ high. inr (inl (ap pos (min_right n _ (omega arith)), omega (arith, ints)))) (cases_lt n (2 ^ 63))
nearest (negsuc n) =
    ⊎_elim (λ low. inl (ap negsuc (min_left n _ (omega arith)))) (λ high. inr (inr (ap negsuc (min_right n _ (omega arith)), omega (arith, ints)))) (cases_lt n (2 ^ 63))

-- a step that saturates leads past the end, as the step itself would
pub record Onward (step number next end : ℤ) : Type 0 where
  pub here : IsBefore step next end → next ≡ number +ℤ step
  pub there : IsBefore step (number +ℤ step) end → IsBefore step next end

stays : (start end step number next : ℤ) → step ≢ pos 0 → SFits w64 end → SFits w64 number → SFits w64 step → next ≡ saturate_signed w64 (number +ℤ step) → Onward step number next end
stays start end step number next moves end_fits number_fits step_fits next_is =
    ⊎_elim
    (λ same. let is = next_is ∙ same in record { here = λ _. is; there = λ b. subst (λ (w : ℤ). IsBefore step w end) (sym is) b })
    (⊎_elim
    (λ high. let is = next_is ∙ high.0 in
    let up : pos 0 <ℤ step = omega (arith, ints, high.1) in
    record {
      here = λ b. let below = b.rising up in absurd (omega (arith, ints, below));
      there = λ b. let below = b.rising up in absurd (omega (arith, ints, below, high.1));
    })
    (λ low. let is = next_is ∙ low.0 in
    let down : step <ℤ pos 0 = omega (arith, ints, low.1) in
    record {
      here = λ b. let above = b.falling down in absurd (omega (arith, ints, above));
      there = λ b. let above = b.falling down in absurd (omega (arith, ints, above, low.1));
    }))
    (nearest (number +ℤ step))

-- one more step of a walk
pub walked-more : (start end step number next : ℤ) (numbers : List ℤ) → step ≢ pos 0 → SFits w64 end → SFits w64 number → SFits w64 step → next ≡ saturate_signed w64 (number +ℤ step)
    → IsWalked start end step number numbers → IsBefore step number end → IsWalked start end step next (numbers ++ number ∷ [])
walked-more start end step number next numbers moves end_fits number_fits step_fits next_is walked before =
    let number_is = walked.here before in
    let more : length (numbers ++ number ∷ []) ≡ suc (length numbers) = simp length-append (omega arith) in
    let onward = stays start end step number next moves end_fits number_fits step_fits next_is in
    record {
      firsts_are =
          ap (λ (ns : List ℤ). ns ++ number ∷ []) walked.firsts_are
          ∙ ap (λ (w : ℤ). firsts start step (length numbers) ++ w ∷ []) number_is
          ∙ ap (firsts start step) (sym more);
      here = λ b. onward.here b ∙ ap (λ (w : ℤ). w +ℤ step) number_is ∙ ap (number_at start step) (sym more);
      there = λ b. onward.there (subst (λ (w : ℤ). IsBefore step w end) (ap (number_at start step) more ∙ sym (ap (λ (w : ℤ). w +ℤ step) number_is)) b);
      before = λ place within.
          ⊎_elim (λ below. walked.before place below)
          (λ last.
          let here : length numbers ≡ place = omega arith in
          subst (λ (p : ℕ). IsBefore step (number_at start step p) end) here (subst (λ (w : ℤ). IsBefore step w end) number_is before))
          (cases_lt place (length numbers));
    }

-- where a walk is over, only places that it has passed have numbers before the end
place-below : (start end step number : ℤ) (numbers : List ℤ) (place : ℕ) → IsWalked start end step number numbers → (IsBefore step number end → ⊥) → IsBefore step (number_at start step place) end → place < length numbers
place-below start end step number numbers place walked over before =
    ⊎_elim (λ within. within)
    (λ past.
    let sum : place ≡ length numbers + (place - length numbers) = omega arith in
    let at_sum = subst (λ (p : ℕ). IsBefore step (number_at start step p) end) sum before in
    absurd (over (walked.there (IsBefore-earlier start step end (length numbers) (place - length numbers) at_sum))))
    (cases_lt place (length numbers))

-- a walk ends with the numbers of the range
pub range-walked : (start end step number : ℤ) (numbers : List ℤ) → step ≢ pos 0 → IsWalked start end step number numbers → (IsBefore step number end → ⊥) → IsRange start end step numbers
range-walked start end step number numbers moves walked over =
    record {
      each = λ z is.
          let within = place-below start end step number numbers is.place walked over (subst (λ (w : ℤ). IsBefore step w end) (sym is.is) is.before) in
          let sum : suc (is.place + (length numbers - suc is.place)) ≡ length numbers = omega arith in
          ap (λ (ns : List ℤ). count_of z ns) walked.firsts_are
          ∙ ap (λ (w : ℤ). count_of w (firsts start step (length numbers))) (sym is.is)
          ∙ ap (λ (n : ℕ). count_of (number_at start step is.place) (firsts start step n)) (sym sum)
          ∙ count-one start step is.place (length numbers - suc is.place) moves;
      no_other = λ z some.
          let found = place-found start step (length numbers) z (subst (λ (ns : List ℤ). 0 < count_of z ns) walked.firsts_are some) in
          record { place = found.0; is = found.2; before = subst (λ (w : ℤ). IsBefore step w end) found.2 (walked.before found.0 found.1) };
    }

-- a step from a number before the end goes on in the range's direction
onward : (step number next end : ℤ) → SFits w64 end → SFits w64 number → SFits w64 step → next ≡ saturate_signed w64 (number +ℤ step) → IsBefore step number end
    → (pos 0 <ℤ step → number <ℤ next) × (step <ℤ pos 0 → next <ℤ number)
onward step number next end end_fits number_fits step_fits next_is before =
    ⊎_elim
    (λ same. let is = next_is ∙ same in ((λ up. omega (arith, ints)), (λ down. omega (arith, ints))))
    (⊎_elim
    (λ high. let is = next_is ∙ high.0 in
    ((λ up. let below = before.rising up in omega (arith, ints, below)), (λ down. omega (arith, ints, high.1))))
    (λ low. let is = next_is ∙ low.0 in
    ((λ up. omega (arith, ints, low.1)), (λ down. let above = before.falling down in omega (arith, ints, above)))))
    (nearest (number +ℤ step))

-- and so comes nearer to the end
pub walk-nears : (step number next end : ℤ) → step ≢ pos 0 → SFits w64 end → SFits w64 number → SFits w64 step → next ≡ saturate_signed w64 (number +ℤ step) → IsBefore step number end
    → cond (lt_z (pos 0) step) (up (end -ℤ next)) (up (next -ℤ end)) < cond (lt_z (pos 0) step) (up (end -ℤ number)) (up (number -ℤ end))
walk-nears step number next end moves end_fits number_fits step_fits next_is before =
    let on = onward step number next end end_fits number_fits step_fits next_is before in
    ⊎_elim
    (λ rises. let on_up = on.0 rises in let below = before.rising rises in grind (arith, ints))
    (λ falls. let on_down = on.1 falls in let above = before.falling falls in grind (arith, ints))
    (goes step moves)
