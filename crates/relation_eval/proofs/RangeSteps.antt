-- The rows of a range, one by one.
use Rattle.std.proofs.Common.{◌≡◌, ◌≢◌, ◌<◌, ◌≤◌, ◌+◌, ◌-◌, ◌*◌, ◌/◌, ℕ, zero, suc, ℤ, pos, negsuc, ◌+ℤ◌, ◌-ℤ◌, ◌<ℤ◌, ◌≤ℤ◌, int_lt, unsigned_abs, Bool, true, false, cond, List, [], ◌∷◌, ◌++◌, append_assoc, append-nil, length, ◌⊎◌, refl, sym, ap, ◌∙◌, inl, inr, arith, FitsSigned, length-append}
use Rattle.std.specs.Int.{w64}
use Rattle.std.proofs.lemmas.Int.{ints, by_lt_z}
use Rattle.cn_types.specs.declared.row.Row.{Row}
use Rattle.plan_model.specs.Chosen.{rows_from, range_rows}
use Rattle.plan_model.specs.Ranges.{row_of}
use Rattle.plan_model.proofs.CastFacts.{true_is_T, T_is_true}
use Rattle.relation_eval.specs.RangeRows.{goes_on}

abbrev pub Goes : ℤ → Type 0
Goes step = (pos 0 <ℤ step) ⊎ (step <ℤ pos 0)

pub goes : (step : ℤ) → step ≢ pos 0 → Goes step
goes step h = by_lt_z (pos 0) step (λ up. inl up) (λ down. inr (omega (arith, ints)))

less_true : (a b : ℤ) → a <ℤ b → int_lt a b ≡ true
less_true a b h = T_is_true (int_lt a b) h.lt

less_from : (a b : ℤ) → int_lt a b ≡ true → a <ℤ b
less_from a b e = record { lt = true_is_T (int_lt a b) e }

less_false : (a b : ℤ) → b ≤ℤ a → int_lt a b ≡ false
less_false a b h = grind (arith, ints)

on_up : (step number end : ℤ) → pos 0 <ℤ step → goes_on step number end ≡ int_lt number end
on_up step number end up = ap (λ (b : Bool). cond b (int_lt number end) (int_lt end number)) (less_true (pos 0) step up)

on_down : (step number end : ℤ) → step <ℤ pos 0 → goes_on step number end ≡ int_lt end number
on_down step number end down = ap (λ (b : Bool). cond b (int_lt number end) (int_lt end number)) (less_false (pos 0) step (omega (arith, ints)))

-- so many rows are enough
abbrev pub IsEnough : ℕ → ℤ → ℤ → ℤ → Type 0
IsEnough most number end step = (pos 0 <ℤ step → (end -ℤ number) ≤ℤ pos most) × (step <ℤ pos 0 → (number -ℤ end) ≤ℤ pos most)

pub enough_from_start : (start end step : ℤ) → IsEnough (unsigned_abs (end -ℤ start)) start end step
enough_from_start start end step = (λ up. omega (arith, ints), λ down. omega (arith, ints))

enough_next : (most : ℕ) (number end step : ℤ) → IsEnough (suc most) number end step → IsEnough most (number +ℤ step) end step
enough_next most number end step h = (λ up. omega (arith, ints, h.0 up), λ down. omega (arith, ints, h.1 down))

not_enough : (number end step : ℤ) → Goes step → IsEnough 0 number end step → goes_on step number end ≡ true → ⊥
not_enough number end step (inl up) h b = omega (arith, ints, h.0 up, less_from number end (sym (on_up step number end up) ∙ b))
not_enough number end step (inr down) h b = omega (arith, ints, h.1 down, less_from end number (sym (on_down step number end down) ∙ b))

rows_first : (most : ℕ) (number end step : ℤ) → goes_on step number end ≡ true → rows_from (suc most) number end step ≡ row_of number ∷ rows_from most (number +ℤ step) end step
rows_first most number end step e = ap (λ (b : Bool). cond b (row_of number ∷ rows_from most (number +ℤ step) end step) []) e

pub rows_none : (most : ℕ) (number end step : ℤ) → goes_on step number end ≡ false → rows_from most number end step ≡ []
rows_none zero number end step e = refl
rows_none (suc most) number end step e = ap (λ (b : Bool). cond b (row_of number ∷ rows_from most (number +ℤ step) end step) []) e

-- what is done, and what is left from a number on
pub record RangeSoFar (start end step : ℤ) (rows : List Row) (number : ℤ) : Type 0 where
  pub most : ℕ
  pub enough : IsEnough most number end step
  pub is : range_rows start end step ≡ rows ++ rows_from most number end step
  pub left : length rows + most ≡ unsigned_abs (end -ℤ start)

pub range_begun : (start end step : ℤ) → RangeSoFar start end step [] start
range_begun start end step = record { most = unsigned_abs (end -ℤ start); enough = enough_from_start start end step; is = refl; left = omega arith }

next_where : (start end step : ℤ) (rows more : List Row) (number : ℤ) (most : ℕ) → Goes step → goes_on step number end ≡ true → more ≡ rows ++ row_of number ∷ [] → IsEnough most number end step
    → range_rows start end step ≡ rows ++ rows_from most number end step → length rows + most ≡ unsigned_abs (end -ℤ start) → RangeSoFar start end step more (number +ℤ step)
next_where start end step rows more number zero g b m enough is left = absurd (not_enough number end step g enough b)
next_where start end step rows more number (suc most) g b m enough is left = record {
  most = most;
  enough = enough_next most number end step enough;
  is =
      is ∙ ap (λ (xs : List Row). rows ++ xs) (rows_first most number end step b) ∙ sym (append_assoc rows (row_of number ∷ []) (rows_from most (number +ℤ step) end step))
      ∙ ap (λ (xs : List Row). xs ++ rows_from most (number +ℤ step) end step) (sym m);
  left = omega (arith, ap length m, length-append rows (row_of number ∷ []));
}

pub range_next : (start end step : ℤ) (rows more : List Row) (number : ℤ) → step ≢ pos 0 → goes_on step number end ≡ true → more ≡ rows ++ row_of number ∷ [] → RangeSoFar start end step rows number
    → RangeSoFar start end step more (number +ℤ step)
range_next start end step rows more number s b m so_far = next_where start end step rows more number so_far.most (goes step s) b m so_far.enough so_far.is so_far.left

pub range_over : (start end step : ℤ) (rows : List Row) (number : ℤ) → goes_on step number end ≡ false → RangeSoFar start end step rows number → rows ≡ range_rows start end step
range_over start end step rows number b so_far =
    sym (so_far.is ∙ ap (λ (xs : List Row). rows ++ xs) (rows_none so_far.most number end step b) ∙ append-nil rows)

-- a number between two longs is one
fits_between : (low z high : ℤ) → FitsSigned w64 low → FitsSigned w64 high → low ≤ℤ z → z ≤ℤ high → FitsSigned w64 z
fits_between low (pos n) (pos h) fl fh a b = record { sfits = omega (arith, ints, fh.sfits, b) }
fits_between low (pos n) (negsuc h) fl fh a b = absurd (omega (arith, ints, b))
fits_between (pos l) (negsuc n) high fl fh a b = absurd (omega (arith, ints, a))
fits_between (negsuc l) (negsuc n) high fl fh a b = record { sfits = omega (arith, ints, fl.sfits, a) }

-- a number that no long holds is behind the end
outside_where : (step number end : ℤ) → Goes step → FitsSigned w64 number → FitsSigned w64 end → (FitsSigned w64 (number +ℤ step) → ⊥) → (b : Bool) → goes_on step (number +ℤ step) end ≡ b → b ≡ false
outside_where step number end g fn fe h false e = refl
outside_where step number end (inl up) fn fe h true e =
    let below = less_from (number +ℤ step) end (sym (on_up step (number +ℤ step) end up) ∙ e) in
    absurd (h (fits_between number (number +ℤ step) end fn fe (omega (arith, ints)) (omega (arith, ints))))
outside_where step number end (inr down) fn fe h true e =
    let above = less_from end (number +ℤ step) (sym (on_down step (number +ℤ step) end down) ∙ e) in
    absurd (h (fits_between end (number +ℤ step) number fe fn (omega (arith, ints)) (omega (arith, ints))))

pub outside : (step number end : ℤ) → step ≢ pos 0 → FitsSigned w64 number → FitsSigned w64 end → (FitsSigned w64 (number +ℤ step) → ⊥) → goes_on step (number +ℤ step) end ≡ false
outside step number end s fn fe h = outside_where step number end (goes step s) fn fe h (goes_on step (number +ℤ step) end) refl

-- ---- long ranges

magnitude_up : (step : ℤ) (s : ℕ) → pos 0 <ℤ step → unsigned_abs step ≡ s → step ≡ pos s
magnitude_up (pos n) s up e = ap pos e
magnitude_up (negsuc n) s up e = absurd (omega (arith, ints, up))

magnitude_down : (step : ℤ) (s : ℕ) → step <ℤ pos 0 → unsigned_abs step ≡ s → (step +ℤ pos s) ≡ pos 0
magnitude_down (pos n) s down e = absurd (omega (arith, ints, down))
magnitude_down (negsuc n) s down e = omega (arith, ints, e)

one_more_time : (k s : ℕ) → suc k * s ≡ s + k * s
one_more_time k s = grind arith

-- so many steps from a number lead to one before the end
abbrev Reaches : ℕ → ℕ → ℤ → ℤ → ℤ → Type 0
Reaches k s number end step = (pos 0 <ℤ step → (number +ℤ pos (k * s)) <ℤ end) × (step <ℤ pos 0 → (end +ℤ pos (k * s)) <ℤ number)

still_on : (k s : ℕ) (number end step : ℤ) → Goes step → Reaches k s number end step → goes_on step number end ≡ true
still_on k s number end step (inl up) r = on_up step number end up ∙ less_true number end (omega (arith, ints, r.0 up))
still_on k s number end step (inr down) r = on_down step number end down ∙ less_true end number (omega (arith, ints, r.1 down))

reaches_next : (k s : ℕ) (number end step : ℤ) → unsigned_abs step ≡ s → Reaches (suc k) s number end step → Reaches k s (number +ℤ step) end step
reaches_next k s number end step m r = (
  λ up. omega (arith, ints, r.0 up, magnitude_up step s up m, one_more_time k s),
  λ down. omega (arith, ints, r.1 down, magnitude_down step s down m, one_more_time k s),
)

long_from : (k most s : ℕ) (number end step : ℤ) → Goes step → unsigned_abs step ≡ s → IsEnough most number end step → Reaches k s number end step → k < length (rows_from most number end step)
long_from k zero s number end step g m enough r = absurd (not_enough number end step g enough (still_on k s number end step g r))
long_from zero (suc most) s number end step g m enough r = omega (arith, ap length (rows_first most number end step (still_on 0 s number end step g r)))
long_from (suc k) (suc most) s number end step g m enough r =
    omega (
      arith,
      ap length (rows_first most number end step (still_on (suc k) s number end step g r)),
      long_from k most s (number +ℤ step) end step g m (enough_next most number end step enough) (reaches_next k s number end step m r),
    )

reaches_where : (start end step : ℤ) (s d : ℕ) → Goes step → goes_on step start end ≡ true → unsigned_abs (end -ℤ start) ≡ d → 4194304 * s < d → Reaches 4194304 s start end step
reaches_where start end step s d (inl up) b e h =
    let below = less_from start end (sym (on_up step start end up) ∙ b) in
    (λ u. omega (arith, ints, e, h, below), λ down. absurd (omega (arith, ints)))
reaches_where start end step s d (inr down) b e h =
    let above = less_from end start (sym (on_down step start end down) ∙ b) in
    (λ up. absurd (omega (arith, ints)), λ u. omega (arith, ints, e, h, above))

pub long_range : (start end step : ℤ) → step ≢ pos 0 → goes_on step start end ≡ true → unsigned_abs step ≤ (unsigned_abs (end -ℤ start) - 1) / 4194304 → 0 < unsigned_abs (end -ℤ start)
    → 4194304 < length (range_rows start end step)
long_range start end step s b h some =
    let far : 4194304 * unsigned_abs step < unsigned_abs (end -ℤ start) = omega (arith, h, some) in
    long_from 4194304 (unsigned_abs (end -ℤ start)) (unsigned_abs step) start end step (goes step s) refl (enough_from_start start end step)
    (reaches_where start end step (unsigned_abs step) (unsigned_abs (end -ℤ start)) (goes step s) b refl far)

apart_where : (start end step : ℤ) → Goes step → goes_on step start end ≡ true → 0 < unsigned_abs (end -ℤ start)
apart_where start end step (inl up) b = let below = less_from start end (sym (on_up step start end up) ∙ b) in omega (arith, ints, below)
apart_where start end step (inr down) b = let above = less_from end start (sym (on_down step start end down) ∙ b) in omega (arith, ints, above)

pub ends_apart : (start end step : ℤ) → step ≢ pos 0 → goes_on step start end ≡ true → 0 < unsigned_abs (end -ℤ start)
ends_apart start end step s b = apart_where start end step (goes step s) b
