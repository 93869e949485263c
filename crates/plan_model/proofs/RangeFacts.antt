-- The rows that are made of a range are the range's.
use Rattle.std.proofs.Common.{◌≡◌, ◌≢◌, ◌<◌, ◌+◌, ℕ, zero, suc, ℤ, pos, ◌+ℤ◌, ◌-ℤ◌, ◌<ℤ◌, ◌≤ℤ◌, int_lt, unsigned_abs, Bool, true, false, if◌then◌else◌, List, [], ◌∷◌, ◌⊎◌, refl, sym, ap, ◌∙◌, subst, inl, inr, arith}
use Rattle.std.proofs.lemmas.Int.{ints, by_lt_z}
use Rattle.cn_types.specs.declared.row.Row.{Row}
use Rattle.cn_types.specs.declared.value.Value.{Value}
use Rattle.cn_types.specs.declared.value.Value.TheVariants.{Long}
use Rattle.cn_types.specs.Order.{count, row_eq}
use Rattle.plan_model.specs.Chosen.{rows_from, range_rows}
use Rattle.plan_model.specs.Ranges.{number_at, IsBefore, row_of, IsRange}
use Rattle.plan_model.proofs.CastFacts.{true_is_T, T_is_true}
use Rattle.plan_model.proofs.Multisets.{count_of_rest}
use Rattle.plan_model.proofs.RowCounts.{row_exact}

-- one step later
number_at-next : (start step : ℤ) (place : ℕ) → number_at (start +ℤ step) step place ≡ number_at start step (suc place)
number_at-next start step zero = refl
number_at-next start step (suc place) = ap (λ z. z +ℤ step) (number_at-next start step place)

-- a step up or down
abbrev pub Goes : ℤ → Type 0
Goes step = (pos 0 <ℤ step) ⊎ (step <ℤ pos 0)

pub goes : (step : ℤ) → step ≢ pos 0 → Goes step
goes step h = by_lt_z (pos 0) step (λ up. inl up) (λ down. inr (omega (arith, ints)))

pub number_at-up : (start step : ℤ) (place : ℕ) → pos 0 <ℤ step → start ≤ℤ number_at start step place
number_at-up start step zero up = omega (arith, ints)
number_at-up start step (suc place) up = omega (arith, ints, number_at-up start step place up)

pub number_at-down : (start step : ℤ) (place : ℕ) → step <ℤ pos 0 → number_at start step place ≤ℤ start
number_at-down start step zero down = omega (arith, ints)
number_at-down start step (suc place) down = omega (arith, ints, number_at-down start step place down)

-- a later number is another one
number_at-apart : (start step : ℤ) (place : ℕ) → Goes step → number_at start step (suc place) ≢ start
number_at-apart start step place (inl up) e = omega (arith, ints, number_at-up start step place up)
number_at-apart start step place (inr down) e = omega (arith, ints, number_at-down start step place down)

-- where a later number is before the end, the first is
first_before : (start end step : ℤ) (place : ℕ) → Goes step → IsBefore step (number_at start step place) end → IsBefore step start end
first_before start end step place (inl up) h = record { rising = λ u. omega (arith, ints, number_at-up start step place up, h.rising up); falling = λ d. absurd (omega (arith, ints)) }
first_before start end step place (inr down) h = record { rising = λ u. absurd (omega (arith, ints)); falling = λ d. omega (arith, ints, number_at-down start step place down, h.falling down) }

-- ---- the test of a number

less_true : (a b : ℤ) → a <ℤ b → int_lt a b ≡ true
less_true a b h = T_is_true (int_lt a b) h.lt

less_from : (a b : ℤ) → int_lt a b ≡ true → a <ℤ b
less_from a b e = record { lt = true_is_T (int_lt a b) e }

less_false : (a b : ℤ) → b ≤ℤ a → int_lt a b ≡ false
less_false a b h = grind (arith, ints)

abbrev before : ℤ → ℤ → ℤ → Bool
before step number end = if int_lt (pos 0) step then int_lt number end else int_lt end number

before_up : (step number end : ℤ) → pos 0 <ℤ step → before step number end ≡ int_lt number end
before_up step number end up = ap (λ (b : Bool). if b then int_lt number end else int_lt end number) (less_true (pos 0) step up)

before_down : (step number end : ℤ) → step <ℤ pos 0 → before step number end ≡ int_lt end number
before_down step number end down = ap (λ (b : Bool). if b then int_lt number end else int_lt end number) (less_false (pos 0) step (omega (arith, ints)))

before_true : (step number end : ℤ) → Goes step → IsBefore step number end → before step number end ≡ true
before_true step number end (inl up) h = before_up step number end up ∙ less_true number end (h.rising up)
before_true step number end (inr down) h = before_down step number end down ∙ less_true end number (h.falling down)

before_is : (step number end : ℤ) → Goes step → before step number end ≡ true → IsBefore step number end
before_is step number end (inl up) e =
    let below : number <ℤ end = less_from number end (sym (before_up step number end up) ∙ e) in
    record { rising = λ u. below; falling = λ d. absurd (omega (arith, ints)) }
before_is step number end (inr down) e =
    let above : end <ℤ number = less_from end number (sym (before_down step number end down) ∙ e) in
    record { rising = λ u. absurd (omega (arith, ints)); falling = λ d. above }

-- ---- no other rows

first_long : List Value → ℤ
first_long (Long n ∷ values) = n
first_long other = pos 0

same_number : (a b : ℤ) → row_of a ≡ row_of b → a ≡ b
unfolding first_long
same_number a b e = ap (λ (row : Row). first_long row.0) e

-- the row is that of a number at some place
abbrev IsAtPlace : ℤ → ℤ → ℤ → Row → Type 0
IsAtPlace number end step row = (place : ℕ) × IsBefore step (number_at number step place) end × (row ≡ row_of (number_at number step place))

later : (number end step : ℤ) (row : Row) → IsAtPlace (number +ℤ step) end step row → IsAtPlace number end step row
later number end step row h =
    (suc h.0, subst (λ z. IsBefore step z end) (number_at-next number step h.0) h.1, h.2 ∙ ap row_of (number_at-next number step h.0))

place_where : (number end step : ℤ) (row : Row) (rows : List Row) (b c : Bool) → Goes step → before step number end ≡ b → row_eq row (row_of number) ≡ c
    → 0 < count (if b then row_of number ∷ rows else []) row → (0 < count rows row → IsAtPlace (number +ℤ step) end step row) → IsAtPlace number end step row
place_where number end step row rows false c g e f h more = absurd (omega arith)
place_where number end step row rows true true g e f h more = (0, before_is step number end g e, (row_exact row (row_of number)).0 f)
place_where number end step row rows true false g e f h more = later number end step row (more (omega (arith, count_of_rest row_eq row_exact (row_of number) rows row false f)))

no_others : (most : ℕ) (number end step : ℤ) (row : Row) → Goes step → 0 < count (rows_from most number end step) row → IsAtPlace number end step row
no_others zero number end step row g h = absurd (omega arith)
no_others (suc most) number end step row g h =
    place_where number end step row (rows_from most (number +ℤ step) end step) (before step number end) (row_eq row (row_of number)) g refl refl h
    (λ more. no_others most (number +ℤ step) end step row g more)

-- ---- each number once

-- so many rows are enough
abbrev IsEnough : ℕ → ℤ → ℤ → ℤ → Type 0
IsEnough most number end step = (pos 0 <ℤ step → (end -ℤ number) ≤ℤ pos most) × (step <ℤ pos 0 → (number -ℤ end) ≤ℤ pos most)

enough_next : (most : ℕ) (number end step : ℤ) → IsEnough (suc most) number end step → IsEnough most (number +ℤ step) end step
enough_next most number end step h = (λ up. omega (arith, ints, h.0 up), λ down. omega (arith, ints, h.1 down))

not_enough : (number end step : ℤ) → Goes step → IsEnough 0 number end step → IsBefore step number end → ⊥
not_enough number end step (inl up) h b = omega (arith, ints, h.0 up, b.rising up)
not_enough number end step (inr down) h b = omega (arith, ints, h.1 down, b.falling down)

-- the first number does not stand among the later ones
absent : (most : ℕ) (number end step : ℤ) → Goes step → (n : ℕ) → count (rows_from most (number +ℤ step) end step) (row_of number) ≡ n → n ≡ 0
absent most number end step g zero e = refl
absent most number end step g (suc n) e =
    let h = no_others most (number +ℤ step) end step (row_of number) g (omega (arith, e)) in
    absurd (number_at-apart number step h.0 g (sym (number_at-next number step h.0) ∙ sym (same_number number (number_at (number +ℤ step) step h.0) h.2)))

apart : (a b : ℤ) → a ≢ b → (c : Bool) → row_eq (row_of a) (row_of b) ≡ c → c ≡ false
apart a b h true e = absurd (h (same_number a b ((row_exact (row_of a) (row_of b)).0 e)))
apart a b h false e = refl

-- the list, where its first number is before the end
rows_first : (most : ℕ) (number end step : ℤ) → before step number end ≡ true → rows_from (suc most) number end step ≡ row_of number ∷ rows_from most (number +ℤ step) end step
rows_first most number end step e = ap (λ (b : Bool). if b then row_of number ∷ rows_from most (number +ℤ step) end step else []) e

each_once : (most : ℕ) (number end step : ℤ) (place : ℕ) → Goes step → IsEnough most number end step → IsBefore step (number_at number step place) end
    → count (rows_from most number end step) (row_of (number_at number step place)) ≡ 1
each_once zero number end step place g enough b = absurd (not_enough number end step g enough (first_before number end step place g b))
each_once (suc most) number end step zero g enough b =
    let rest = rows_from most (number +ℤ step) end step in
    ap (λ (rows : List Row). count rows (row_of number)) (rows_first most number end step (before_true step number end g b))
    ∙ count_of_rest row_eq row_exact (row_of number) rest (row_of number) true ((row_exact (row_of number) (row_of number)).1 refl)
    ∙ ap (λ n. 1 + n) (absent most number end step g (count rest (row_of number)) refl)
each_once (suc most) number end step (suc place) g enough b =
    let rest = rows_from most (number +ℤ step) end step in
    let z = number_at number step (suc place) in
    let next = number_at-next number step place in
    let first : before step number end ≡ true = before_true step number end g (first_before number end step (suc place) g b) in
    let later_row : count rest (row_of z) ≡ 1 =
    ap (λ n. count rest (row_of n)) (sym next) ∙ each_once most (number +ℤ step) end step place g (enough_next most number end step enough) (subst (λ n. IsBefore step n end) (sym next) b) in
    ap (λ (rows : List Row). count rows (row_of z)) (rows_first most number end step first)
    ∙ count_of_rest row_eq row_exact (row_of number) rest (row_of z) false (apart z number (number_at-apart number step place g) (row_eq (row_of z) (row_of number)) refl)
    ∙ ap (λ n. 0 + n) later_row

enough_from_start : (start end step : ℤ) → IsEnough (unsigned_abs (end -ℤ start)) start end step
enough_from_start start end step = (λ up. omega (arith, ints), λ down. omega (arith, ints))

-- the rows that are made of a range are its rows
pub made_range : (start end step : ℤ) → step ≢ pos 0 → IsRange start end step (range_rows start end step)
made_range start end step h = record {
  each = λ number is.
      ap (λ z. count (range_rows start end step) (row_of z)) (sym is.is)
      ∙ each_once (unsigned_abs (end -ℤ start)) start end step is.place (goes step h) (enough_from_start start end step) (subst (λ z. IsBefore step z end) (sym is.is) is.before);
  no_other = λ row more.
      let found = no_others (unsigned_abs (end -ℤ start)) start end step row (goes step h) more in
      (number_at start step found.0, record { place = found.0; is = refl; before = found.1 }, found.2);
}
