-- What single functions hold.
use Rattle.std.proofs.Common.{◌≡◌, ◌<◌, ◌+◌, ◌-◌, ◌%◌, ◌^◌, ℕ, suc, ℤ, pos, negsuc, ◌-ℤ◌, Bool, true, false, [], ◌∷◌, length, take, drop, FitsSigned, refl, sym, ap, ◌∙◌, subst, lit≤, arith}
use Rattle.std.specs.Prelude.{unsigned_abs, nat_lt, unwrap_or}
use lib.Pow.{pow_pos}
use mir.Syntax.{Width}
use mir.Val.{bits, hbits, sel}
use Rattle.std.proofs.Math.Nat.{mod-lt, mod-eq_of_lt}
use Rattle.std.specs.Int.{w32, w64, int_rem_euclid, int_wrap, cast_signed}
use Rattle.std.proofs.lemmas.Bool.Decides.{Decides-eqb}
use Rattle.std.proofs.lemmas.Int.{int_wrap_fits, SFits-int_wrap}
use Rattle.std.proofs.lemmas.Slice.Eq.{starts_is, ends_is}
use Rattle.jiff_core.specs.declared.civil.date.Date.{Date}
use Rattle.jiff_core.specs.Calendar.{days_from_civil, day_count, days_of_months, days_of_years, IsCivilDate}
use Rattle.jiff_core.proofs.DateLemmas.{epoch_day_injective}
use Rattle.jiff_core.proofs.MarchLemmas.{days_of_years-march_days}
use Rattle.cn_types.specs.declared.value.Value.{Value}
use Rattle.cn_types.specs.declared.value.Value.TheVariants as V
use Rattle.cn_types.specs.Dates.{year_of, month_of, month_day_of, date_text}
use Rattle.cn_types.specs.Fit.{IsDay}
use Rattle.cn_types.proofs.DateFacts.{dates_of_the_calendar}
use Rattle.plan_model.specs.Arithmetic.{number}
use Rattle.plan_model.specs.FunctionLaws.{NumbersWrap, TextsStartAndEnd, DatePartsAreOfTheCalendar}
use Rattle.plan_model.specs.Functions.{call}
use Rattle.plan_model.specs.Texts.{has_start, has_end}

-- ---- texts

pub texts_start_and_end : TextsStartAndEnd
texts_start_and_end = record {
  starts = λ text part. (
    (λ h. (drop (length part) text, (starts_is Decides-eqb text part (has_start text part) refl).0 h)),
    λ w. (starts_is Decides-eqb text part (has_start text part) refl).1 w.0 w.1,
  );
  ends = λ text part. (
    (λ h. (take (length text - length part) text, (ends_is Decides-eqb text part (has_end text part) refl).0 h)),
    λ w. (ends_is Decides-eqb text part (has_end text part) refl).1 w.0 w.1,
  );
}

-- ---- dates

-- a day in range is of the one date that has its number
same_date : (number : ℤ) (year month day : ℕ) → IsDay number → IsCivilDate (pos year) month day → days_from_civil (pos year) month day ≡ number
    → (pos (year_of number) ≡ pos year) × (month_of number ≡ month) × (month_day_of number ≡ day)
same_date number year month day h civil e =
    let is = dates_of_the_calendar number h in
    let given : Date = record { year = pos year; month = month; day = day; year_in = civil.0; month_in = civil.1; day_in = civil.2 } in
    let found : Date = record { year = pos (year_of number); month = month_of number; day = month_day_of number; year_in = is.civil.0; month_in = is.civil.1; day_in = is.civil.2 } in
    epoch_day_injective found given (is.same ∙ sym e)

pub date_parts : DatePartsAreOfTheCalendar
unfolding call
date_parts number year month day h civil e =
    let same = same_date number year month day h civil e in
    record { year_part = ap V.Integer same.0; month_part = ap (λ n. V.Integer (pos n)) same.1; day_part = ap (λ n. V.Integer (pos n)) same.2 }

-- 29 February 2024
leap_day_number : days_from_civil (pos 2024) 2 29 ≡ pos 19782
unfolding days_from_civil day_count days_of_months
leap_day_number =
    let later : days_of_years 12024 ≡ 4391676 = omega (arith, days_of_years-march_days 12024) in
    let earlier : days_of_years 11970 ≡ 4371953 = omega (arith, days_of_years-march_days 11970) in
    ap (λ n. pos (n + 59) -ℤ pos (days_of_years 11970 + 0)) later ∙ ap (λ n. pos 4391735 -ℤ pos (n + 0)) earlier

pub leap_day_text : date_text (pos 19782) ≡ 50 ∷ 48 ∷ 50 ∷ 52 ∷ 45 ∷ 48 ∷ 50 ∷ 45 ∷ 50 ∷ 57 ∷ []
unfolding date_text
leap_day_text =
    let same = same_date (pos 19782) 2024 2 29 (record { le = tt }, record { le = tt }) ((record { le = tt }, record { le = tt }), (lit≤ tt, lit≤ tt), (lit≤ tt, lit≤ tt)) leap_day_number in
    let year : year_of (pos 19782) ≡ 2024 = ap unsigned_abs same.0 in
    let month : month_of (pos 19782) ≡ 2 = same.1 in
    let day : month_day_of (pos 19782) ≡ 29 = same.2 in
    rw (year, month, day)

-- ---- numbers that wrap

-- the rest of a division by a number above 0 is below it
rest : (m : ℕ) → 0 < m → (n : ℤ) → (r : ℕ) × (r < m) × (int_rem_euclid n (pos m) ≡ pos r)
rest m some (pos a) = (a % m, mod-lt a some, refl)
rest m some (negsuc a) = (m - 1 - a % m, omega arith, refl)

-- a number, or what it is below 0, leaves the number as its rest
rest_of_signed : (m r : ℕ) (b : Bool) → r < m → int_rem_euclid (sel b (pos r) (negsuc (m - suc r))) (pos m) ≡ pos r
rest_of_signed m r true small = ap pos (mod-eq_of_lt small)
rest_of_signed m r false small =
    let below : m - suc r < m = omega arith in
    ap pos (ap (λ k. m - 1 - k) (mod-eq_of_lt below) ∙ omega arith)

abbrev rest_by : Width → ℤ → ℤ
rest_by w n = int_rem_euclid n (pos (2 ^ bits w))

signed_rest : (w : Width) (r : ℕ) → r < 2 ^ bits w → rest_by w (cast_signed w r) ≡ pos r
signed_rest w r small = rest_of_signed (2 ^ bits w) r (nat_lt r (2 ^ hbits w)) small

wrapped_rest : (w : Width) (n : ℤ) → rest_by w (int_wrap w n) ≡ rest_by w n
unfolding int_wrap
wrapped_rest w n =
    let r = rest (2 ^ bits w) (pow_pos (bits w)) n in
    ap (λ z. rest_by w (cast_signed w (unsigned_abs z))) r.2 ∙ signed_rest w r.0 r.1 ∙ sym r.2

same_rest : (w : Width) (r n : ℤ) → rest_by w r ≡ rest_by w n → int_wrap w r ≡ int_wrap w n
unfolding int_wrap
same_rest w r n e = ap (λ z. cast_signed w (unsigned_abs z)) e

-- the number that a number wraps to
abbrev IsWrapped : Width → ℤ → ℤ → Type 0
IsWrapped w n r = FitsSigned w r × (rest_by w r ≡ rest_by w n)

is_wrapped : (w : Width) (n r : ℤ) → int_wrap w n ≡ r → IsWrapped w n r
is_wrapped w n r e = subst (IsWrapped w n) e (SFits-int_wrap w n, wrapped_rest w n)

wraps_to : (w : Width) (n r : ℤ) → IsWrapped w n r → int_wrap w n ≡ r
wraps_to w n r h = sym (same_rest w r n h.1) ∙ int_wrap_fits w r h.0

number_in : Value → ℤ
number_in v = unwrap_or (number v) (pos 0)

pub numbers_wrap : NumbersWrap
unfolding number_in
numbers_wrap = record {
  integer = λ n r. (λ e. is_wrapped w32 n r (ap number_in e), λ h. ap V.Integer (wraps_to w32 n r h));
  long = λ n r. (λ e. is_wrapped w64 n r (ap number_in e), λ h. ap V.Long (wraps_to w64 n r h));
}
