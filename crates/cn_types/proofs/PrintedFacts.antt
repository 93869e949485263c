-- The values of one type are printed differently.
use Rattle.std.proofs.Common.{◌≡◌, ◌≢◌, ℕ, suc, ◌^◌, ◌<◌, ℤ, pos, negsuc, ◌≤ℤ◌, Bool, List, [], ◌∷◌, true, false, get_or, refl, sym, ap, subst, ◌∙◌, ◌⊎◌, inl, inr, arith}
use Rattle.std.specs.Prelude.{Result, Ok, Err}
use Rattle.std.specs.Fmt.{decimal, signed_decimal}
use Rattle.std.proofs.lemmas.Int.{ints}
use Rattle.std.proofs.lemmas.Fmt.{decimal_is_IsNumeral, signed_decimal_injective, decimal_nonempty}
use Rattle.std.proofs.lemmas.Str.Parse.{digit_at}
use lib.Signed.{mag, le_z}
use Rattle.cn_types.specs.declared.fault.ValueFault.{ValueFault}
use Rattle.std.proofs.Common.{w32, w64}
use Rattle.std.specs.Str.{bytes_eq}
use Rattle.std.specs.Str.Parse.{ParsesSigned}
use Rattle.std.proofs.lemmas.Fmt.{parse-signed_decimal}
use Rattle.std.proofs.lemmas.Slice.Eq.{bytes_eq-Decides}
use Rattle.jiff_core.specs.declared.civil.date.Date.{Date as CivilDate}
use Rattle.jiff_core.specs.declared.error.Error.{Error}
use Rattle.jiff_core.specs.Date.{epoch_day}
use Rattle.jiff_core.proofs.DateLemmas.{epoch_day_same}
use Rattle.jiff_fmt.specs.Text as jiff
use Rattle.jiff_fmt.specs.Temporal.{DateParts, date_parts, date_view, parse_date}
use Rattle.jiff_fmt.proofs.RoundTrip.{parse_date-date_text}
use Rattle.cn_types.specs.declared.value.DataType.{DataType}
use Rattle.cn_types.specs.declared.value.Value.{Value}
use Rattle.cn_types.specs.Fit.{IsDay, HasType, IsInteger, IsLong, HasBits}
use Rattle.cn_types.specs.Dates.{date_text}
use Rattle.cn_types.specs.Printed.{printed, boolean_text}
use Rattle.cn_types.specs.Spelled.{Spells, OneValueIsSpelled}
use Rattle.cn_types.proofs.DateFacts.{civil_date, date_text-date}
use Rattle.cn_types.proofs.Unescapes.{escaped_injective, not_escaped}

-- the bytes of null
abbrev null_text : List ℕ
null_text = 92 ∷ 78 ∷ []

-- a value of the type that is not null, with what it is made of
abbrev Made : DataType → Value → Type 0
Made DataType.Boolean v = (b : Bool) × (v ≡ Value.Boolean b)
Made DataType.Integer v = (n : ℤ) × (v ≡ Value.Integer n)
Made DataType.Long v = (n : ℤ) × (v ≡ Value.Long n)
Made DataType.Text v = (t : List ℕ) × (v ≡ Value.Text t)
Made DataType.Date v = (days : ℤ) × ((v ≡ Value.Date days) × IsDay days)

made : (kind : DataType) (v : Value) → HasType kind v → (v ≡ Value.Null) ⊎ Made kind v
made DataType.Boolean Value.Null h = inl refl
made DataType.Boolean (Value.Boolean x) h = inr (x, refl)
made DataType.Boolean (Value.Integer x) h = absurd h
made DataType.Boolean (Value.Long x) h = absurd h
made DataType.Boolean (Value.Text x) h = absurd h
made DataType.Boolean (Value.Date x) h = absurd h
made DataType.Integer Value.Null h = inl refl
made DataType.Integer (Value.Boolean x) h = absurd h
made DataType.Integer (Value.Integer x) h = inr (x, refl)
made DataType.Integer (Value.Long x) h = absurd h
made DataType.Integer (Value.Text x) h = absurd h
made DataType.Integer (Value.Date x) h = absurd h
made DataType.Long Value.Null h = inl refl
made DataType.Long (Value.Boolean x) h = absurd h
made DataType.Long (Value.Integer x) h = absurd h
made DataType.Long (Value.Long x) h = inr (x, refl)
made DataType.Long (Value.Text x) h = absurd h
made DataType.Long (Value.Date x) h = absurd h
made DataType.Text Value.Null h = inl refl
made DataType.Text (Value.Boolean x) h = absurd h
made DataType.Text (Value.Integer x) h = absurd h
made DataType.Text (Value.Long x) h = absurd h
made DataType.Text (Value.Text x) h = inr (x, refl)
made DataType.Text (Value.Date x) h = absurd h
made DataType.Date Value.Null h = inl refl
made DataType.Date (Value.Boolean x) h = absurd h
made DataType.Date (Value.Integer x) h = absurd h
made DataType.Date (Value.Long x) h = absurd h
made DataType.Date (Value.Text x) h = absurd h
made DataType.Date (Value.Date x) h = inr (x, (refl, h))

-- ---- texts of numbers

decimal_first : (n : ℕ) → n < 2 ^ 64 → get_or (decimal n) 0 0 ≢ 92
decimal_first n small e =
    let digit = digit_at (decimal n) 0 (decimal_is_IsNumeral n small).0.1 (decimal_nonempty n small) in
    omega (arith, e, digit.0, digit.1)

first_byte_of : (s : List ℕ) → s ≡ null_text → get_or s 0 0 ≡ 92
first_byte_of s e = rw e refl

minus_first : (s : List ℕ) → 45 ∷ s ≢ null_text
minus_first s e = let first = first_byte_of (45 ∷ s) e in omega (arith, first)

below_more : (n : ℕ) → n < 2 ^ 63 → n < 2 ^ 64
below_more n h = omega arith

signed_first : (n : ℤ) → mag n < 2 ^ 63 → signed_decimal n ≢ null_text
signed_first (pos n) small e = decimal_first n (below_more n small) (first_byte_of (decimal n) e)
signed_first (negsuc n) small e = minus_first (decimal (suc n)) e

pub mag_small : (n : ℤ) → IsLong n → mag n < 2 ^ 63
mag_small (pos n) h = omega (arith, h)
mag_small (negsuc n) h = omega (arith, h)

pub wider : (n : ℤ) → IsInteger n → IsLong n
wider (pos n) h = omega (arith, h)
wider (negsuc n) h = omega (arith, h)

-- ---- texts of dates

date_not_null : (days : ℤ) → date_text days ≢ null_text
unfolding date_text
date_not_null days e = cc

ok_same : (a b : DateParts) → ◌≡◌ {A = Result DateParts Error} (Ok a) (Ok b) → a ≡ b
ok_same a b e = cc

pub date_injective : (a b : ℤ) → IsDay a → IsDay b → date_text a ≡ date_text b → a ≡ b
date_injective a b h k e =
    let one = civil_date a h in
    let two = civil_date b k in
    let texts : jiff.date_text one.date ≡ jiff.date_text two.date = one.text ∙ e ∙ sym two.text in
    let parts = ok_same (date_parts one.date) (date_parts two.date) (sym (parse_date-date_text one.date) ∙ ap parse_date texts ∙ parse_date-date_text two.date) in
    sym one.same ∙ epoch_day_same one.date two.date (ap (λ (p : DateParts). p.year) parts) (ap (λ (p : DateParts). p.month) parts) (ap (λ (p : DateParts). p.day) parts) ∙ two.same

-- ---- values

boolean_injective : (a b : Bool) → boolean_text a ≡ boolean_text b → a ≡ b
boolean_injective true true e = refl
boolean_injective true false e = cc
boolean_injective false true e = cc
boolean_injective false false e = refl

boolean_not_null : (b : Bool) → boolean_text b ≢ null_text
boolean_not_null true e = cc
boolean_not_null false e = cc

-- no value but null is printed as null is
pub not_null : (kind : DataType) (v : Value) → Made kind v → HasBits v → printed v ≢ null_text
not_null DataType.Boolean v (b, is) bits e = boolean_not_null b (ap printed (sym is) ∙ e)
not_null DataType.Integer v (n, is) bits e = signed_first n (mag_small n (wider n (subst HasBits is bits))) (ap printed (sym is) ∙ e)
not_null DataType.Long v (n, is) bits e = signed_first n (mag_small n (subst HasBits is bits)) (ap printed (sym is) ∙ e)
not_null DataType.Text v (t, is) bits e = not_escaped 92 (78 ∷ []) t refl (ap printed (sym is) ∙ e)
not_null DataType.Date v (days, (is, day)) bits e = date_not_null days (ap printed (sym is) ∙ e)

made_injective : (kind : DataType) (v w : Value) → Made kind v → Made kind w → HasBits v → HasBits w → printed v ≡ printed w → v ≡ w
made_injective DataType.Boolean v w (a, is) (b, was) bits more e = is ∙ ap Value.Boolean (boolean_injective a b (ap printed (sym is) ∙ e ∙ ap printed was)) ∙ sym was
made_injective DataType.Integer v w (a, is) (b, was) bits more e = is ∙ ap Value.Integer (signed_decimal_injective a b (mag_small a (wider a (subst HasBits is bits))) (mag_small b (wider b (subst HasBits was more))) (ap printed (sym is) ∙ e ∙ ap printed was)) ∙ sym was
made_injective DataType.Long v w (a, is) (b, was) bits more e = is ∙ ap Value.Long (signed_decimal_injective a b (mag_small a (subst HasBits is bits)) (mag_small b (subst HasBits was more)) (ap printed (sym is) ∙ e ∙ ap printed was)) ∙ sym was
made_injective DataType.Text v w (a, is) (b, was) bits more e = is ∙ ap Value.Text (escaped_injective a b (ap printed (sym is) ∙ e ∙ ap printed was)) ∙ sym was
made_injective DataType.Date v w (a, (is, day)) (b, (was, date)) bits more e = is ∙ ap Value.Date (date_injective a b day date (ap printed (sym is) ∙ e ∙ ap printed was)) ∙ sym was

-- two values of one type that are printed alike are the same
pub printed_injective : (kind : DataType) (v w : Value) → HasType kind v → HasType kind w → HasBits v → HasBits w → printed v ≡ printed w → v ≡ w
printed_injective kind v w type other bits more e = by (made kind v type) (made kind w other)
  where
    by : (v ≡ Value.Null) ⊎ Made kind v → (w ≡ Value.Null) ⊎ Made kind w → v ≡ w
    by (inl one) (inl two) = one ∙ sym two
    by (inl one) (inr two) = absurd (not_null kind w two more (sym e ∙ ap printed one))
    by (inr one) (inl two) = absurd (not_null kind v one bits (e ∙ ap printed two))
    by (inr one) (inr two) = made_injective kind v w one two bits more e

pub one_spelled : OneValueIsSpelled
one_spelled kind text a b one two = printed_injective kind a b one.type two.type one.bits two.bits (one.spelling ∙ sym two.spelling)

-- ---- what is parsed, and compared with what it is printed as

pub differs : (xs ys : List ℕ) → false ≡ bytes_eq xs ys → xs ≢ ys
differs xs ys unlike e = false_true (unlike ∙ (bytes_eq-Decides xs ys).1 e)
  where
    false_true : false ≡ true → ⊥
    false_true h = cc

pub parsed_integer : {E : Type 0} (n : ℤ) (text : List ℕ) (r : Result ℤ E) → IsInteger n → signed_decimal n ≡ text → ParsesSigned w32 10 text r → r ≡ Ok n
parsed_integer n text r h e parses = parse-signed_decimal w32 n text r h (mag_small n (wider n h)) (sym e) parses

pub parsed_long : {E : Type 0} (n : ℤ) (text : List ℕ) (r : Result ℤ E) → IsLong n → signed_decimal n ≡ text → ParsesSigned w64 10 text r → r ≡ Ok n
parsed_long n text r h e parses = parse-signed_decimal w64 n text r h (mag_small n h) (sym e) parses

ok_injective : {E : Type 0} (m n : ℤ) → ◌≡◌ {A = Result ℤ E} (Ok m) (Ok n) → m ≡ n
ok_injective {E} m n e = cc

-- a number that was parsed, and is printed otherwise, is no number that the text spells
pub not_printed : {E : Type 0} (m n : ℤ) (shown text : List ℕ) (r : Result ℤ E) → r ≡ Ok m → r ≡ Ok n → shown ≡ signed_decimal m → false ≡ bytes_eq shown text → signed_decimal n ≢ text
not_printed m n shown text r parsed other is unlike e = differs shown text unlike (is ∙ ap signed_decimal (ok_injective m n (sym parsed ∙ other)) ∙ e)

-- ---- a date that was read

jiff_text_same : (a b : CivilDate) → a.year ≡ b.year → a.month ≡ b.month → a.day ≡ b.day → jiff.date_text a ≡ jiff.date_text b
jiff_text_same a b year month day = rw (year, month, day) refl

-- the reader gave the day's date
abbrev ReadsDay : ℤ → Result CivilDate Error → Type 0
ReadsDay days (Ok d) = (epoch_day d ≡ days) × (jiff.date_text d ≡ date_text days)
ReadsDay days (Err e) = ⊥

read_day : (days : ℤ) (text : List ℕ) (r : Result CivilDate Error) → IsDay days → date_text days ≡ text → date_view r ≡ parse_date text → ReadsDay days r
read_day days text r h e view = by r (view ∙ ap parse_date (sym e ∙ sym (civil_date days h).text) ∙ parse_date-date_text (civil_date days h).date)
  where
    by : (r : Result CivilDate Error) → date_view r ≡ Ok (date_parts (civil_date days h).date) → ReadsDay days r
    by (Err error) is = cc
    by (Ok d) is =
        let parts = ok_same (date_parts d) (date_parts (civil_date days h).date) is in
        let year : d.year ≡ (civil_date days h).date.year = ap (λ (p : DateParts). p.year) parts in
        let month : d.month ≡ (civil_date days h).date.month = ap (λ (p : DateParts). p.month) parts in
        let day : d.day ≡ (civil_date days h).date.day = ap (λ (p : DateParts). p.day) parts in
        (epoch_day_same d (civil_date days h).date year month day ∙ (civil_date days h).same, jiff_text_same d (civil_date days h).date year month day ∙ (civil_date days h).text)

pub no_day_read : (days : ℤ) (text : List ℕ) (r : Result CivilDate Error) (e : Error) → r ≡ Err e → date_view r ≡ parse_date text → IsDay days → date_text days ≢ text
no_day_read days text r e is view h spelled = subst (λ (r : Result CivilDate Error). ReadsDay days r) is (read_day days text r h spelled view)

pub day_read : (days : ℤ) (text : List ℕ) (r : Result CivilDate Error) (d : CivilDate) → r ≡ Ok d → date_view r ≡ parse_date text → IsDay days → date_text days ≡ text → (epoch_day d ≡ days) × (jiff.date_text d ≡ text)
day_read days text r d is view h spelled =
    let read = subst (λ (r : Result CivilDate Error). ReadsDay days r) is (read_day days text r h spelled view) in
    (read.0, read.1 ∙ spelled)

-- a date that is printed as the text is the day that the text spells
pub day_shown : (d : CivilDate) (days : ℤ) (shown text : List ℕ) → days ≡ epoch_day d → IsDay days → shown ≡ jiff.date_text d → true ≡ bytes_eq shown text → date_text days ≡ text
day_shown d days shown text is range prints alike =
    ap date_text is ∙ date_text-date d (subst (λ (day : ℤ). IsDay day) is range) ∙ sym prints ∙ (bytes_eq-Decides shown text).0 (sym alike)

-- one that is printed otherwise is not
pub day_not_shown : (days : ℤ) (shown text : List ℕ) (r : Result CivilDate Error) (d : CivilDate) → r ≡ Ok d → date_view r ≡ parse_date text → shown ≡ jiff.date_text d → false ≡ bytes_eq shown text → IsDay days → date_text days ≢ text
day_not_shown days shown text r d is view prints unlike h spelled =
    differs shown text unlike (prints ∙ (day_read days text r d is view h spelled).1)

pub not_early : (days : ℤ) → negsuc 719161 ≤ℤ days → le_z (negsuc 719161) days ≡ false → ⊥
not_early days h e = grind (arith, ints)

-- the value that was read is the only one that the text spells
pub only_read : (kind : DataType) (text : List ℕ) (v : Value) → Spells kind text v → (w : Value) → Spells kind text w
    → ◌≡◌ {A = Result Value ValueFault} (Ok v) (Ok w) ⊎ ◌≡◌ {A = Result Value ValueFault} (Ok v) (Err ValueFault.OutOfMemory)
only_read kind text v one w two = inl (ap Ok (one_spelled kind text v w one two))
