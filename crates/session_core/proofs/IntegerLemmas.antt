-- The texts that are written for numbers of 32 bits.
use Rattle.std.proofs.Common.{◌≡◌, ℕ, zero, suc, ◌<◌, ◌≤◌, ◌^◌, ℤ, pos, negsuc, Bool, true, false, ◌&&◌, List, Result, Ok, arith, refl, sym, ap, ◌∙◌, true≢false}
use Rattle.std.specs.Prelude.{bytes_eq, slice_index, neg_ℤ, ◌==◌}
use Rattle.std.specs.Fmt.{decimal, signed_decimal}
use Rattle.std.specs.Int.{w32}
use Rattle.std.specs.Str.Parse.{digits_value, signed_digits_value, ParsesSigned}
use Rattle.std.proofs.lemmas.Bool.Decides.{nat_tests}
use Rattle.std.proofs.lemmas.Fmt.{decimal_digit, decimal_is_IsNumeral, first_decimal, parse-signed_decimal}
use Rattle.std.proofs.lemmas.Slice.Eq.{bytes_eq-Decides}
use Rattle.cn_types.specs.Fit.{IsInteger}
use Rattle.session_core.specs.Presets.{is_integer, is_integer_text, IntegerTextsAreWritten}
use lib.Signed.{mag}

-- the test of 32 bits is the fact
IsInteger-from_test : (n : ℤ) → is_integer n ≡ true → IsInteger n
IsInteger-from_test (pos n) e = let small : n ≤ 2147483647 = grind (arith, nat_tests) in record { sfits = omega arith }
IsInteger-from_test (negsuc n) e = let small : n ≤ 2147483647 = grind (arith, nat_tests) in record { sfits = omega arith }

small_mag : (n : ℤ) → IsInteger n → mag n < 2 ^ 63
small_mag n fits = let small = fits.sfits in omega arith

-- a text that isn't read as a number isn't written for one
pub unread-integer_text : {E : Type 0} (text : List ℕ) (read : Result ℤ E) → ParsesSigned w32 10 text read → ((n : ℤ) → read ≡ Ok n → ⊥)
    → false ≡ is_integer_text text
unread-integer_text text read parses never =
    by (is_integer (signed_digits_value 10 text)) refl (bytes_eq (signed_decimal (signed_digits_value 10 text)) text) refl
  where
    by : (a : Bool) → is_integer (signed_digits_value 10 text) ≡ a → (b : Bool) → bytes_eq (signed_decimal (signed_digits_value 10 text)) text ≡ b
        → false ≡ (a && b)
    by true fits true same =
        let n = signed_digits_value 10 text in
        let range : IsInteger n = IsInteger-from_test n fits in
        absurd (never n (parse-signed_decimal w32 n text read range (small_mag n range) (sym ((bytes_eq-Decides _ _).0 same)) parses))
    by true fits false same = refl
    by false fits b same = refl

IsInteger-to_test : (n : ℤ) → IsInteger n → is_integer n ≡ true
IsInteger-to_test (pos n) fits = let h : n < 2 ^ 31 = fits.sfits in grind (arith, nat_tests)
IsInteger-to_test (negsuc n) fits = let h : n < 2 ^ 31 = fits.sfits in grind (arith, nat_tests)

-- digits without a sign are read as they stand
plain_value : (text : List ℕ) → (slice_index text 0 == 45) ≡ false → (slice_index text 0 == 43) ≡ false
    → signed_digits_value 10 text ≡ pos (digits_value 10 text)
plain_value text minus plus = rw (minus, plus) refl

first_digit : (n : ℕ) → n < 2 ^ 64 → 48 ≤ slice_index (decimal n) 0
first_digit zero fits = let e : slice_index (decimal 0) 0 ≡ 48 = ap (λ (l : List ℕ). slice_index l 0) (decimal_digit 0 (omega arith)) in omega arith
first_digit (suc n) fits = let h = first_decimal (suc n) (omega arith) fits in omega arith

above_signs : (c : ℕ) → 48 ≤ c → ((c == 45) ≡ false) × ((c == 43) ≡ false)
above_signs c h = (grind (arith, nat_tests), grind (arith, nat_tests))

-- what is written for a number is read as it
read_back : (n : ℤ) → IsInteger n → signed_digits_value 10 (signed_decimal n) ≡ n
read_back (pos n) fits =
    let h : n < 2 ^ 31 = fits.sfits in
    let wide : n < 2 ^ 64 = omega arith in
    let signs = above_signs (slice_index (decimal n) 0) (first_digit n wide) in
    plain_value (decimal n) signs.0 signs.1 ∙ ap pos (decimal_is_IsNumeral n wide).1
read_back (negsuc n) fits =
    let h : n < 2 ^ 31 = fits.sfits in
    let wide : suc n < 2 ^ 64 = omega arith in
    ap (λ (k : ℕ). neg_ℤ (pos k)) (decimal_is_IsNumeral (suc n) wide).1

both : (a b : Bool) → a ≡ true → b ≡ true → (a && b) ≡ true
both true true e f = refl
both true false e f = absurd (true≢false (sym f))
both false b e f = absurd (true≢false (sym e))

first_of_both : (a b : Bool) → (a && b) ≡ true → a ≡ true
first_of_both true b e = refl
first_of_both false b e = e

second_of_both : (a b : Bool) → (a && b) ≡ true → b ≡ true
second_of_both true b e = e
second_of_both false b e = absurd (true≢false (sym e))

-- the texts of numbers of 32 bits are exactly those that are written for one
pub written_texts : IntegerTextsAreWritten
written_texts text = (
  (λ test.
      let n = signed_digits_value 10 text in (
        n,
        IsInteger-from_test n (first_of_both (is_integer n) (bytes_eq (signed_decimal n) text) test),
        (bytes_eq-Decides (signed_decimal n) text).0 (second_of_both (is_integer n) (bytes_eq (signed_decimal n) text) test),
      )),
  λ h.
      let read : signed_digits_value 10 text ≡ h.0 = ap (signed_digits_value 10) (sym h.2) ∙ read_back h.0 h.1 in
      both (is_integer (signed_digits_value 10 text)) (bytes_eq (signed_decimal (signed_digits_value 10 text)) text)
      (ap is_integer read ∙ IsInteger-to_test h.0 h.1) ((bytes_eq-Decides _ _).1 (ap signed_decimal read ∙ h.2)),
)
