-- Decimal numbers, one digit after another.
use Rattle.std.proofs.Common.{◌≡◌, ℕ, ◌+◌, ◌-◌, ◌*◌, ◌<◌, ◌≤◌, true, false, ◌&&◌, ltb, leb, List, length, get_or, take, sym, ap, ◌∙◌, subst, arith, Some, None, inl, inr}
use Rattle.std.specs.List.{list_all}
use Rattle.std.specs.Char.{is_ascii_digit, digit_value}
use Rattle.std.specs.Str.Parse.{digits_value}
use Rattle.std.proofs.lemmas.Bool.{cases_lt, and_parts, and_from, both_ways, ltb-true, lt-ltb, leb-true, le-leb, cond-true, cond-false, false_from_ne_true}
use Rattle.std.proofs.lemmas.Bool.Decides.{nat_tests}
use Rattle.std.proofs.lemmas.List.Elements.{All-get_or}
use Rattle.std.proofs.lemmas.Int.Digits.{digits_value_more}
use Rattle.std.proofs.lemmas.Str.Parse.{digits_value-take-le}
use Rattle.std.proofs.lemmas.List.Sums.{AllPass-from_list_all, list_all-from_AllPass}
use Rattle.httparse.specs.Grammar.{AllPass}
use Rattle.web_heads.specs.Texts.{decimal_of}
use Rattle.web_heads.specs.Standard.{IsDecimal}
use Rattle.web_heads.proofs.StepLemmas.{chosen}

-- the value of an ASCII digit
pub digit_value-digit : (b : ℕ) → 48 ≤ b → b ≤ 57 → digit_value b ≡ b - 48
digit_value-digit b low high = grind (arith, nat_tests)

pub is_digit-range : (b : ℕ) → is_ascii_digit b ≡ true → (48 ≤ b) × (b ≤ 57)
is_digit-range b digit = (grind (arith, nat_tests), grind (arith, nat_tests))

pub decimal_of-Some : (text : List ℕ) (most : ℕ) → 0 < length text → AllPass is_ascii_digit text → digits_value 10 text ≤ most
    → Some (digits_value 10 text) ≡ decimal_of text most
unfolding decimal_of
decimal_of-Some text most some pass fits =
    sym (cond-true (ltb 0 (length text) && list_all is_ascii_digit text && leb (digits_value 10 text) most) (Some (digits_value 10 text)) None
    (and_from (ltb 0 (length text) && list_all is_ascii_digit text) (leb (digits_value 10 text) most)
    (and_from (ltb 0 (length text)) (list_all is_ascii_digit text) (lt-ltb 0 (length text) some) (list_all-from_AllPass is_ascii_digit text pass))
    (le-leb (digits_value 10 text) most fits)))

pub decimal_of-None : (text : List ℕ) (most : ℕ) → (0 < length text → AllPass is_ascii_digit text → digits_value 10 text ≤ most → ⊥)
    → None ≡ decimal_of text most
unfolding decimal_of
decimal_of-None text most never =
    let test = ltb 0 (length text) && list_all is_ascii_digit text && leb (digits_value 10 text) most in
    sym (cond-false test (Some (digits_value 10 text)) None (false_from_ne_true test λ holds.
    let parts = and_parts (ltb 0 (length text) && list_all is_ascii_digit text) (leb (digits_value 10 text) most) holds in
    let front = and_parts (ltb 0 (length text)) (list_all is_ascii_digit text) parts.0 in
    never (ltb-true 0 (length text) front.0) (AllPass-from_list_all is_ascii_digit text front.1) (leb-true (digits_value 10 text) most parts.1)))

-- one digit more
pub digits_value-digit : (text : List ℕ) (i b : ℕ) → i < length text → b ≡ get_or text i 0 → is_ascii_digit b ≡ true
    → digits_value 10 (take (i + 1) text) ≡ digits_value 10 (take i text) * 10 + (b - 48)
digits_value-digit text i b inside is digit =
    let range = is_digit-range b digit in
    digits_value_more 10 text i inside
    ∙ ap (λ (n : ℕ). digits_value 10 (take i text) * 10 + n) (ap digit_value (sym is) ∙ digit_value-digit b range.0 range.1)

-- a byte that is no digit
pub decimal_of-no_digit : (text : List ℕ) (most i b : ℕ) → i < length text → b ≡ get_or text i 0 → is_ascii_digit b ≡ false → None ≡ decimal_of text most
decimal_of-no_digit text most i b inside is other = decimal_of-None text most λ some pass fits.
    both_ways (is_ascii_digit b) other (ap is_ascii_digit is ∙ All-get_or (λ v. is_ascii_digit v ≡ true) text i 0 inside pass)

-- a front that is too great
pub decimal_of-great : (text : List ℕ) (most i : ℕ) → most < digits_value 10 (take i text) → None ≡ decimal_of text most
decimal_of-great text most i great = decimal_of-None text most λ some pass fits. omega (arith, digits_value-take-le 10 text i (omega arith))

pub decimal_of-says : (text : List ℕ) (most number : ℕ) → decimal_of text most ≡ Some number → IsDecimal text number × (number ≤ most)
unfolding decimal_of
decimal_of-says text most number e =
    elim (chosen (ltb 0 (length text) && list_all is_ascii_digit text && leb (digits_value 10 text) most) (Some (digits_value 10 text)) None (Some number) e) [
      | inl h ↦
          let parts = and_parts (ltb 0 (length text) && list_all is_ascii_digit text) (leb (digits_value 10 text) most) h.0 in
          let front = and_parts (ltb 0 (length text)) (list_all is_ascii_digit text) parts.0 in
          let is : digits_value 10 text ≡ number = cc in (
            record { some = ltb-true 0 (length text) front.0; digits = AllPass-from_list_all is_ascii_digit text front.1; value = sym is },
            rw is at (leb-true (digits_value 10 text) most parts.1),
          )
      | inr h ↦ absurd (cc)
    ]

pub no_decimal : (text : List ℕ) (most : ℕ) → decimal_of text most ≡ None → 0 < length text → AllPass is_ascii_digit text → digits_value 10 text ≤ most → ⊥
no_decimal text most none some pass fits = let found = decimal_of-Some text most some pass fits in absurd (cc)

-- the clauses of a number that is found, and of one that is not
pub decimal_found : (text : List ℕ) (most number : ℕ) → Some number ≡ decimal_of text most → IsDecimal text number × (number ≤ most)
decimal_found text most number e = decimal_of-says text most number (sym e)

pub decimal_none : (text : List ℕ) (most : ℕ) → None ≡ decimal_of text most → (number : ℕ) → IsDecimal text number → most < number
decimal_none text most e number x = elim (cases_lt most number) [
  | inl great ↦ great
  | inr fits ↦ absurd (no_decimal text most (sym e) x.some x.digits (subst (λ (n : ℕ). n ≤ most) x.value fits))
]
