-- Where a text may be cut.
use Rattle.std.proofs.Common.{◌≡◌, ℕ, zero, suc, ◌+◌, ◌-◌, ◌<◌, ◌≤◌, List, [], ◌∷◌, length, get_or, Bool, true, eqb, ◌||◌, refl, subst, arith, add-one}
use Rattle.std.specs.Prelude.{IsUtf8, IsCharBoundary}
use Rattle.std.specs.List.{prefix_len}
use Rattle.std.proofs.lemmas.Bool.Decides.{nat_tests}
use Rattle.std.proofs.lemmas.List.Sums.{prefix_len_passes, prefix_len-le-length}
use Rattle.std.proofs.lemmas.Str.{IsCharBoundary-start, IsCharBoundary-after_ascii}
use Rattle.plan_tokens.specs.Bytes.{is_space, is_digit, is_letter, is_word_byte, EndsInAscii}
use Rattle.plan_tokens.proofs.QuotedFacts.{inside_from_byte}

-- behind a run of ASCII characters
ascii_run : (test : ℕ → Bool) (text : List ℕ) (size : ℕ) → ((b : ℕ) → test b ≡ true → b < 128) → IsUtf8 text → size ≡ prefix_len test text → IsCharBoundary text size
ascii_run test text zero low utf8 e = IsCharBoundary-start text utf8
ascii_run test text (suc size) low utf8 e =
    let passes : test (get_or text size 0) ≡ true = prefix_len_passes test text size 0 (omega (arith, e)) in
    let within : size < length text = (let most = prefix_len-le-length test text in omega (arith, e, most)) in
    subst (λ (n : ℕ). IsCharBoundary text n) (add-one size) (IsCharBoundary-after_ascii text size utf8 within (low (get_or text size 0) passes))

digit_low : (b : ℕ) → is_digit b ≡ true → b < 128
digit_low b e = grind (arith, nat_tests)

word_low : (b : ℕ) → is_word_byte b ≡ true → b < 128
word_low b e = grind (arith, nat_tests)

space_low : (b : ℕ) → is_space b ≡ true → b < 128
space_low b e = grind (arith, nat_tests)

pub after_word : (text : List ℕ) → IsUtf8 text → IsCharBoundary text (prefix_len is_word_byte text)
after_word text utf8 = ascii_run is_word_byte text _ word_low utf8 refl

pub after_digits : (text : List ℕ) → IsUtf8 text → IsCharBoundary text (prefix_len is_digit text)
after_digits text utf8 = ascii_run is_digit text _ digit_low utf8 refl

pub after_spaces : (text : List ℕ) → IsUtf8 text → IsCharBoundary text (prefix_len is_space text)
after_spaces text utf8 = ascii_run is_space text _ space_low utf8 refl

after_byte : (text : List ℕ) (at : ℕ) → IsUtf8 text → 0 < get_or text at 0 → get_or text at 0 < 128 → IsCharBoundary text (at + 1)
after_byte text at utf8 some low = IsCharBoundary-after_ascii text at utf8 (inside_from_byte text at some) low

-- behind an ASCII character at the front
pub after_first : (text : List ℕ) → IsUtf8 text → 0 < get_or text 0 0 → get_or text 0 0 < 128 → IsCharBoundary text 1
after_first text utf8 some low = after_byte text 0 utf8 some low

past_third : (a b c size : ℕ) → 0 < get_or (a ∷ b ∷ c ∷ []) (suc (suc (suc (suc size))) - 1) 0 → ⊥
past_third a b c size some =
    let e : suc (suc (suc (suc size))) - 1 ≡ suc (suc (suc size)) = omega arith in
    let none = rw e at some in
    absurd (omega (arith, none))

-- a run has a byte where the first passes
run_begins : (test : ℕ → Bool) (text : List ℕ) → 0 < length text → test (get_or text 0 0) ≡ true → 1 ≤ prefix_len test text
run_begins test [] some passes = absurd (omega arith)
run_begins test (b ∷ text) some passes = rw passes (omega arith)

letter_in_word : (b : ℕ) → is_letter b ≡ true → is_word_byte b ≡ true
letter_in_word b e = rw e refl

-- a letter stands within the text
letter_some : (b : ℕ) → is_letter b ≡ true → 0 < b
letter_some b e = grind (arith, nat_tests)

pub word_begins : (text : List ℕ) → is_letter (get_or text 0 0) ≡ true → 1 ≤ prefix_len is_word_byte text
word_begins text letter = run_begins is_word_byte text (inside_from_byte text 0 (letter_some (get_or text 0 0) letter)) (letter_in_word (get_or text 0 0) letter)

pub number_begins : (text : List ℕ) → 0 < length text → is_digit (get_or text 0 0) ≡ true → 1 ≤ prefix_len is_digit text
number_begins text some digit = run_begins is_digit text some digit

-- behind a sign
sign_end : (text : List ℕ) (size : ℕ) → IsUtf8 text → EndsInAscii (get_or text 0 0 ∷ get_or text 1 0 ∷ get_or text 2 0 ∷ []) size → IsCharBoundary text size
sign_end text zero utf8 ends = absurd (omega (arith, ends.0))
sign_end text (suc zero) utf8 ends = after_byte text 0 utf8 ends.1 ends.2
sign_end text (suc (suc zero)) utf8 ends = after_byte text 1 utf8 ends.1 ends.2
sign_end text (suc (suc (suc zero))) utf8 ends = after_byte text 2 utf8 ends.1 ends.2
sign_end text (suc (suc (suc (suc size)))) utf8 ends = absurd (past_third _ _ _ size ends.1)

pub after_sign : (text : List ℕ) (a b c size : ℕ) → IsUtf8 text → a ≡ get_or text 0 0 → b ≡ get_or text 1 0 → c ≡ get_or text 2 0 → EndsInAscii (a ∷ b ∷ c ∷ []) size → IsCharBoundary text size
after_sign text a b c size utf8 first second third ends = sign_end text size utf8 (rw (← first, ← second, ← third) ends)

-- a quote is an ASCII character
pub quote_low : (quote : ℕ) → (eqb quote 96 || eqb quote 39) ≡ true → (0 < quote) × (quote < 128)
quote_low quote e = (grind (arith, nat_tests), grind (arith, nat_tests))
