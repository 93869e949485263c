-- Pieces between separators, and words.
use Rattle.std.proofs.Common.{◌≡◌, ℕ, zero, suc, ◌+◌, ◌<◌, ◌≤◌, List, [], ◌∷◌, length, take, drop, get_or, Bool, true, false, cond, not, eqb, ◌&&◌, refl, inl, inr, arith}
use Rattle.std.specs.Prelude.{IsUtf8, Option}
use Rattle.std.specs.List.{prefix_len, slice_split, onto_first}
use Rattle.std.proofs.lemmas.Bool.{eqb-true, cases_lt}
use Rattle.std.proofs.lemmas.Bool.Decides.{nat_tests}
use Rattle.std.proofs.lemmas.Str.{IsUtf8-from_ascii}
use Rattle.std.proofs.lemmas.List.Sums.{prefix_len_passes}
use Rattle.plan_tokens.specs.Bytes.{is_letter, is_word_byte, is_word}
use Rattle.std.proofs.Common.{◌++◌, subst, append-nil}
use Rattle.cn_types.specs.declared.value.Value.{Value}
use Rattle.cn_types.specs.declared.schema.Field.{Field}
use Rattle.table_lines.specs.Lines.{pieces_left, behind_first, AreCells}

split_by_test : (separator b : ℕ) (rest : List ℕ) (test : Bool) → eqb b separator ≡ test
    → slice_split (λ b. eqb b separator) rest ≡ take (prefix_len (λ b. not (eqb b separator)) rest) rest ∷ pieces_left separator (behind_first (drop (prefix_len (λ b. not (eqb b separator)) rest) rest))
    → cond test ([] ∷ slice_split (λ b. eqb b separator) rest) (onto_first b (slice_split (λ b. eqb b separator) rest))
    ≡ take (cond (not test) (1 + prefix_len (λ b. not (eqb b separator)) rest) 0) (b ∷ rest)
    ∷ pieces_left separator (behind_first (drop (cond (not test) (1 + prefix_len (λ b. not (eqb b separator)) rest) 0) (b ∷ rest)))
split_by_test separator b rest true t more = refl
split_by_test separator b rest false t more =
    let one : 1 + prefix_len (λ b. not (eqb b separator)) rest ≡ suc (prefix_len (λ b. not (eqb b separator)) rest) = omega arith in
    rw (one, more) refl

-- the first piece, and what is left behind its separator
pub split_first : (separator : ℕ) (rest : List ℕ)
    → slice_split (λ b. eqb b separator) rest ≡ take (prefix_len (λ b. not (eqb b separator)) rest) rest ∷ pieces_left separator (behind_first (drop (prefix_len (λ b. not (eqb b separator)) rest) rest))
split_first separator [] = refl
split_first separator (b ∷ rest) = split_by_test separator b rest _ refl (split_first separator rest)

pub next_is : (separator size : ℕ) (rest piece behind : List ℕ) (left : Option (List ℕ)) → size ≡ prefix_len (λ b. not (eqb b separator)) rest
    → piece ≡ take size rest → behind ≡ drop size rest → left ≡ behind_first behind → slice_split (λ b. eqb b separator) rest ≡ piece ∷ pieces_left separator left
next_is separator size rest piece behind left size_is piece_is behind_is left_is = rw (left_is, behind_is, piece_is, size_is) (split_first separator rest)

run_by_test : (b : ℕ) (rest : List ℕ) (test : Bool) → is_word_byte b ≡ test
    → prefix_len is_word_byte (take (prefix_len is_word_byte rest) rest) ≡ length (take (prefix_len is_word_byte rest) rest)
    → prefix_len is_word_byte (take (cond test (1 + prefix_len is_word_byte rest) 0) (b ∷ rest)) ≡ length (take (cond test (1 + prefix_len is_word_byte rest) 0) (b ∷ rest))
run_by_test b rest true t more =
    let one : 1 + prefix_len is_word_byte rest ≡ suc (prefix_len is_word_byte rest) = omega arith in
    rw (one, t, more) (omega arith)
run_by_test b rest false t more = refl

-- a run of bytes of a word is one from end to end
pub run_of_run : (bytes : List ℕ) → prefix_len is_word_byte (take (prefix_len is_word_byte bytes) bytes) ≡ length (take (prefix_len is_word_byte bytes) bytes)
run_of_run [] = refl
run_of_run (b ∷ bytes) = run_by_test b bytes _ refl (run_of_run bytes)

both : (a b : Bool) → (a && b) ≡ true → b ≡ true
both true b e = e
both false b e = cc

pub whole_word : (bytes : List ℕ) → is_word bytes ≡ true → prefix_len is_word_byte bytes ≡ length bytes
whole_word bytes e = eqb-true (prefix_len is_word_byte bytes) (length bytes) (both (is_letter (get_or bytes 0 0)) _ e)

word_low : (b : ℕ) → is_word_byte b ≡ true → b < 128
word_low b e = grind (arith, nat_tests)

past_end : (bytes : List ℕ) (i : ℕ) → length bytes ≤ i → get_or bytes i 0 ≡ 0
past_end [] i past = refl
past_end (b ∷ bytes) zero past = absurd (omega arith)
past_end (b ∷ bytes) (suc i) past = past_end bytes i (omega (arith, past))

low_at : (bytes : List ℕ) (i : ℕ) → prefix_len is_word_byte bytes ≡ length bytes → get_or bytes i 0 < 128
low_at bytes i whole =
    elim (cases_lt i (length bytes)) [
      | inl within ↦ word_low (get_or bytes i 0) (prefix_len_passes is_word_byte bytes i 0 (omega (arith, whole, within)))
      | inr past ↦ (let none = past_end bytes i past in omega (arith, none))
    ]

pub word_utf8 : (bytes : List ℕ) → prefix_len is_word_byte bytes ≡ length bytes → IsUtf8 bytes
word_utf8 bytes whole = IsUtf8-from_ascii bytes (λ i. low_at bytes i whole)

none_left : (fields : List Field) (left : List (List ℕ)) → fields ≡ [] → left ≡ [] → AreCells fields left []
none_left [] [] e f = tt
none_left [] (piece ∷ left) e f = cc
none_left (field ∷ fields) left e f = cc

-- no column and no piece is left
pub all_cells : (fields left_fields : List Field) (pieces left : List (List ℕ)) (values : List Value) → left_fields ≡ [] → left ≡ []
    → ((more : List Value) → AreCells left_fields left more → AreCells fields pieces (values ++ more)) → AreCells fields pieces values
all_cells fields left_fields pieces left values no_field none more =
    subst (λ (vs : List Value). AreCells fields pieces vs) (append-nil values) (more [] (none_left left_fields left no_field none))
