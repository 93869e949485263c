-- What the tokens of a text hold together: no more than three bytes for each of its bytes, and dates in range.
use Rattle.std.proofs.Common.{◌≡◌, ℕ, zero, suc, ◌+◌, ◌-◌, ◌*◌, ◌<◌, ◌≤◌, List, [], ◌∷◌, length, take, drop, Bool, true, false, cond, refl, arith, length-drop, length-append}
use Rattle.std.specs.Prelude.{Option, Some, None, ℤ, pos, ◌-ℤ◌, unwrap_or, option_map, slice_index, bytes_eq}
use Rattle.std.proofs.lemmas.Int.{ints}
use Rattle.std.proofs.lemmas.List.{length-take}
use Rattle.std.specs.List.{prefix_len}
use Rattle.cn_types.specs.Dates.{date_text}
use Rattle.cn_types.specs.Fit.{IsDay}
use Rattle.plan_tokens.specs.declared.keyword.Keyword.{Keyword}
use Rattle.plan_tokens.specs.declared.token.Sign.{Sign}
use Rattle.plan_tokens.specs.declared.token.Token.{Token}
use Rattle.plan_tokens.specs.declared.token.Token.TheVariants as token
use Rattle.plan_tokens.specs.declared.token.Placed.{Placed}
use Rattle.plan_tokens.specs.Bytes.{is_space, is_digit, is_word_byte}
use Rattle.plan_tokens.specs.Tokens.{word_token, read_quoted, and_then_read, day_among, day_of, quotation, no_token, quoted_token, enclosed, number_at, number_before, first_token, tokens_from, tokens_of}
use Rattle.plan_grammar.specs.Derivation.{only_tokens}
use Rattle.plan_text.specs.Drafts.{name_in, text_in, day_in}

-- the bytes of a token that a draft may hold
abbrev pub content : Token → ℕ
content one = length (name_in one) + length (text_in one)

abbrev pub contents : List Token → ℕ
contents [] = 0
contents (one ∷ tokens) = content one + contents tokens

abbrev pub AreDays : List Token → Type 0
AreDays [] = Unit {0}
AreDays (one ∷ tokens) = IsDay (day_in one) × AreDays tokens

-- ---- days

day_at : (n : ℕ) → n < 3652059 → IsDay (pos n -ℤ pos 719162)
day_at n small = (omega (arith, ints), omega (arith, ints))

no_day : IsDay (pos 0)
no_day = (omega (arith, ints), omega (arith, ints))

among : (test : Bool) (n : ℕ) (other : Option ℤ) → n < 3652059 → IsDay (unwrap_or other (pos 0)) → IsDay (unwrap_or (cond test (Some (pos n -ℤ pos 719162)) other) (pos 0))
among true n other small rest = day_at n small
among false n other small rest = rest

days_among : (n : ℕ) (text : List ℕ) → n ≤ 3652059 → IsDay (unwrap_or (day_among n text) (pos 0))
unfolding day_among
days_among zero text small = no_day
days_among (suc n) text small = among (bytes_eq (date_text (pos n -ℤ pos 719162)) text) n (day_among n text) (omega arith) (days_among n text (omega arith))

day_there : (text : List ℕ) → IsDay (unwrap_or (day_of text) (pos 0))
unfolding day_of
day_there text = days_among 3652059 text (omega arith)

-- ---- one token

-- a token that takes so many of the bytes at its front
record Stands (bytes : List ℕ) (found : Token × ℕ) : Type 0 where
  taken : content found.0 ≤ 2 + found.1
  there : content found.0 ≤ 2 + length bytes
  day : IsDay (day_in found.0)

empty_stands : (bytes : List ℕ) (one : Token) (size : ℕ) → content one ≡ 0 → IsDay (day_in one) → Stands bytes (one, size)
empty_stands bytes one size e d = record { taken = omega arith; there = omega arith; day = d }

none_stands : (bytes : List ℕ) → Stands bytes (no_token bytes)
none_stands bytes = empty_stands bytes token.Nothing (length bytes) refl no_day

word_stands : (bytes word : List ℕ) (size : ℕ) (known : Option Keyword) → length word ≤ size → length word ≤ length bytes
    → Stands bytes (unwrap_or (option_map token.Word known) (token.Name word), size)
word_stands bytes word size None a b = record { taken = omega arith; there = omega arith; day = no_day }
word_stands bytes word size (Some known) a b = record { taken = omega arith; there = omega arith; day = no_day }

-- what is read between quotes is no longer than what it takes, nor than the bytes
IsWithin : List ℕ → Option (List ℕ × ℕ) → Type 0
IsWithin bytes None = Unit {0}
IsWithin bytes (Some read) = (length read.0 ≤ read.1) × (length read.0 ≤ length bytes)

more_within : (b : ℕ) (bytes piece : List ℕ) (read : Option (List ℕ × ℕ)) → length piece ≤ 1 → IsWithin bytes read → IsWithin (b ∷ bytes) (and_then_read piece 1 read)
unfolding IsWithin
more_within b bytes piece None small within = tt
more_within b bytes piece (Some read) small within = let joined = length-append piece read.0 in (omega (arith, joined, within.0), omega (arith, joined, within.1))

either_within : (test : Bool) (bytes : List ℕ) (one other : Option (List ℕ × ℕ)) → IsWithin bytes one → IsWithin bytes other → IsWithin bytes (cond test one other)
either_within true bytes one other a b = a
either_within false bytes one other a b = b

closed_within : (bytes : List ℕ) → IsWithin bytes (Some ([], 0))
unfolding IsWithin
closed_within bytes = (omega arith, omega arith)

none_within : (bytes : List ℕ) → IsWithin bytes None
unfolding IsWithin
none_within bytes = tt

read_within : (quote : ℕ) (behind : Bool) (bytes : List ℕ) → IsWithin bytes (read_quoted quote behind bytes)
unfolding read_quoted
read_within quote true [] = closed_within []
read_within quote false [] = none_within []
read_within quote true (b ∷ rest) = either_within _ (b ∷ rest) _ _ (more_within b rest (quote ∷ []) _ (omega arith) (read_within quote false rest)) (closed_within (b ∷ rest))
read_within quote false (b ∷ rest) =
    either_within _ (b ∷ rest) _ _ (more_within b rest [] _ (omega arith) (read_within quote true rest)) (more_within b rest (b ∷ []) _ (omega arith) (read_within quote false rest))

quoted_stands : (test : Bool) (bytes text : List ℕ) (size : ℕ) → length text ≤ size → length text ≤ length bytes → Stands bytes (cond test (token.Name text) (token.Quotation (quotation text)), size)
quoted_stands true bytes text size a b = record { taken = omega arith; there = omega arith; day = no_day }
quoted_stands false bytes text size a b = record { taken = omega arith; there = omega arith; day = day_there text }

found_stands : (quote : ℕ) (bytes behind : List ℕ) (read : Option (List ℕ × ℕ)) → length behind ≤ length bytes → IsWithin behind read
    → Stands bytes (unwrap_or (option_map (λ read. (quoted_token quote read.0, 1 + read.1)) read) (no_token bytes))
unfolding IsWithin
found_stands quote bytes behind None small within = none_stands bytes
found_stands quote bytes behind (Some read) small within = quoted_stands _ bytes read.0 (1 + read.1) (omega (arith, within.0)) (omega (arith, within.1, small))

enclosed_stands : (quote : ℕ) (bytes : List ℕ) → Stands bytes (enclosed quote bytes)
enclosed_stands quote bytes = found_stands quote bytes (drop 1 bytes) _ (let left = length-drop 1 bytes in omega (arith, left)) (read_within quote false (drop 1 bytes))

sign_stands : (bytes : List ℕ) (found : Option (Sign × ℕ)) → Stands bytes (unwrap_or (option_map (λ found. (token.Sign found.0, found.1)) found) (no_token bytes))
sign_stands bytes None = none_stands bytes
sign_stands bytes (Some found) = empty_stands bytes (token.Sign found.0) found.1 refl no_day

either_stands : (test : Bool) (bytes : List ℕ) (one other : Token × ℕ) → Stands bytes one → Stands bytes other → Stands bytes (cond test one other)
either_stands true bytes one other a b = a
either_stands false bytes one other a b = b

front_stands : (bytes : List ℕ) (size : ℕ) → Stands bytes (word_token (take size bytes), size)
front_stands bytes size = let front = length-take size bytes in word_stands bytes (take size bytes) size _ (omega (arith, front)) (omega (arith, front))

first_stands : (bytes : List ℕ) → Stands bytes (first_token bytes)
unfolding first_token
first_stands bytes =
    either_stands _ bytes _ _ (front_stands bytes (prefix_len is_word_byte bytes))
    (either_stands _ bytes _ _ (empty_stands bytes (token.Number (number_at bytes)) (prefix_len is_digit bytes) refl no_day)
    (either_stands _ bytes _ _ (enclosed_stands (slice_index bytes 0) bytes)
    (either_stands _ bytes _ _ (empty_stands bytes (token.Minus (number_before (drop 1 bytes))) 1 refl no_day) (sign_stands bytes _))))

-- ---- all tokens

-- tokens of so many bytes, of which the first belong to the token before
pub record Room (tokens : List Token) (taken bytes : ℕ) : Type 0 where
  pub texts : contents tokens ≤ 3 * (bytes - taken)
  pub count : length tokens ≤ bytes
  pub days : AreDays tokens

next_texts : (one rest size bytes : ℕ) → one ≤ 2 + size → one ≤ 2 + suc bytes → rest ≤ 3 * (bytes - (size - 1)) → one + rest ≤ 3 * (suc bytes - 0)
next_texts one rest size bytes a b c = omega arith

either_room : (test : Bool) (one other : List Placed) (bytes : ℕ) → Room (only_tokens one) 0 bytes → Room (only_tokens other) 0 bytes → Room (only_tokens (cond test one other)) 0 bytes
either_room true one other bytes a b = a
either_room false one other bytes a b = b

rooms : (taken at : ℕ) (bytes : List ℕ) → Room (only_tokens (tokens_from taken at bytes)) taken (length bytes)
unfolding tokens_from
rooms taken at [] = record { texts = omega arith; count = omega arith; days = tt }
rooms (suc taken) at (b ∷ rest) = let left = rooms taken (at + 1) rest in record { texts = omega (arith, left.texts); count = omega (arith, left.count); days = left.days }
rooms zero at (b ∷ rest) =
    let found = first_stands (b ∷ rest) in
    let spaced = rooms 0 (at + 1) rest in
    let left = rooms ((first_token (b ∷ rest)).1 - 1) (at + 1) rest in
    either_room (is_space b) _ _ (length (b ∷ rest)) (record { texts = omega (arith, spaced.texts); count = omega (arith, spaced.count); days = spaced.days })
    (record {
      texts = next_texts (content (first_token (b ∷ rest)).0) _ (first_token (b ∷ rest)).1 (length rest) found.taken found.there left.texts;
      count = omega (arith, left.count);
      days = (found.day, left.days);
    })

-- the tokens of a text of so many bytes
pub text_room : (text : List ℕ) → Room (only_tokens (tokens_of text)) 0 (length text)
text_room text = rooms 0 0 text
