-- The tokens of a text. At each place stands the longest token that its bytes spell.
use Rattle.std.specs.Prelude.{ℕ, zero, suc, ◌+◌, ◌-◌, ◌*◌, ◌^◌, min, Bool, true, false, not, ◌&&◌, ◌||◌, ◌==◌, if◌then◌else◌, ℤ, pos, ◌-ℤ◌, List, [], ◌∷◌, ◌++◌, length, take, drop, fold, slice_index, bytes_eq, Option, None, Some, option_map, unwrap_or, is_some}
use Rattle.std.specs.List.{prefix_len}
use Rattle.cn_types.specs.Dates.{date_text}
use Rattle.plan_tokens.specs.declared.token.Token.{Token}
use Rattle.plan_tokens.specs.declared.token.Token.TheVariants.{Word, Name, Quotation as IsQuotation, Number as IsNumber, Minus, Sign as IsSign, Nothing}
use Rattle.plan_tokens.specs.declared.token.Quotation.{Quotation}
use Rattle.plan_tokens.specs.declared.token.Number.{Number}
use Rattle.plan_tokens.specs.declared.token.Sign.{Sign}
use Rattle.plan_tokens.specs.declared.token.Sign.TheVariants as sign
use Rattle.plan_tokens.specs.declared.token.Placed.{Placed}
use Rattle.plan_tokens.specs.Words.{keyword_of}
use Rattle.plan_tokens.specs.Bytes.{is_space, is_digit, is_letter, is_word_byte}

-- ---- words and numbers

-- a word of the grammar, or a name
abbrev pub word_token : List ℕ → Token
word_token word = unwrap_or (option_map Word (keyword_of word)) (Name word)

-- the number that decimal digits tell
abbrev pub digits_value : List ℕ → ℕ
digits_value digits = fold (λ value digit. 10 * value + (digit - 48)) 0 digits

-- the word `L` stands at the front, and ends there: 76 is `L`. Past the end stands a 0
abbrev pub begins_with_mark : List ℕ → Bool
begins_with_mark after = slice_index after 0 == 76 && not (is_word_byte (slice_index after 1))

-- the number at the front: the longest run of digits
unfoldable pub number_at : List ℕ → Number
number_at bytes = record { value = min (digits_value (take (prefix_len is_digit bytes) bytes)) (2 ^ 64 - 1); long = begins_with_mark (drop (prefix_len is_digit bytes) bytes) }

-- ---- quotes

-- what is read to a quote: more bytes of the text, and one more byte that was taken for each
abbrev pub and_then_read : List ℕ → ℕ → Option (List ℕ × ℕ) → Option (List ℕ × ℕ)
and_then_read bytes size rest = option_map (λ read. (bytes ++ read.0, size + read.1)) rest

-- What stands behind an opening quote, up to the quote that isn't doubled: the text, in which a doubled quote is one, and how many bytes it
-- takes with the closing quote. None where no such quote comes. The flag says that the byte before was a quote, the first of two or the last.
unfoldable pub read_quoted : ℕ → Bool → List ℕ → Option (List ℕ × ℕ)
read_quoted quote true [] = Some ([], 0)
read_quoted quote false [] = None
read_quoted quote true (b ∷ rest) = if b == quote then and_then_read (quote ∷ []) 1 (read_quoted quote false rest) else Some ([], 0)
read_quoted quote false (b ∷ rest) = if b == quote then and_then_read [] 1 (read_quoted quote true rest) else and_then_read (b ∷ []) 1 (read_quoted quote false rest)

-- the day among the first so many from 0001-01-01, whose date the text is: that day stands 719162 days before 1970-01-01
unfoldable pub day_among : ℕ → List ℕ → Option ℤ
day_among zero text = None
day_among (suc n) text = if bytes_eq (date_text (pos n -ℤ pos 719162)) text then Some (pos n -ℤ pos 719162) else day_among n text

-- the day from 0001-01-01 to 9999-12-31 whose date, as YYYY-MM-DD, the text is
unfoldable pub day_of : List ℕ → Option ℤ
day_of text = day_among 3652059 text

abbrev pub quotation : List ℕ → Quotation
quotation text = record { text = text; day = day_of text }

-- bytes that begin with no token: nothing is read of what follows
abbrev pub no_token : List ℕ → Token × ℕ
no_token bytes = (Nothing, length bytes)

-- a name stands in backquotes, 96, and a text in quotes
abbrev pub quoted_token : ℕ → List ℕ → Token
quoted_token quote text = if quote == 96 then Name text else IsQuotation (quotation text)

-- the token of bytes that begin with a quote
abbrev pub enclosed : ℕ → List ℕ → Token × ℕ
enclosed quote bytes = unwrap_or (option_map (λ read. (quoted_token quote read.0, 1 + read.1)) (read_quoted quote false (drop 1 bytes))) (no_token bytes)

-- ---- signs

-- the number whose digits stand at the front
abbrev pub number_before : List ℕ → Option Number
number_before bytes = if is_digit (slice_index bytes 0) then Some (number_at bytes) else None

-- a sign of one byte
abbrev pub short_sign : ℕ → Option Sign
short_sign b =
    if b == 124 then Some sign.Bar
    else (if b == 44 then Some sign.Comma
    else (if b == 46 then Some sign.Dot
    else (if b == 64 then Some sign.At
    else (if b == 40 then Some sign.Open
    else (if b == 41 then Some sign.Close
    else (if b == 43 then Some sign.Plus
    else (if b == 42 then Some sign.Star
    else (if b == 37 then Some sign.Percent
    else (if b == 61 then Some sign.Equal
    else (if b == 60 then Some sign.Less
    else (if b == 62 then Some sign.Greater else None)))))))))))

-- a sign of two bytes: `!=`, `<=`, `>=`
abbrev pub long_sign : ℕ → Option Sign
long_sign b = if b == 33 then Some sign.NotEqual else (if b == 60 then Some sign.LessEqual else (if b == 62 then Some sign.GreaterEqual else None))

-- the sign at the front, and how many bytes it takes: `<=>` before the signs of two bytes, and those before the signs of one byte
abbrev pub sign_of : ℕ → ℕ → ℕ → Option (Sign × ℕ)
sign_of first second third =
    if first == 60 && second == 61 && third == 62 then Some (sign.SameOrNull, 3)
    else (if second == 61 && is_some (long_sign first) then option_map (λ one. (one, 2)) (long_sign first)
    else option_map (λ one. (one, 1)) (short_sign first))

abbrev pub sign_token : List ℕ → Token × ℕ
sign_token bytes = unwrap_or (option_map (λ found. (IsSign found.0, found.1)) (sign_of (slice_index bytes 0) (slice_index bytes 1) (slice_index bytes 2))) (no_token bytes)

-- ---- tokens

-- the token of bytes that begin with this byte
abbrev pub token_behind : ℕ → List ℕ → Token × ℕ
token_behind first bytes =
    if is_letter first then (word_token (take (prefix_len is_word_byte bytes) bytes), prefix_len is_word_byte bytes)
    else (if is_digit first then (IsNumber (number_at bytes), prefix_len is_digit bytes)
    else (if first == 96 || first == 39 then enclosed first bytes
    else (if first == 45 then (Minus (number_before (drop 1 bytes)), 1) else sign_token bytes)))

-- the token at the front of bytes that begin with no space, and how many bytes it takes: 96 is a backquote, 39 a quote and 45 is `-`
unfoldable pub first_token : List ℕ → Token × ℕ
first_token bytes = token_behind (slice_index bytes 0) bytes

-- The tokens of bytes that begin at a place, where the first so many bytes belong to the token before.
unfoldable pub tokens_from : ℕ → ℕ → List ℕ → List Placed
tokens_from taken at [] = []
tokens_from (suc taken) at (b ∷ rest) = tokens_from taken (at + 1) rest
tokens_from zero at (b ∷ rest) =
    if is_space b then tokens_from 0 (at + 1) rest
    else record { token = (first_token (b ∷ rest)).0; at = at } ∷ tokens_from ((first_token (b ∷ rest)).1 - 1) (at + 1) rest

-- the tokens of a text, each with its place in bytes
abbrev pub tokens_of : List ℕ → List Placed
tokens_of text = tokens_from 0 0 text
