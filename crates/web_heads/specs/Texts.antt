-- Parts of one line's text.
use Rattle.std.specs.Prelude.{ℕ, if◌then◌else◌, ◌==◌, ◌&&◌, Bool, nat_lt, nat_le, List, [], ◌∷◌, length, reverse, Option, Some, None, option_and_then, option_map}
use Rattle.std.specs.List.{list_all}
use Rattle.std.specs.Char.{is_ascii_digit}
use Rattle.std.specs.Str.Parse.{digits_value}
use Rattle.httparse.specs.Grammar.{skip_ows}

-- a step that may find nothing, and what follows where it finds something
infixl 10 ◌>>=◌
abbrev pub ◌>>=◌ : {A B : Type 0} → Option A → (A → Option B) → Option B
o >>= f = option_and_then f o

-- no bytes
abbrev pub is_empty : List ℕ → Bool
is_empty bytes = length bytes == 0

-- what stands before the first of this byte, and what stands after it; none where the byte does not occur
unfoldable pub cut : ℕ → List ℕ → Option (List ℕ × List ℕ)
cut stop [] = None
cut stop (b ∷ bytes) = if b == stop then Some ([], bytes) else option_map (λ parts. (b ∷ parts.0, parts.1)) (cut stop bytes)

-- the bytes up to the first that fails the test, and those from it on
unfoldable pub run : (ℕ → Bool) → List ℕ → List ℕ × List ℕ
run test [] = ([], [])
run test (b ∷ bytes) = if test b then (b ∷ (run test bytes).0, (run test bytes).1) else ([], b ∷ bytes)

-- without the optional white space at the end (RFC 9110, section 5.6.3)
unfoldable pub without_trailing_ows : List ℕ → List ℕ
without_trailing_ows bytes = reverse (skip_ows (reverse bytes))

-- the number that decimal digits write, up to the greatest that is allowed; none where they are no digits or write a greater one
unfoldable pub decimal_of : List ℕ → ℕ → Option ℕ
decimal_of digits most =
    if nat_lt 0 (length digits) && list_all is_ascii_digit digits && nat_le (digits_value 10 digits) most
    then Some (digits_value 10 digits) else None
