-- The lines of a message (RFC 9112, section 2.2): each ends in CR LF, or in LF alone.
use Rattle.std.specs.Prelude.{ℕ, if◌then◌else◌, ◌==◌, List, [], ◌∷◌, ◌++◌, Option, Some, None, option_and_then}
use Rattle.std.specs.List.{flat_map}
use Rattle.httparse.specs.Ascii.{line_feed, carriage_return}
use Rattle.httparse.specs.Grammar.{LineEnd, crlf, lf, print_end}

-- a line without its end, and its end
pub record Line : Type 0 where
  pub text : List ℕ
  pub ending : LineEnd

-- the bytes of lines
abbrev pub lines_bytes : List Line → List ℕ
lines_bytes lines = flat_map (λ l. l.text ++ print_end l.ending) lines

-- a line with one byte more before it: a CR right before a lone LF belongs to the line's end
abbrev pub with_byte : ℕ → List ℕ → LineEnd → Line
with_byte b [] lf = if b == carriage_return then record { text = []; ending = crlf } else record { text = b ∷ []; ending = lf }
with_byte b [] crlf = record { text = b ∷ []; ending = crlf }
with_byte b (c ∷ text) ending = record { text = b ∷ c ∷ text; ending = ending }

-- the first of the lines with one byte more before it; none where there is no line
abbrev pub before_first_line : ℕ → List Line → Option (List Line)
before_first_line b [] = None
before_first_line b (l ∷ lines) = Some (with_byte b l.text l.ending ∷ lines)

-- the lines with one byte more before them: an LF is a line of its own
abbrev pub before_lines : ℕ → List Line → Option (List Line)
before_lines b lines =
    if b == line_feed then Some (record { text = []; ending = lf } ∷ lines) else before_first_line b lines

-- the lines that bytes are; none where bytes follow the last LF
unfoldable pub lines_of : List ℕ → Option (List Line)
lines_of [] = Some []
lines_of (b ∷ bytes) = option_and_then (before_lines b) (lines_of bytes)
