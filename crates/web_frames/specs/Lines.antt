-- The lines of a trailers frame (gRPC-Web protocol, "Message framing"), as functions of its payload.
use Rattle.std.specs.Prelude.{ℕ, if◌then◌else◌, ◌==◌, ◌&&◌, List, [], ◌∷◌, Option, Some, None, option_and_then}
use Rattle.std.specs.Str.{bytes_eq, str_to_ascii_lowercase}
use Rattle.web_heads.specs.Texts.{cut}

abbrev pub carriage_return : ℕ
carriage_return = 13

abbrev pub line_feed : ℕ
line_feed = 10

abbrev pub colon : ℕ
colon = 58

abbrev pub space : ℕ
space = 32

-- the lines with one byte more before them: a CR right before an LF ends a line
abbrev pub before_lines : ℕ → List (List ℕ) → List (List ℕ)
before_lines b [] = (b ∷ []) ∷ []
before_lines b ([] ∷ lines) = (b ∷ []) ∷ lines
before_lines b ((c ∷ line) ∷ lines) =
    if b == carriage_return && c == line_feed then [] ∷ line ∷ lines else (b ∷ c ∷ line) ∷ lines

-- the lines of a text, without their CR LF; what follows the last CR LF is a line too
unfoldable pub lines_of : List ℕ → List (List ℕ)
lines_of [] = [] ∷ []
lines_of (b ∷ bytes) = before_lines b (lines_of bytes)

-- a text without one space at its beginning
abbrev pub without_space : List ℕ → List ℕ
without_space [] = []
without_space (b ∷ text) = if b == space then text else b ∷ text

-- what stands behind a line's first colon, where a name in lower case stands before it in either case
abbrev pub value_if_named : List ℕ → List ℕ × List ℕ → Option (List ℕ)
value_if_named name parts = if bytes_eq (str_to_ascii_lowercase parts.0) name then Some (without_space parts.1) else None

-- the value of a line `name:value` of this name; none where the line has no colon or another name
unfoldable pub value_of : List ℕ → List ℕ → Option (List ℕ)
value_of name line = option_and_then (value_if_named name) (cut colon line)

-- the first where it is there, else the second
abbrev pub or_else : Option (List ℕ) → Option (List ℕ) → Option (List ℕ)
or_else None second = second
or_else (Some value) second = Some value

-- the value of the first line of a name
unfoldable pub first_of : List ℕ → List (List ℕ) → Option (List ℕ)
first_of name [] = None
first_of name (line ∷ lines) = or_else (value_of name line) (first_of name lines)

-- the value of the first line of a name in a text
abbrev pub first_value : List ℕ → List ℕ → Option (List ℕ)
first_value name text = first_of name (lines_of text)
