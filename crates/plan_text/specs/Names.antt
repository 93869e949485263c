-- Names put back into the form of identifiers, and texts in JSON.
use Rattle.std.specs.Prelude.{ℕ, ◌+◌, ◌/◌, ◌%◌, ◌==◌, nat_lt, if◌then◌else◌, List, [], ◌∷◌, ◌++◌, flat_map}
use Rattle.plan_tokens.specs.Bytes.{is_word}

-- a backquote in a name is doubled: 96
abbrev pub doubled_byte : ℕ → List ℕ
doubled_byte b = if b == 96 then 96 ∷ 96 ∷ [] else b ∷ []

abbrev pub doubled : List ℕ → List ℕ
doubled name = flat_map doubled_byte name

-- a part of an identifier stands as it is where it is a word, and else in backquotes
unfoldable pub part_of : List ℕ → List ℕ
part_of name = if is_word name then name else 96 ∷ doubled name ++ 96 ∷ []

-- a digit of sixteen: 48 is `0` and 97 is `a`
abbrev pub hex_digit : ℕ → ℕ
hex_digit n = if nat_lt n 10 then 48 + n else 87 + n

-- JSON escapes quotes, 34, backslashes, 92, and the characters below 32
abbrev pub json_byte : ℕ → List ℕ
json_byte b =
    if b == 34 then 92 ∷ 34 ∷ []
    else (if b == 92 then 92 ∷ 92 ∷ []
    else (if nat_lt b 32 then 92 ∷ 117 ∷ 48 ∷ 48 ∷ hex_digit (b / 16) ∷ hex_digit (b % 16) ∷ [] else b ∷ []))

abbrev pub json_escaped : List ℕ → List ℕ
json_escaped text = flat_map json_byte text
