-- The printed spellings: a line is its parts joined by TABs, then LF.
use Rattle.std.specs.Prelude.{ℕ, Bool, zero, suc, ◌==◌, if◌then◌else◌, List, [], ◌∷◌, ◌++◌, map, flat_map, true, false}
use Rattle.std.specs.List.{join_with_byte}
use Rattle.std.specs.Fmt.{signed_decimal}
use Rattle.cn_types.specs.declared.value.Value.{Value}
use Rattle.cn_types.specs.declared.value.Value.TheVariants.{Null, Boolean, Integer, Long, Text, Date}
use Rattle.cn_types.specs.declared.row.Row.{Row}
use Rattle.cn_types.specs.declared.schema.Schema.{Schema}
use Rattle.cn_types.specs.Dates.{date_text}

-- a backslash, TAB, LF and CR are written as a backslash and a letter, or a second backslash
abbrev pub escaped_byte : ℕ → List ℕ
escaped_byte b =
    if b == 92 then 92 ∷ 92 ∷ []
    else (if b == 9 then 92 ∷ 116 ∷ [] else (if b == 10 then 92 ∷ 110 ∷ [] else (if b == 13 then 92 ∷ 114 ∷ [] else b ∷ [])))

-- a name or a text as it is printed
abbrev pub escaped : List ℕ → List ℕ
escaped text = flat_map escaped_byte text

-- the parts joined by TABs, then LF
abbrev pub line_of : List (List ℕ) → List ℕ
line_of parts = join_with_byte 9 parts ++ 10 ∷ []

-- true and false
abbrev pub boolean_text : Bool → List ℕ
boolean_text true = 116 ∷ 114 ∷ 117 ∷ 101 ∷ []
boolean_text false = 102 ∷ 97 ∷ 108 ∷ 115 ∷ 101 ∷ []

-- a value as it is printed: null as `\N`, numbers in decimal digits, dates as YYYY-MM-DD
abbrev pub printed : Value → List ℕ
printed Null = 92 ∷ 78 ∷ []
printed (Boolean value) = boolean_text value
printed (Integer n) = signed_decimal n
printed (Long n) = signed_decimal n
printed (Text bytes) = escaped bytes
printed (Date days) = date_text days

-- the line of a row
abbrev pub row_line : Row → List ℕ
row_line row = line_of (map printed row.0)

-- the line of a schema's names
abbrev pub header_line : Schema → List ℕ
header_line schema = line_of (map (λ field. escaped field.name) schema.0)

-- what stands before a part: nothing before the first, and a TAB before each other
abbrev pub separator : ℕ → List ℕ
separator zero = []
separator (suc place) = 9 ∷ []

-- the backslash that the next character stands behind, where there is one
abbrev pub pending : Bool → List ℕ
pending true = 92 ∷ []
pending false = []
