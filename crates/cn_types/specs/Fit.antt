-- Which values and rows fit a column's type, a list of types or a schema.
use Rattle.std.specs.Prelude.{ℕ, ℤ, pos, negsuc, ◌≤ℤ◌, List, [], ◌∷◌, map, slice_get, unwrap_or, IsUtf8, FitsSigned}
use Rattle.std.specs.Int.{w32, w64}
use Rattle.cn_types.specs.declared.value.DataType.{DataType}
use Rattle.cn_types.specs.declared.value.Value.{Value}
use Rattle.cn_types.specs.declared.row.Row.{Row}
use Rattle.cn_types.specs.declared.schema.Schema.{Schema}

-- 0001-01-01 and 9999-12-31 (ISO 8601), counted in days from 1970-01-01
abbrev pub first_day : ℤ
first_day = negsuc 719161

abbrev pub last_day : ℤ
last_day = pos 2932896

-- a day of these years
abbrev pub IsDay : ℤ → Type 0
IsDay days = (first_day ≤ℤ days) × (days ≤ℤ last_day)

-- a number of 32 bits, and one of 64, in two's complement
abbrev pub IsInteger : ℤ → Type 0
IsInteger n = FitsSigned w32 n

abbrev pub IsLong : ℤ → Type 0
IsLong n = FitsSigned w64 n

-- an integer and a long have the bits of their types
abbrev pub HasBits : Value → Type 0
HasBits (Value.Integer n) = IsInteger n
HasBits (Value.Long n) = IsLong n
HasBits other = Unit {0}

-- a value as every value of a program is: its number has the bits of its type, and its text is UTF-8
abbrev pub IsValue : Value → Type 0
IsValue (Value.Integer n) = IsInteger n
IsValue (Value.Long n) = IsLong n
IsValue (Value.Text text) = IsUtf8 text
IsValue (Value.Date days) = IsInteger days
IsValue other = Unit {0}

-- the value of a row at a place, null past its end
abbrev pub value_at : ℕ → Row → Value
value_at place row = unwrap_or (slice_get row.0 place) Value.Null

-- the value is no date, or its date is in range
abbrev pub HasDateInRange : Value → Type 0
HasDateInRange (Value.Date days) = IsDay days
HasDateInRange other = Unit {0}

-- the value is null or of the type, with its date in range
abbrev pub HasType : DataType → Value → Type 0
HasType kind Value.Null = Unit {0}
HasType DataType.Boolean (Value.Boolean value) = Unit {0}
HasType DataType.Integer (Value.Integer value) = Unit {0}
HasType DataType.Long (Value.Long value) = Unit {0}
HasType DataType.Text (Value.Text value) = Unit {0}
HasType DataType.Date (Value.Date days) = IsDay days
HasType kind value = ⊥

-- one value for each type, null or of that type
abbrev pub HaveTypes : List DataType → List Value → Type 0
HaveTypes [] [] = Unit {0}
HaveTypes (kind ∷ kinds) (value ∷ values) = HasType kind value × HaveTypes kinds values
HaveTypes kinds values = ⊥

-- the row fits the list of types
abbrev pub FitsTypes : List DataType → Row → Type 0
FitsTypes kinds row = HaveTypes kinds row.0

-- the row fits the schema
abbrev pub Fits : Schema → Row → Type 0
Fits schema row = FitsTypes (map (λ field. field.kind) schema.0) row
