-- Spellings of fields, and the fields that scalars, texts and messages are written as. A message is the spellings of its fields, one after
-- another, each the shortest (Protocol Buffers, Encoding, "Message Structure").
use Rattle.std.specs.Prelude.{ℕ, ℤ, ◌==◌, ◌^◌, ◌<◌, ◌≤◌, Bool, if◌then◌else◌, List, [], ◌∷◌, length, flat_map, Option, Some, None, option_map}
use Rattle.std.specs.Int.{w64, cast_unsigned}
use Rattle.proto_wire.specs.Records.{number_record, span_record}
use Rattle.proto_fields.specs.Fields.{Content, Number, Eight, Payload, Four, Field}

-- the shortest spelling of a varint or a payload of this number; nothing else is written
abbrev pub content_spelling : ℕ → Content → List ℕ
content_spelling number (Number value) = number_record number value
content_spelling number (Eight value) = []
content_spelling number (Payload bytes) = span_record number bytes
content_spelling number (Four value) = []

abbrev pub field_spelling : Field → List ℕ
field_spelling field = content_spelling field.number field.content

-- the spellings of fields, one after another
unfoldable pub spell : List Field → List ℕ
spell fields = flat_map field_spelling fields

-- what a varint or a payload can be
abbrev pub IsWritableContent : Content → Type 0
IsWritableContent (Number value) = value < 2 ^ 64
IsWritableContent (Eight value) = ⊥
IsWritableContent (Payload bytes) = length bytes < 2 ^ 64
IsWritableContent (Four value) = ⊥

-- a field that has a spelling
pub record IsWritable (field : Field) : Type 0 where
  pub low : 1 ≤ field.number
  pub high : field.number ≤ 536870911
  pub content : IsWritableContent field.content

-- ---- what is written of a value

-- a varint, always
abbrev pub number_fields : ℕ → ℕ → List Field
number_fields number value = record { number = number; content = Number value } ∷ []

-- a payload, always: a set member of a oneof, an item of a repeated field, or a message
abbrev pub payload_fields : ℕ → List ℕ → List Field
payload_fields number bytes = record { number = number; content = Payload bytes } ∷ []

-- a scalar, which is left out at its default
abbrev pub scalar_fields : ℕ → ℕ → List Field
scalar_fields number value = if value == 0 then [] else number_fields number value

-- an optional scalar, which is written where it is present
abbrev pub optional_scalar_fields : ℕ → Option ℕ → List Field
optional_scalar_fields number None = []
optional_scalar_fields number (Some value) = number_fields number value

-- a text or plain bytes, left out where empty
abbrev pub text_fields : ℕ → List ℕ → List Field
text_fields number [] = []
text_fields number (b ∷ bytes) = payload_fields number (b ∷ bytes)

-- an optional text, optional bytes or a message field, written where it is present
abbrev pub optional_payload_fields : ℕ → Option (List ℕ) → List Field
optional_payload_fields number None = []
optional_payload_fields number (Some bytes) = payload_fields number bytes

-- an int32, an int64 or an enum as a varint: its two's complement of 64 bits
abbrev pub bits_of : ℤ → ℕ
bits_of value = cast_unsigned w64 value

-- a bool as a varint
abbrev pub bit_of : Bool → ℕ
bit_of value = if value then 1 else 0

abbrev pub int_fields : ℕ → ℤ → List Field
int_fields number value = scalar_fields number (bits_of value)

abbrev pub optional_int_fields : ℕ → Option ℤ → List Field
optional_int_fields number value = optional_scalar_fields number (option_map bits_of value)

abbrev pub bool_fields : ℕ → Bool → List Field
bool_fields number value = scalar_fields number (bit_of value)

abbrev pub optional_bool_fields : ℕ → Option Bool → List Field
optional_bool_fields number value = optional_scalar_fields number (option_map bit_of value)
