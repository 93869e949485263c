-- Readings of a message's fields (Protocol Buffers, Encoding, "Last One Wins", "Oneofs" and "Length-Delimited Records"). A record of another
-- number or of another wire type is skipped.
use Rattle.std.specs.Prelude.{ℕ, ℤ, pos, ◌%◌, ◌^◌, ◌==◌, ◌&&◌, Bool, false, not, if◌then◌else◌, List, [], ◌∷◌, map, flat_map, Option, Some, None, option_map, unwrap_or}
use Rattle.std.specs.Int.{w32, w64, cast_signed}
use Rattle.std.specs.Option.{option_or}
use Rattle.std.specs.List.{filter_map, after_last}
use Rattle.std.specs.Str.Lossy.{utf8_lossy}
use Rattle.proto_fields.specs.declared.kind.MessageKind.{MessageKind}
use Rattle.proto_fields.specs.Fields.{Content, Number, Eight, Payload, Four, Field, fields_of}
use Rattle.proto_fields.specs.Kinds.{is_member}

-- ---- what one record holds

-- a varint
abbrev pub number_of : Content → Option ℕ
number_of (Number value) = Some value
number_of (Eight value) = None
number_of (Payload bytes) = None
number_of (Four value) = None

-- a payload
abbrev pub payload_of_content : Content → Option (List ℕ)
payload_of_content (Number value) = None
payload_of_content (Eight value) = None
payload_of_content (Payload bytes) = Some bytes
payload_of_content (Four value) = None

-- the varint of a record of this number
abbrev pub number_in : ℕ → Field → Option ℕ
number_in number field = if field.number == number then number_of field.content else None

-- the payload of a record of this number
abbrev pub payload_in : ℕ → Field → Option (List ℕ)
payload_in number field = if field.number == number then payload_of_content field.content else None

-- ---- scalars

-- what is read of the last of these of which something is read ("Last One Wins")
unfoldable pub last_some : {A B : Type 0} → (A → Option B) → List A → Option B
last_some read [] = None
last_some read (x ∷ xs) = option_or (last_some read xs) (read x)

-- the last varint of this number
abbrev pub last_number : ℕ → List Field → Option ℕ
last_number number fields = last_some (number_in number) fields

-- an int32 is the low 32 bits, as a two's complement; an enum is its int32, in the list of the enum's numbers or not
abbrev pub int32_of : ℕ → ℤ
int32_of value = cast_signed w32 (value % 2 ^ 32)

-- an int64 is all 64 bits, as a two's complement
abbrev pub int64_of : ℕ → ℤ
int64_of value = cast_signed w64 value

-- a bool is true where any bit is set
abbrev pub bool_of : ℕ → Bool
bool_of value = not (value == 0)

-- an optional scalar
abbrev pub optional_int32 : ℕ → List Field → Option ℤ
optional_int32 number fields = option_map int32_of (last_number number fields)

abbrev pub optional_int64 : ℕ → List Field → Option ℤ
optional_int64 number fields = option_map int64_of (last_number number fields)

abbrev pub optional_bool : ℕ → List Field → Option Bool
optional_bool number fields = option_map bool_of (last_number number fields)

-- a scalar, which is at its default where no record has it
abbrev pub int32_field : ℕ → List Field → ℤ
int32_field number fields = unwrap_or (optional_int32 number fields) (pos 0)

abbrev pub int64_field : ℕ → List Field → ℤ
int64_field number fields = unwrap_or (optional_int64 number fields) (pos 0)

abbrev pub bool_field : ℕ → List Field → Bool
bool_field number fields = unwrap_or (optional_bool number fields) false

-- ---- texts, bytes and messages

-- the payloads of this number, in order: those of a repeated field
unfoldable pub payloads : ℕ → List Field → List (List ℕ)
payloads number fields = filter_map (payload_in number) fields

-- the last payload of this number: that of a singular text or of plain bytes
abbrev pub last_payload : ℕ → List Field → Option (List ℕ)
last_payload number fields = last_some (payload_in number) fields

-- a text, in which what is no UTF-8 is replaced; in a sound message it is the payload
abbrev pub optional_text : ℕ → List Field → Option (List ℕ)
optional_text number fields = option_map utf8_lossy (last_payload number fields)

abbrev pub text_field : ℕ → List Field → List ℕ
text_field number fields = unwrap_or (optional_text number fields) []

abbrev pub texts : ℕ → List Field → List (List ℕ)
texts number fields = map utf8_lossy (payloads number fields)

-- the fields of payloads that are joined; none where there is no payload
abbrev pub joined : List (List ℕ) → Option (List Field)
joined [] = None
joined (payload ∷ others) = Some (flat_map fields_of (payload ∷ others))

-- the fields of a singular message of this number: those of all its payloads, one after another
abbrev pub merged : ℕ → List Field → Option (List Field)
merged number fields = joined (payloads number fields)

-- ---- oneofs

-- the member that a record sets
abbrev pub member_in : MessageKind → Field → Option ℕ
member_in kind field = if is_member kind field.number field.content then Some field.number else None

-- whether a record sets another member than this one
abbrev pub sets_other : MessageKind → ℕ → Field → Bool
sets_other kind number field = is_member kind field.number field.content && not (field.number == number)

-- a member of a oneof, and the records since another member was set
pub record Member : Type 0 where
  pub number : ℕ
  pub since : List Field

-- the member of the oneof of a message of this kind that was set last ("Oneofs")
unfoldable pub latest : MessageKind → List Field → Option Member
latest kind fields =
    option_map (λ number. record { number = number; since = after_last (sets_other kind number) fields }) (last_some (member_in kind) fields)
