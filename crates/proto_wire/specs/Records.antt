-- Field records (Protocol Buffers, Encoding, "Message Structure" and "Length-Delimited Records").
use Rattle.std.specs.Prelude.{◌≡◌, ℕ, ◌+◌, ◌*◌, ◌^◌, ◌<◌, ◌≤◌, List, [], ◌∷◌, ◌++◌, length}
use Rattle.std.specs.Int.{w32, w64, to_le_bytes}
use Rattle.proto_wire.specs.declared.field.WireValue.{WireValue}
use Rattle.proto_wire.specs.declared.field.WireValue.TheVariants.{Varint, Eight, Span, Four}
use Rattle.proto_wire.specs.declared.field.WireField.{WireField}
use Rattle.proto_wire.specs.declared.wire_type.WireType.{WireType}
use Rattle.proto_wire.specs.declared.wire_type.WireType.TheVariants.{Base128, Fixed64, Delimited, Fixed32}
use Rattle.proto_wire.specs.Varint.{IsVarint, varint}

-- the number of a wire type ("Message Structure")
abbrev pub type_number : WireType → ℕ
type_number Base128 = 0
type_number Fixed64 = 1
type_number Delimited = 2
type_number Fixed32 = 5

-- the wire type of a value
abbrev pub type_of : WireValue → WireType
type_of (Varint n) = Base128
type_of (Eight n) = Fixed64
type_of (Span start stop) = Delimited
type_of (Four n) = Fixed32

-- a tag: the varint of a field number, from 1 to 2^29 - 1, and of a wire type in the three low bits
pub record IsTag (bytes : List ℕ) (number : ℕ) (kind : WireType) : Type 0 where
  pub low : 1 ≤ number
  pub high : number ≤ 536870911
  pub varint : IsVarint bytes (number * 8 + type_number kind)

-- a value of wire type 2 whose first byte stands at this place: the varint of a length, and then that many bytes, the payload
pub record SpellsSpan (at : ℕ) (bytes : List ℕ) (start stop : ℕ) : Type 0 where
  pub size : List ℕ
  pub payload : List ℕ
  pub whole : bytes ≡ size ++ payload
  pub size_is : IsVarint size (length payload)
  pub start_is : start ≡ at + length size
  pub stop_is : stop ≡ start + length payload

-- the bytes of a value whose first byte stands at this place
abbrev pub SpellsValue : ℕ → List ℕ → WireValue → Type 0
SpellsValue at bytes (Varint n) = IsVarint bytes n
SpellsValue at bytes (Eight n) = (n < 2 ^ 64) × (bytes ≡ to_le_bytes w64 n)
SpellsValue at bytes (Span start stop) = SpellsSpan at bytes start stop
SpellsValue at bytes (Four n) = (n < 2 ^ 32) × (bytes ≡ to_le_bytes w32 n)

-- the bytes of a record whose first byte stands at this place: a tag and a value
pub record Spells (at : ℕ) (bytes : List ℕ) (field : WireField) : Type 0 where
  pub tag : List ℕ
  pub content : List ℕ
  pub whole : bytes ≡ tag ++ content
  pub place : field.at ≡ at
  pub is_tag : IsTag tag field.number (type_of field.value)
  pub is_value : SpellsValue (at + length tag) content field.value

-- the first record of bytes whose first byte stands at this place, and the bytes after it
pub record Begins (at : ℕ) (bytes : List ℕ) (field : WireField) (head rest : List ℕ) : Type 0 where
  pub whole : bytes ≡ head ++ rest
  pub spells : Spells at head field

-- bytes whose first byte stands at this place are one spelling for each record, and nothing else
abbrev pub RecordsFrom : ℕ → List ℕ → List WireField → Type 0
RecordsFrom at bytes [] = bytes ≡ []
RecordsFrom at bytes (field ∷ fields) = (head rest : List ℕ) × Begins at bytes field head rest × RecordsFrom (at + length head) rest fields

-- a message: all of the bytes are one spelling for each record
abbrev pub Records : List ℕ → List WireField → Type 0
Records bytes fields = RecordsFrom 0 bytes fields

-- the shortest spelling of a record of wire type 0
abbrev pub number_record : ℕ → ℕ → List ℕ
number_record number value = varint (number * 8) ++ varint value

-- what stands before a payload of this length in the shortest spelling of a record of wire type 2
abbrev pub span_head : ℕ → ℕ → List ℕ
span_head number size = varint (number * 8 + 2) ++ varint size

-- the shortest spelling of a record of wire type 2
abbrev pub span_record : ℕ → List ℕ → List ℕ
span_record number payload = varint (number * 8 + 2) ++ varint (length payload) ++ payload

-- the record that number_record spells where its first byte stands at this place
abbrev pub number_field : ℕ → ℕ → ℕ → WireField
number_field at number value = record { number = number; at = at; value = Varint value }

-- the place of the payload of span_record where its first byte stands at this place
abbrev pub payload_place : ℕ → ℕ → List ℕ → ℕ
payload_place at number payload = at + length (varint (number * 8 + 2)) + length (varint (length payload))

-- the record that span_record spells where its first byte stands at this place
abbrev pub span_field : ℕ → ℕ → List ℕ → WireField
span_field at number payload =
    let start = payload_place at number payload in record { number = number; at = at; value = Span start (start + length payload) }

-- the places of a value lie within so many bytes, in order
abbrev pub PlacesWithin : ℕ → WireValue → Type 0
PlacesWithin count (Varint n) = Unit {0}
PlacesWithin count (Eight n) = Unit {0}
PlacesWithin count (Span start stop) = (start ≤ stop) × (stop ≤ count)
PlacesWithin count (Four n) = Unit {0}

-- a record of a message of so many bytes: its number is a field number, and its places lie within the bytes
pub record IsWithin (count : ℕ) (field : WireField) : Type 0 where
  pub low : 1 ≤ field.number
  pub high : field.number ≤ 536870911
  pub place : field.at < count
  pub places : PlacesWithin count field.value
