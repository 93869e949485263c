-- The fields of a message without their places (Protocol Buffers, Encoding, "Message Structure").
use Rattle.std.specs.Prelude.{ℕ, zero, suc, nat_lt, if◌then◌else◌, List, [], ◌∷◌, length, map, slice_range, Result, Ok, Err}
use Rattle.proto_wire.specs.declared.fault.WireFault.{WireFault}
use Rattle.proto_wire.specs.declared.field.WireValue.{WireValue}
use Rattle.proto_wire.specs.declared.field.WireValue.TheVariants as wire
use Rattle.proto_wire.specs.declared.field.WireField.{WireField}
use Rattle.proto_wire.specs.Records.{Records}
use Rattle.proto_wire.specs.Reading.{field_at, ◌>>=◌}

-- what a record holds, by its wire type: a varint, eight bytes, a payload or four bytes
pub data Content : Type 0 where
  Number : ℕ → Content
  Eight : ℕ → Content
  Payload : List ℕ → Content
  Four : ℕ → Content

-- one record, wherever it stands
pub record Field : Type 0 where
  pub number : ℕ
  pub content : Content

-- what a value of these bytes holds
abbrev pub content_in : List ℕ → WireValue → Content
content_in bytes (wire.Varint value) = Number value
content_in bytes (wire.Eight value) = Eight value
content_in bytes (wire.Span start stop) = Payload (slice_range bytes start stop)
content_in bytes (wire.Four value) = Four value

-- the field of a record of these bytes
abbrev pub field_in : List ℕ → WireField → Field
field_in bytes field = record { number = field.number; content = content_in bytes field.value }

-- the records from a place on, or the first fault. A record takes a byte at least, so there are no more records than bytes.
unfoldable pub records_from : ℕ → List ℕ → ℕ → Result (List WireField) WireFault
records_from zero bytes at = Ok []
records_from (suc most) bytes at =
    if nat_lt at (length bytes) then (field_at bytes at >>= λ found. records_from most bytes found.1 >>= λ more. Ok (found.0 ∷ more)) else Ok []

-- the records of all of the bytes, or the first fault
unfoldable pub records_in : List ℕ → Result (List WireField) WireFault
records_in bytes = records_from (length bytes) bytes 0

-- the fields of a message, in order; none where the bytes have a fault
unfoldable pub fields_of : List ℕ → List Field
fields_of bytes = fields_or_none (records_in bytes) where
  fields_or_none : Result (List WireField) WireFault → List Field
  fields_or_none (Ok records) = map (field_in bytes) records
  fields_or_none (Err fault) = []

-- the bytes are records
abbrev pub IsMessage : List ℕ → Type 0
IsMessage bytes = (records : List WireField) × Records bytes records
