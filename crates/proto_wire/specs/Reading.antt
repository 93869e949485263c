-- Reading one record after the other, as a function on all of the bytes and a place. What it reads is said by `Records` and `WireFaulty`.
use Rattle.std.specs.Prelude.{ℕ, zero, suc, ◌+◌, ◌-◌, ◌/◌, ◌%◌, ◌^◌, ◌||◌, ◌==◌, nat_lt, if◌then◌else◌, List, [], ◌∷◌, length, take, drop, Result, Ok, Err, Option, Some, None}
use Rattle.std.specs.Int.{w32, w64, from_le_bytes}
use Rattle.proto_wire.specs.declared.fault.WireFault.{WireFault}
use Rattle.proto_wire.specs.declared.fault.WireFault.TheVariants.{Truncated, VarintTooLong, BadTag}
use Rattle.proto_wire.specs.declared.field.WireValue.{WireValue}
use Rattle.proto_wire.specs.declared.field.WireValue.TheVariants.{Varint, Eight, Span, Four}
use Rattle.proto_wire.specs.declared.field.WireField.{WireField}
use Rattle.proto_wire.specs.declared.wire_type.WireType.{WireType}
use Rattle.proto_wire.specs.declared.wire_type.WireType.TheVariants.{Base128, Fixed64, Delimited, Fixed32}
use Rattle.proto_wire.specs.Varint.{group_sum}

-- one step, and then the next where it found something
infixl 10 ◌>>=◌
abbrev pub ◌>>=◌ : {A B : Type 0} → Result A WireFault → (A → Result B WireFault) → Result B WireFault
(Ok x) >>= f = f x
(Err e) >>= f = Err e

-- the bytes of the varint at the front, up to the first below 128, of at most so many
unfoldable pub groups_in : WireFault → WireFault → ℕ → List ℕ → Result (List ℕ) WireFault
groups_in short long zero bytes = Err long
groups_in short long (suc most) [] = Err short
groups_in short long (suc most) (b ∷ bytes) =
    if nat_lt b 128 then Ok (b ∷ []) else groups_in short long most bytes >>= λ more. Ok (b ∷ more)

-- the varint at a place, and the place after it
unfoldable pub varint_at : List ℕ → ℕ → Result (ℕ × ℕ) WireFault
varint_at bytes at =
    groups_in (Truncated (length bytes)) (VarintTooLong at) 10 (drop at bytes) >>= λ groups. Ok (group_sum groups % 2 ^ 64, at + length groups)

-- the wire type of this number
unfoldable pub wire_type : ℕ → Option WireType
wire_type n =
    if n == 0 then Some Base128 else if n == 1 then Some Fixed64 else if n == 2 then Some Delimited else if n == 5 then Some Fixed32 else None

-- the field number and the wire type of a tag that stands at a place
unfoldable pub tag_of : ℕ → ℕ → Result (ℕ × WireType) WireFault
tag_of at tag = if (nat_lt (tag / 8) 1 || nat_lt 536870911 (tag / 8)) then Err (BadTag at) else typed (wire_type (tag % 8)) where
  typed : Option WireType → Result (ℕ × WireType) WireFault
  typed None = Err (BadTag at)
  typed (Some kind) = Ok (tag / 8, kind)

-- the payload of so many bytes from a place on, and the place after it
unfoldable pub span_at : List ℕ → ℕ → ℕ → Result (WireValue × ℕ) WireFault
span_at bytes start count = if nat_lt (length bytes - start) count then Err (Truncated (length bytes)) else Ok (Span start (start + count), start + count)

-- the value of a wire type at a place, and the place after it
unfoldable pub value_at : List ℕ → ℕ → WireType → Result (WireValue × ℕ) WireFault
value_at bytes at Base128 = varint_at bytes at >>= λ number. Ok (Varint number.0, number.1)
value_at bytes at Fixed64 =
    if nat_lt (length bytes - at) 8 then Err (Truncated (length bytes)) else Ok (Eight (from_le_bytes w64 (take 8 (drop at bytes))), at + 8)
value_at bytes at Delimited = varint_at bytes at >>= λ size. span_at bytes size.1 size.0
value_at bytes at Fixed32 =
    if nat_lt (length bytes - at) 4 then Err (Truncated (length bytes)) else Ok (Four (from_le_bytes w32 (take 4 (drop at bytes))), at + 4)

-- the record of a number whose tag stands at a place, with a value and the place after it
abbrev pub with_value : ℕ → ℕ → WireValue × ℕ → Result (WireField × ℕ) WireFault
with_value at number found = Ok (record { number = number; at = at; value = found.0 }, found.1)

-- the record at a place, and the place after it
unfoldable pub field_at : List ℕ → ℕ → Result (WireField × ℕ) WireFault
field_at bytes at =
    varint_at bytes at >>= λ tag. tag_of at tag.0 >>= λ typed. value_at bytes tag.1 typed.1 >>= with_value at typed.0
