-- What bytes that are no message begin their first faulty record with (Protocol Buffers, Encoding).
use Rattle.std.specs.Prelude.{◌≡◌, ℕ, ◌+◌, ◌/◌, ◌%◌, ◌<◌, ◌≤◌, ◌⊎◌, List, [], ◌∷◌, ◌++◌, length, Result, Ok, Err}
use Rattle.proto_wire.specs.declared.fault.WireFault.{WireFault}
use Rattle.proto_wire.specs.declared.fault.WireFault.TheVariants.{Truncated, VarintTooLong, BadTag, OutOfMemory}
use Rattle.proto_wire.specs.declared.field.WireField.{WireField}
use Rattle.proto_wire.specs.declared.wire_type.WireType.{WireType}
use Rattle.proto_wire.specs.declared.wire_type.WireType.TheVariants.{Base128, Fixed64, Delimited, Fixed32}
use Rattle.proto_wire.specs.Varint.{IsVarint}
use Rattle.proto_wire.specs.Records.{IsTag, Records}

-- each byte says by its high bit that more follow
abbrev pub AllContinue : List ℕ → Type 0
AllContinue [] = Unit {0}
AllContinue (b ∷ bs) = (128 ≤ b) × (b < 256) × AllContinue bs

-- a varint at the front whose tenth byte says that more follow
pub record StartsTooLong (bytes : List ℕ) : Type 0 where
  pub groups : List ℕ
  pub rest : List ℕ
  pub whole : bytes ≡ groups ++ rest
  pub continued : AllContinue groups
  pub ten : length groups ≡ 10

-- the bytes end before the last byte of a varint that stands at the front
pub record EndsInVarint (bytes : List ℕ) : Type 0 where
  pub continued : AllContinue bytes
  pub short : length bytes < 10

-- a length at the front is more than the bytes after it
pub record EndsInPayload (bytes : List ℕ) : Type 0 where
  pub size : List ℕ
  pub rest : List ℕ
  pub count : ℕ
  pub whole : bytes ≡ size ++ rest
  pub size_is : IsVarint size count
  pub short : length rest < count

-- the bytes end inside a value of this wire type that stands at the front
abbrev pub EndsInValue : WireType → List ℕ → Type 0
EndsInValue Base128 bytes = EndsInVarint bytes
EndsInValue Fixed64 bytes = length bytes < 8
EndsInValue Delimited bytes = EndsInVarint bytes ⊎ EndsInPayload bytes
EndsInValue Fixed32 bytes = length bytes < 4

-- a value of this wire type begins with a varint, and it is too long
abbrev pub ValueTooLong : WireType → List ℕ → Type 0
ValueTooLong Base128 bytes = StartsTooLong bytes
ValueTooLong Fixed64 bytes = ⊥
ValueTooLong Delimited bytes = StartsTooLong bytes
ValueTooLong Fixed32 bytes = ⊥

-- wire types 3 and 4, of groups, and 6 and 7, which don't exist ("Message Structure")
abbrev pub IsNoType : ℕ → Type 0
IsNoType n = (n ≡ 3) ⊎ (n ≡ 4) ⊎ (n ≡ 6) ⊎ (n ≡ 7)

-- a varint at the front that is no tag: its field number is 0 or above 2^29 - 1, or its wire type is none of 0, 1, 2 and 5
pub record StartsWithBadTag (bytes : List ℕ) : Type 0 where
  pub tag : List ℕ
  pub rest : List ℕ
  pub number : ℕ
  pub whole : bytes ≡ tag ++ rest
  pub tag_is : IsVarint tag number
  pub bad : (number / 8 ≡ 0) ⊎ (536870911 < number / 8) ⊎ IsNoType (number % 8)

-- a whole tag at the front, and something wrong with the value of its wire type after it
pub record TagThen (wrong : WireType → List ℕ → Type 0) (bytes tag : List ℕ) : Type 0 where
  pub rest : List ℕ
  pub number : ℕ
  pub kind : WireType
  pub whole : bytes ≡ tag ++ rest
  pub is_tag : IsTag tag number kind
  pub wrong_is : wrong kind rest

-- the fault of bytes whose first byte stands at this place, where a record should begin
abbrev pub FaultAt : ℕ → List ℕ → WireFault → Type 0
FaultAt at bytes (BadTag place) = (place ≡ at) × StartsWithBadTag bytes
FaultAt at bytes (VarintTooLong place) =
    ((place ≡ at) × StartsTooLong bytes) ⊎ ((tag : List ℕ) × (place ≡ at + length tag) × TagThen ValueTooLong bytes tag)
FaultAt at bytes (Truncated place) =
    (place ≡ at + length bytes) × (((0 < length bytes) × EndsInVarint bytes) ⊎ ((tag : List ℕ) × TagThen EndsInValue bytes tag))
FaultAt at bytes OutOfMemory = ⊥

-- bytes that are no message: records, and then a rest that begins with the fault
pub record WireFaulty (bytes : List ℕ) (fault : WireFault) : Type 0 where
  pub fields : List WireField
  pub before : List ℕ
  pub rest : List ℕ
  pub whole : bytes ≡ before ++ rest
  pub records : Records before fields
  pub fault_at : FaultAt (length before) rest fault

-- the bytes have this fault, unless it is that memory ran out
abbrev pub IsCaused : List ℕ → WireFault → Type 0
IsCaused bytes (Truncated place) = WireFaulty bytes (Truncated place)
IsCaused bytes (VarintTooLong place) = WireFaulty bytes (VarintTooLong place)
IsCaused bytes (BadTag place) = WireFaulty bytes (BadTag place)
IsCaused bytes OutOfMemory = Unit {0}

-- the call gives this answer, unless memory ran out
abbrev pub Gives : {A : Type 0} → Result A WireFault → Result A WireFault → Type 0
Gives (Ok found) expected = expected ≡ Ok found
Gives (Err (Truncated place)) expected = expected ≡ Err (Truncated place)
Gives (Err (VarintTooLong place)) expected = expected ≡ Err (VarintTooLong place)
Gives (Err (BadTag place)) expected = expected ≡ Err (BadTag place)
Gives (Err OutOfMemory) expected = Unit {0}
