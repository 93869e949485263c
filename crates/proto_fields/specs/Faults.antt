-- Which messages are sound, and the first fault of one that isn't, with its place. A place counts bytes from the outermost message's first.
use Rattle.std.specs.Prelude.{◌≡◌, ℕ, zero, suc, ◌+◌, ◌≤◌, ◌⊎◌, if◌then◌else◌, List, [], ◌∷◌, ◌++◌, slice_range, IsUtf8, Result, Ok, Err, Option, Some, None}
use Rattle.std.specs.Option.{option_or}
use Rattle.std.specs.List.{AllByRecursion}
use Rattle.std.specs.Str.{is_utf8}
use Rattle.proto_wire.specs.declared.fault.WireFault.{WireFault}
use Rattle.proto_wire.specs.declared.fault.WireFault.TheVariants as broken
use Rattle.proto_wire.specs.declared.field.WireValue.{WireValue}
use Rattle.proto_wire.specs.declared.field.WireValue.TheVariants as wire
use Rattle.proto_wire.specs.declared.field.WireField.{WireField}
use Rattle.proto_wire.specs.Records.{Records}
use Rattle.proto_wire.specs.Faults.{WireFaulty}
use Rattle.proto_fields.specs.declared.fault.MessageFault.{MessageFault}
use Rattle.proto_fields.specs.declared.fault.MessageFault.TheVariants.{Wire, NotUtf8, TooDeep, OutOfMemory}
use Rattle.proto_fields.specs.declared.kind.MessageKind.{MessageKind}
use Rattle.proto_fields.specs.declared.kind.PayloadKind.{PayloadKind}
use Rattle.proto_fields.specs.declared.kind.PayloadKind.TheVariants.{Message, Text, Other}
use Rattle.proto_fields.specs.Fields.{records_in, field_in, Content, Number, Eight, Payload, Four, Field}
use Rattle.proto_fields.specs.Kinds.{payload_of}

-- ---- in the words of the standard

-- a payload that holds what its kind says: a text is UTF-8, a message is sound
abbrev pub IsSoundPayload : (MessageKind → List ℕ → Type 0) → PayloadKind → List ℕ → Type 0
IsSoundPayload IsSoundInner (Message kind) payload = IsSoundInner kind payload
IsSoundPayload IsSoundInner Text payload = IsUtf8 payload
IsSoundPayload IsSoundInner Other payload = Unit {0}

-- a field whose payload, where it has one, is sound
abbrev pub IsSoundContent : (MessageKind → List ℕ → Type 0) → PayloadKind → Content → Type 0
IsSoundContent IsSoundInner kind (Number value) = Unit {0}
IsSoundContent IsSoundInner kind (Eight value) = Unit {0}
IsSoundContent IsSoundInner kind (Payload payload) = IsSoundPayload IsSoundInner kind payload
IsSoundContent IsSoundInner kind (Four value) = Unit {0}

abbrev pub IsSoundField : (MessageKind → List ℕ → Type 0) → MessageKind → Field → Type 0
IsSoundField IsSoundInner kind field = IsSoundContent IsSoundInner (payload_of kind field.number) field.content

-- a record of these bytes whose payload, where it has one, is sound
abbrev pub IsSoundRecord : (MessageKind → List ℕ → Type 0) → MessageKind → List ℕ → WireField → Type 0
IsSoundRecord IsSoundInner kind bytes field = IsSoundField IsSoundInner kind (field_in bytes field)

-- the bytes are a message of this kind, with so many levels of nesting at most, its own among them: they are records, every text in it is
-- UTF-8, and every message in it is sound with one level less
unfoldable pub IsSound : ℕ → MessageKind → List ℕ → Type 0
IsSound zero kind bytes = ⊥
IsSound (suc levels) kind bytes =
    (fields : List WireField) × Records bytes fields × AllByRecursion (IsSoundRecord (IsSound levels) kind bytes) fields

-- a fault of the records of a message whose first byte stands at this place
abbrev pub placed : ℕ → WireFault → WireFault
placed base (broken.Truncated at) = broken.Truncated (base + at)
placed base (broken.VarintTooLong at) = broken.VarintTooLong (base + at)
placed base (broken.BadTag at) = broken.BadTag (base + at)
placed base broken.OutOfMemory = broken.OutOfMemory

-- the bytes aren't records, by this fault
pub record IsBroken (base : ℕ) (bytes : List ℕ) (fault : MessageFault) : Type 0 where
  pub wire : WireFault
  pub faulty : WireFaulty bytes wire
  pub fault_is : fault ≡ Wire (placed base wire)

-- a payload whose first byte stands at this place has this fault
abbrev pub HasPayloadFault : (MessageKind → ℕ → List ℕ → MessageFault → Type 0) → PayloadKind → ℕ → List ℕ → MessageFault → Type 0
HasPayloadFault HasInner (Message kind) place payload fault = HasInner kind place payload fault
HasPayloadFault HasInner Text place payload fault = (¬ IsUtf8 payload) × (fault ≡ NotUtf8 place)
HasPayloadFault HasInner Other place payload fault = ⊥

-- the bytes are records; those before one have sound payloads, and the payload of that one has this fault
pub record HasInnerFault (IsSoundInner : MessageKind → List ℕ → Type 0) (HasInner : MessageKind → ℕ → List ℕ → MessageFault → Type 0)
    (kind : MessageKind) (base : ℕ) (bytes : List ℕ) (fault : MessageFault) : Type 0 where
  pub before : List WireField
  pub field : WireField
  pub after : List WireField
  pub start : ℕ
  pub stop : ℕ
  pub records : Records bytes (before ++ field ∷ after)
  pub sound : AllByRecursion (IsSoundRecord IsSoundInner kind bytes) before
  pub value_is : field.value ≡ wire.Span start stop
  pub inner : HasPayloadFault HasInner (payload_of kind field.number) (base + start) (slice_range bytes start stop) fault

-- a message of this kind whose first byte stands at this place has this fault: no level of nesting is left for it, its bytes aren't records,
-- or a payload in it has the fault
unfoldable pub HasFault : ℕ → MessageKind → ℕ → List ℕ → MessageFault → Type 0
HasFault zero kind base bytes fault = fault ≡ TooDeep base
HasFault (suc levels) kind base bytes fault =
    IsBroken base bytes fault ⊎ HasInnerFault (IsSound levels) (HasFault levels) kind base bytes fault

-- ---- as a function

-- the first fault of a payload whose first byte stands at this place
abbrev pub payload_fault : (MessageKind → ℕ → List ℕ → Option MessageFault) → PayloadKind → ℕ → List ℕ → Option MessageFault
payload_fault inner (Message kind) place payload = inner kind place payload
payload_fault inner Text place payload = if is_utf8 payload then None else Some (NotUtf8 place)
payload_fault inner Other place payload = None

-- the first fault in a value of a message
abbrev pub value_fault : (MessageKind → ℕ → List ℕ → Option MessageFault) → ℕ → List ℕ → PayloadKind → WireValue → Option MessageFault
value_fault inner base bytes kind (wire.Varint value) = None
value_fault inner base bytes kind (wire.Eight value) = None
value_fault inner base bytes kind (wire.Span start stop) = payload_fault inner kind (base + start) (slice_range bytes start stop)
value_fault inner base bytes kind (wire.Four value) = None

-- the first fault in the values of records of a message
unfoldable pub fault_among : (MessageKind → ℕ → List ℕ → Option MessageFault) → MessageKind → ℕ → List ℕ → List WireField → Option MessageFault
fault_among inner kind base bytes [] = None
fault_among inner kind base bytes (field ∷ fields) =
    option_or (value_fault inner base bytes (payload_of kind field.number) field.value) (fault_among inner kind base bytes fields)

-- the first fault of a message whose bytes are these records or have this fault
abbrev pub records_fault : (MessageKind → ℕ → List ℕ → Option MessageFault) → MessageKind → ℕ → List ℕ → Result (List WireField) WireFault → Option MessageFault
records_fault inner kind base bytes (Ok fields) = fault_among inner kind base bytes fields
records_fault inner kind base bytes (Err fault) = Some (Wire (placed base fault))

-- the first fault of a message of this kind whose first byte stands at this place, with so many levels of nesting at most, its own among them
unfoldable pub first_fault : ℕ → MessageKind → ℕ → List ℕ → Option MessageFault
first_fault zero kind base bytes = Some (TooDeep base)
first_fault (suc levels) kind base bytes = records_fault (first_fault levels) kind base bytes (records_in bytes)

-- ---- what a call answers

-- the fault's place is at most this
abbrev pub PlaceWithin : ℕ → WireFault → Type 0
PlaceWithin count (broken.Truncated at) = at ≤ count
PlaceWithin count (broken.VarintTooLong at) = at ≤ count
PlaceWithin count (broken.BadTag at) = at ≤ count
PlaceWithin count broken.OutOfMemory = Unit {0}

-- the fault is the message's, unless it is that memory ran out
abbrev pub IsCause : ℕ → MessageKind → List ℕ → MessageFault → Type 0
IsCause levels kind bytes (Wire fault) = HasFault levels kind 0 bytes (Wire fault)
IsCause levels kind bytes (NotUtf8 at) = HasFault levels kind 0 bytes (NotUtf8 at)
IsCause levels kind bytes (TooDeep at) = HasFault levels kind 0 bytes (TooDeep at)
IsCause levels kind bytes OutOfMemory = Unit {0}

-- the call gives this answer, unless memory ran out
abbrev pub Gives : {A : Type 0} → Result A MessageFault → Result A MessageFault → Type 0
Gives (Ok found) expected = expected ≡ Ok found
Gives (Err (Wire fault)) expected = expected ≡ Err (Wire fault)
Gives (Err (NotUtf8 at)) expected = expected ≡ Err (NotUtf8 at)
Gives (Err (TooDeep at)) expected = expected ≡ Err (TooDeep at)
Gives (Err OutOfMemory) expected = Unit {0}

-- the call tells whether there is this first fault, unless memory ran out
abbrev pub Tells : {A : Type 0} → Result A MessageFault → Option MessageFault → Type 0
Tells (Ok found) expected = expected ≡ None
Tells (Err (Wire fault)) expected = expected ≡ Some (Wire fault)
Tells (Err (NotUtf8 at)) expected = expected ≡ Some (NotUtf8 at)
Tells (Err (TooDeep at)) expected = expected ≡ Some (TooDeep at)
Tells (Err OutOfMemory) expected = Unit {0}
