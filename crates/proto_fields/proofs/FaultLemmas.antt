-- A message has a first fault exactly where it isn't sound, and that fault is one that it has.
use Rattle.std.proofs.Common.{◌≡◌, ℕ, zero, suc, ◌+◌, ◌-◌, ◌<◌, ◌≤◌, ◌⊎◌, inl, inr, Bool, true, false, cond, List, [], ◌∷◌, ◌++◌, length, get_or, take, drop, is_some, Option, None, Some, Result, Ok, Err, refl, sym, ap, ◌∙◌, subst, arith}
use Rattle.std.specs.Prelude.{slice_range}
use Rattle.std.specs.Option.{option_or}
use Rattle.std.specs.List.{AllByRecursion}
use Rattle.std.specs.Str.{is_utf8}
use Rattle.std.proofs.lemmas.List.{take-append-drop, at_drop_more, at_drop_all}
use Rattle.std.proofs.lemmas.Str.{IsUtf8-from_is_utf8, is_utf8-from_IsUtf8}
use Rattle.proto_wire.specs.declared.fault.WireFault.{WireFault}
use Rattle.proto_wire.specs.declared.field.WireValue.{WireValue}
use Rattle.proto_wire.specs.declared.field.WireValue.TheVariants as wire
use Rattle.proto_wire.specs.declared.field.WireField.{WireField}
use Rattle.proto_wire.specs.Varint.{IsBytes}
use Rattle.proto_wire.specs.Records.{Records}
use Rattle.proto_wire.proofs.Fronts.{IsBytes-rest, IsBytes-take}
use Rattle.proto_fields.specs.declared.fault.MessageFault.{MessageFault}
use Rattle.proto_fields.specs.declared.fault.MessageFault.TheVariants.{Wire, NotUtf8, TooDeep, OutOfMemory}
use Rattle.proto_fields.specs.declared.kind.MessageKind.{MessageKind}
use Rattle.proto_fields.specs.declared.kind.PayloadKind.{PayloadKind}
use Rattle.proto_fields.specs.declared.kind.PayloadKind.TheVariants.{Message, Text, Other}
use Rattle.proto_fields.specs.Fields.{content_in, records_in}
use Rattle.proto_fields.specs.Kinds.{payload_of}
use Rattle.proto_fields.specs.Faults.{IsSoundPayload, IsSoundContent, IsSoundRecord, IsSound, HasPayloadFault, HasFault, payload_fault, value_fault, fault_among, records_fault, first_fault, IsCause, Gives, Tells}
use Rattle.proto_fields.proofs.RecordsIn.{records_in-Records, records_in-WireFaulty, Records-from_records_in, WireFaulty-from_records_in}
use Rattle.proto_fields.proofs.TextLemmas.{is_utf8-false, not_utf8}

-- ---- small steps

-- where a level is left, the records decide
pub first_fault-level : (levels : ℕ) (kind : MessageKind) (base : ℕ) (bytes : List ℕ) → 0 < levels →
    first_fault levels kind base bytes ≡ records_fault (first_fault (levels - 1)) kind base bytes (records_in bytes)
unfolding first_fault
first_fault-level zero kind base bytes some = absurd (omega arith)
first_fault-level (suc levels) kind base bytes some =
    let e : suc levels - 1 ≡ levels = omega arith in rw e refl

IsBytes-slice : (bytes : List ℕ) (start stop : ℕ) → IsBytes bytes → IsBytes (slice_range bytes start stop)
IsBytes-slice bytes start stop fits =
    IsBytes-take (stop - start) (drop start bytes) (IsBytes-rest (take start bytes) (drop start bytes) (subst IsBytes (sym (take-append-drop start bytes)) fits))

option_or-none : (first second : Option MessageFault) → option_or first second ≡ None → (first ≡ None) × (second ≡ None)
option_or-none None second e = (refl, e)
option_or-none (Some fault) second e = absurd cc

option_or-some : (first second : Option MessageFault) (fault : MessageFault) → option_or first second ≡ Some fault → (first ≡ Some fault) ⊎ ((first ≡ None) × (second ≡ Some fault))
option_or-some None second fault e = inr (refl, e)
option_or-some (Some other) second fault e = inl e

text_none : (test : Bool) (fault : MessageFault) → cond test None (Some fault) ≡ None → test ≡ true
text_none true fault e = refl
text_none false fault e = absurd cc

text_some : (test : Bool) (fault other : MessageFault) → cond test None (Some fault) ≡ Some other → (test ≡ false) × (other ≡ fault)
text_some true fault other e = absurd cc
text_some false fault other e = (refl, cc)

-- ---- no fault: sound

abbrev SoundAt : ℕ → Type 0
SoundAt levels = (kind : MessageKind) (base : ℕ) (bytes : List ℕ) → IsBytes bytes → first_fault levels kind base bytes ≡ None → IsSound levels kind bytes

sound_payload : (levels : ℕ) → SoundAt levels → (kind : PayloadKind) (place : ℕ) (payload : List ℕ) → IsBytes payload → payload_fault (first_fault levels) kind place payload ≡ None → IsSoundPayload (IsSound levels) kind payload
sound_payload levels deeper (Message kind) place payload fits e = deeper kind place payload fits e
sound_payload levels deeper Text place payload fits e = IsUtf8-from_is_utf8 payload (text_none (is_utf8 payload) (NotUtf8 place) e)
sound_payload levels deeper Other place payload fits e = tt

sound_value : (levels : ℕ) → SoundAt levels → (kind : PayloadKind) (base : ℕ) (bytes : List ℕ) (value : WireValue) → IsBytes bytes → value_fault (first_fault levels) base bytes kind value ≡ None → IsSoundContent (IsSound levels) kind (content_in bytes value)
sound_value levels deeper kind base bytes (wire.Varint value) fits e = tt
sound_value levels deeper kind base bytes (wire.Eight value) fits e = tt
sound_value levels deeper kind base bytes (wire.Span start stop) fits e = sound_payload levels deeper kind (base + start) (slice_range bytes start stop) (IsBytes-slice bytes start stop fits) e
sound_value levels deeper kind base bytes (wire.Four value) fits e = tt

sound_records : (levels : ℕ) → SoundAt levels → (kind : MessageKind) (base : ℕ) (bytes : List ℕ) (fields : List WireField) → IsBytes bytes → fault_among (first_fault levels) kind base bytes fields ≡ None → AllByRecursion (IsSoundRecord (IsSound levels) kind bytes) fields
unfolding fault_among
sound_records levels deeper kind base bytes [] fits e = tt
sound_records levels deeper kind base bytes (field ∷ fields) fits e =
    let parts = option_or-none (value_fault (first_fault levels) base bytes (payload_of kind field.number) field.value) (fault_among (first_fault levels) kind base bytes fields) e in
    (sound_value levels deeper (payload_of kind field.number) base bytes field.value fits parts.0, sound_records levels deeper kind base bytes fields fits parts.1)

sound_read : (levels : ℕ) → SoundAt levels → (kind : MessageKind) (base : ℕ) (bytes : List ℕ) (read : Result (List WireField) WireFault) → records_in bytes ≡ read → IsBytes bytes → records_fault (first_fault levels) kind base bytes read ≡ None → IsSound (suc levels) kind bytes
unfolding IsSound
sound_read levels deeper kind base bytes (Ok fields) is fits e = (fields, Records-from_records_in bytes fields fits is, sound_records levels deeper kind base bytes fields fits e)
sound_read levels deeper kind base bytes (Err fault) is fits e = absurd cc

-- a message without a first fault is sound
pub sound_from_none : (levels : ℕ) → SoundAt levels
unfolding first_fault
sound_from_none zero kind base bytes fits e = absurd cc
sound_from_none (suc levels) kind base bytes fits e = sound_read levels (sound_from_none levels) kind base bytes (records_in bytes) refl fits e

-- ---- sound: no fault

abbrev NoneAt : ℕ → Type 0
NoneAt levels = (kind : MessageKind) (base : ℕ) (bytes : List ℕ) → IsSound levels kind bytes → first_fault levels kind base bytes ≡ None

none_payload : (levels : ℕ) → NoneAt levels → (kind : PayloadKind) (place : ℕ) (payload : List ℕ) → IsSoundPayload (IsSound levels) kind payload → payload_fault (first_fault levels) kind place payload ≡ None
none_payload levels deeper (Message kind) place payload sound = deeper kind place payload sound
none_payload levels deeper Text place payload sound = rw (is_utf8-from_IsUtf8 payload sound) refl
none_payload levels deeper Other place payload sound = refl

none_value : (levels : ℕ) → NoneAt levels → (kind : PayloadKind) (base : ℕ) (bytes : List ℕ) (value : WireValue) → IsSoundContent (IsSound levels) kind (content_in bytes value) → value_fault (first_fault levels) base bytes kind value ≡ None
none_value levels deeper kind base bytes (wire.Varint value) sound = refl
none_value levels deeper kind base bytes (wire.Eight value) sound = refl
none_value levels deeper kind base bytes (wire.Span start stop) sound = none_payload levels deeper kind (base + start) (slice_range bytes start stop) sound
none_value levels deeper kind base bytes (wire.Four value) sound = refl

none_records : (levels : ℕ) → NoneAt levels → (kind : MessageKind) (base : ℕ) (bytes : List ℕ) (fields : List WireField) → AllByRecursion (IsSoundRecord (IsSound levels) kind bytes) fields → fault_among (first_fault levels) kind base bytes fields ≡ None
unfolding fault_among
none_records levels deeper kind base bytes [] sound = refl
none_records levels deeper kind base bytes (field ∷ fields) sound =
    rw (none_value levels deeper (payload_of kind field.number) base bytes field.value sound.0) (none_records levels deeper kind base bytes fields sound.1)

-- a sound message has no first fault
pub none_from_sound : (levels : ℕ) → NoneAt levels
unfolding first_fault IsSound
none_from_sound zero kind base bytes sound = absurd sound
none_from_sound (suc levels) kind base bytes sound =
    rw (records_in-Records bytes sound.0 sound.1) (none_records levels (none_from_sound levels) kind base bytes sound.0 sound.2)

-- ---- a first fault is one that the message has

abbrev FaultAtLevel : ℕ → Type 0
FaultAtLevel levels = (kind : MessageKind) (base : ℕ) (bytes : List ℕ) (fault : MessageFault) → IsBytes bytes → first_fault levels kind base bytes ≡ Some fault → HasFault levels kind base bytes fault

fault_payload : (levels : ℕ) → FaultAtLevel levels → (kind : PayloadKind) (place : ℕ) (payload : List ℕ) (fault : MessageFault) → IsBytes payload → payload_fault (first_fault levels) kind place payload ≡ Some fault → HasPayloadFault (HasFault levels) kind place payload fault
fault_payload levels deeper (Message kind) place payload fault fits e = deeper kind place payload fault fits e
fault_payload levels deeper Text place payload fault fits e =
    let parts = text_some (is_utf8 payload) (NotUtf8 place) fault e in (not_utf8 payload parts.0, parts.1)
fault_payload levels deeper Other place payload fault fits e = absurd cc

-- a record whose payload has the fault, after records with sound payloads
record AmongThem (levels : ℕ) (kind : MessageKind) (base : ℕ) (bytes : List ℕ) (fields : List WireField) (fault : MessageFault) : Type 0 where
  before : List WireField
  field : WireField
  after : List WireField
  start : ℕ
  stop : ℕ
  fields_are : fields ≡ before ++ field ∷ after
  sound : AllByRecursion (IsSoundRecord (IsSound levels) kind bytes) before
  value_is : field.value ≡ wire.Span start stop
  inner : HasPayloadFault (HasFault levels) (payload_of kind field.number) (base + start) (slice_range bytes start stop) fault

-- the value has the fault in its payload
record InSpan (levels : ℕ) (kind : PayloadKind) (base : ℕ) (bytes : List ℕ) (value : WireValue) (fault : MessageFault) : Type 0 where
  start : ℕ
  stop : ℕ
  value_is : value ≡ wire.Span start stop
  inner : HasPayloadFault (HasFault levels) kind (base + start) (slice_range bytes start stop) fault

fault_value : (levels : ℕ) → FaultAtLevel levels → (kind : PayloadKind) (base : ℕ) (bytes : List ℕ) (value : WireValue) (fault : MessageFault) → IsBytes bytes → value_fault (first_fault levels) base bytes kind value ≡ Some fault → InSpan levels kind base bytes value fault
fault_value levels deeper kind base bytes (wire.Varint value) fault fits e = absurd cc
fault_value levels deeper kind base bytes (wire.Eight value) fault fits e = absurd cc
fault_value levels deeper kind base bytes (wire.Span start stop) fault fits e =
    record { start = start; stop = stop; value_is = refl; inner = fault_payload levels deeper kind (base + start) (slice_range bytes start stop) fault (IsBytes-slice bytes start stop fits) e }
fault_value levels deeper kind base bytes (wire.Four value) fault fits e = absurd cc

later_one : (levels : ℕ) (kind : MessageKind) (base : ℕ) (bytes : List ℕ) (field : WireField) (fields : List WireField) (fault : MessageFault) → IsSoundRecord (IsSound levels) kind bytes field → AmongThem levels kind base bytes fields fault → AmongThem levels kind base bytes (field ∷ fields) fault
later_one levels kind base bytes field fields fault sound found =
    record {
      before = field ∷ found.before;
      field = found.field;
      after = found.after;
      start = found.start;
      stop = found.stop;
      fields_are = ap (λ (fs : List WireField). field ∷ fs) found.fields_are;
      sound = (sound, found.sound);
      value_is = found.value_is;
      inner = found.inner;
    }

fault_records : (levels : ℕ) → FaultAtLevel levels → (kind : MessageKind) (base : ℕ) (bytes : List ℕ) (fields : List WireField) (fault : MessageFault) → IsBytes bytes → fault_among (first_fault levels) kind base bytes fields ≡ Some fault → AmongThem levels kind base bytes fields fault
unfolding fault_among
fault_records levels deeper kind base bytes [] fault fits e = absurd cc
fault_records levels deeper kind base bytes (field ∷ fields) fault fits e =
    elim (option_or-some (value_fault (first_fault levels) base bytes (payload_of kind field.number) field.value) (fault_among (first_fault levels) kind base bytes fields) fault e) [
      | inl here ↦
          let span = fault_value levels deeper (payload_of kind field.number) base bytes field.value fault fits here in
          record { before = []; field = field; after = fields; start = span.start; stop = span.stop; fields_are = refl; sound = tt; value_is = span.value_is; inner = span.inner }
      | inr later ↦
          later_one levels kind base bytes field fields fault
          (sound_value levels (sound_from_none levels) (payload_of kind field.number) base bytes field.value fits later.0)
          (fault_records levels deeper kind base bytes fields fault fits later.1)
    ]

fault_read : (levels : ℕ) → FaultAtLevel levels → (kind : MessageKind) (base : ℕ) (bytes : List ℕ) (read : Result (List WireField) WireFault) (fault : MessageFault) → records_in bytes ≡ read → IsBytes bytes → records_fault (first_fault levels) kind base bytes read ≡ Some fault → HasFault (suc levels) kind base bytes fault
unfolding HasFault
fault_read levels deeper kind base bytes (Ok fields) fault is fits e =
    let found = fault_records levels deeper kind base bytes fields fault fits e in
    let records : Records bytes (found.before ++ found.field ∷ found.after) = subst (Records bytes) found.fields_are (Records-from_records_in bytes fields fits is) in
    inr (record { before = found.before; field = found.field; after = found.after; start = found.start; stop = found.stop; records = records; sound = found.sound; value_is = found.value_is; inner = found.inner })
fault_read levels deeper kind base bytes (Err broken) fault is fits e =
    inl (record { wire = broken; faulty = WireFaulty-from_records_in bytes broken fits is; fault_is = cc })

-- the first fault of a message is one that it has
pub fault_from_some : (levels : ℕ) → FaultAtLevel levels
unfolding first_fault HasFault
fault_from_some zero kind base bytes fault fits e = cc
fault_from_some (suc levels) kind base bytes fault fits e = fault_read levels (fault_from_some levels) kind base bytes (records_in bytes) fault refl fits e

-- ---- a fault that the message has is the first

abbrev SomeAt : ℕ → Type 0
SomeAt levels = (kind : MessageKind) (base : ℕ) (bytes : List ℕ) (fault : MessageFault) → HasFault levels kind base bytes fault → first_fault levels kind base bytes ≡ Some fault

some_payload : (levels : ℕ) → SomeAt levels → (kind : PayloadKind) (place : ℕ) (payload : List ℕ) (fault : MessageFault) → HasPayloadFault (HasFault levels) kind place payload fault → payload_fault (first_fault levels) kind place payload ≡ Some fault
some_payload levels deeper (Message kind) place payload fault has = deeper kind place payload fault has
some_payload levels deeper Text place payload fault has = rw (is_utf8-false payload has.0) (ap (λ (f : MessageFault). Some f) (sym has.1))
some_payload levels deeper Other place payload fault has = absurd has

some_records : (levels : ℕ) → SomeAt levels → (kind : MessageKind) (base : ℕ) (bytes : List ℕ) (before after : List WireField) (field : WireField) (start stop : ℕ) (fault : MessageFault) → AllByRecursion (IsSoundRecord (IsSound levels) kind bytes) before → field.value ≡ wire.Span start stop → HasPayloadFault (HasFault levels) (payload_of kind field.number) (base + start) (slice_range bytes start stop) fault → fault_among (first_fault levels) kind base bytes (before ++ field ∷ after) ≡ Some fault
unfolding fault_among
some_records levels deeper kind base bytes [] after field start stop fault sound value_is has =
    let here : value_fault (first_fault levels) base bytes (payload_of kind field.number) field.value ≡ Some fault = rw value_is (some_payload levels deeper (payload_of kind field.number) (base + start) (slice_range bytes start stop) fault has) in
    rw here refl
some_records levels deeper kind base bytes (first ∷ before) after field start stop fault sound value_is has =
    rw (none_value levels (none_from_sound levels) (payload_of kind first.number) base bytes first.value sound.0) (some_records levels deeper kind base bytes before after field start stop fault sound.1 value_is has)

-- a fault that a message has is its first
pub some_from_fault : (levels : ℕ) → SomeAt levels
unfolding first_fault HasFault
some_from_fault zero kind base bytes fault has = ap (λ (f : MessageFault). Some f) (sym has)
some_from_fault (suc levels) kind base bytes fault (inl has) =
    rw (records_in-WireFaulty bytes has.wire has.faulty) (ap (λ (f : MessageFault). Some f) (sym has.fault_is))
some_from_fault (suc levels) kind base bytes fault (inr has) =
    rw (records_in-Records bytes (has.before ++ has.field ∷ has.after) has.records)
    (some_records levels (some_from_fault levels) kind base bytes has.before has.after has.field has.start has.stop fault has.sound has.value_is has.inner)

-- ---- what a call answers

pub IsCause-from_fault : (levels : ℕ) (kind : MessageKind) (bytes : List ℕ) (fault : MessageFault) → HasFault levels kind 0 bytes fault → IsCause levels kind bytes fault
IsCause-from_fault levels kind bytes (Wire fault) has = has
IsCause-from_fault levels kind bytes (NotUtf8 at) has = has
IsCause-from_fault levels kind bytes (TooDeep at) has = has
IsCause-from_fault levels kind bytes OutOfMemory has = tt

pub Gives-same : {A : Type 0} (fault : MessageFault) (expected : Result A MessageFault) → expected ≡ Err fault → Gives (Err fault) expected
Gives-same (Wire fault) expected e = e
Gives-same (NotUtf8 at) expected e = e
Gives-same (TooDeep at) expected e = e
Gives-same OutOfMemory expected e = tt

pub Tells-same : (A : Type 0) (fault : MessageFault) (expected : Option MessageFault) → expected ≡ Some fault → Tells {A = A} (Err fault) expected
Tells-same A (Wire fault) expected e = e
Tells-same A (NotUtf8 at) expected e = e
Tells-same A (TooDeep at) expected e = e
Tells-same A OutOfMemory expected e = tt

-- ---- the loop over the records

-- the first record of those that are left has the fault
pub fault_among-here : (inner : MessageKind → ℕ → List ℕ → Option MessageFault) (kind : MessageKind) (base : ℕ) (bytes : List ℕ) (fields : List WireField) (i : ℕ) (d : WireField) (found : Option MessageFault) → i < length fields →
    found ≡ value_fault inner base bytes (payload_of kind (get_or fields i d).number) (get_or fields i d).value → is_some found ≡ true → fault_among inner kind base bytes (drop i fields) ≡ found
unfolding fault_among
fault_among-here inner kind base bytes fields i d None room is some = absurd cc
fault_among-here inner kind base bytes fields i d (Some fault) room is some =
    at_drop_more (fault_among inner kind base bytes) fields i d room ∙ rw (← is) refl

-- the first record of those that are left has none
pub fault_among-next : (inner : MessageKind → ℕ → List ℕ → Option MessageFault) (kind : MessageKind) (base : ℕ) (bytes : List ℕ) (fields : List WireField) (i : ℕ) (d : WireField) (found : Option MessageFault) → i < length fields →
    found ≡ value_fault inner base bytes (payload_of kind (get_or fields i d).number) (get_or fields i d).value → is_some found ≡ false → fault_among inner kind base bytes (drop i fields) ≡ fault_among inner kind base bytes (drop (i + 1) fields)
unfolding fault_among
fault_among-next inner kind base bytes fields i d None room is none =
    at_drop_more (fault_among inner kind base bytes) fields i d room ∙ rw (← is) refl
fault_among-next inner kind base bytes fields i d (Some fault) room is none = absurd cc

-- none of no records
pub fault_among-end : (inner : MessageKind → ℕ → List ℕ → Option MessageFault) (kind : MessageKind) (base : ℕ) (bytes : List ℕ) (fields : List WireField) (i : ℕ) → length fields ≤ i → fault_among inner kind base bytes (drop i fields) ≡ None
unfolding fault_among
fault_among-end inner kind base bytes fields i past = at_drop_all (fault_among inner kind base bytes) fields i past
