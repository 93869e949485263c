-- Laws over the definitions, for all bytes.
use Rattle.std.specs.Prelude.{◌≡◌, ◌≢◌, Option, None, Some, IfSome, IsUtf8, ℕ, ℤ, Bool, FitsSigned, suc, ◌⊎◌, ◌↔◌, List, [], ◌++◌, map}
use Rattle.std.specs.Int.{w32, w64}
use Rattle.std.specs.Option.{option_or}
use Rattle.std.specs.List.{AllByRecursion}
use Rattle.proto_wire.specs.declared.fault.WireFault.{WireFault}
use Rattle.proto_wire.specs.declared.field.WireField.{WireField}
use Rattle.proto_wire.specs.Varint.{IsBytes}
use Rattle.proto_wire.specs.Records.{Records}
use Rattle.proto_wire.specs.Faults.{WireFaulty}
use Rattle.proto_fields.specs.declared.fault.MessageFault.{MessageFault}
use Rattle.proto_fields.specs.declared.kind.MessageKind.{MessageKind}
use Rattle.proto_fields.specs.declared.kind.PayloadKind.TheVariants.{Text}
use Rattle.proto_fields.specs.Kinds.{payload_of}
use Rattle.proto_fields.specs.Fields.{Field, field_in, fields_of, IsMessage}
use Rattle.proto_fields.specs.Readings.{int32_of, int64_of, bool_of, last_number, last_payload, payloads, int32_field, int64_field, bool_field, optional_int32, optional_int64, optional_bool, text_field, optional_text, texts, merged}
use Rattle.proto_fields.specs.Spelling.{spell, IsWritable, bits_of, bit_of, int_fields, optional_int_fields, bool_fields, optional_bool_fields, text_fields, payload_fields, optional_payload_fields}
use Rattle.proto_fields.specs.Faults.{IsSound, IsSoundField, HasFault, first_fault}
use Rattle.proto_fields.specs.Texts.{KeepsText, KeepsOptionalText, KeepsTexts}

-- the fields of bytes are those of their records
abbrev pub FieldsOfRecords : Type 0
FieldsOfRecords = (bytes : List ℕ) (records : List WireField) → Records bytes records → fields_of bytes ≡ map (field_in bytes) records

-- bytes with a fault have no fields
abbrev pub FaultyHaveNoFields : Type 0
FaultyHaveNoFields = (bytes : List ℕ) (fault : WireFault) → WireFaulty bytes fault → fields_of bytes ≡ []

-- two messages, one after the other, have the fields of both: that is how payloads of one singular message are joined
abbrev pub FieldsJoin : Type 0
FieldsJoin = (front back : List ℕ) → IsMessage front → IsMessage back →
    IsMessage (front ++ back) × (fields_of (front ++ back) ≡ fields_of front ++ fields_of back)

-- a message is sound exactly where its bytes are records and the payload of each of its fields is sound
abbrev pub SoundByFields : Type 0
SoundByFields = (levels : ℕ) (kind : MessageKind) (bytes : List ℕ) →
    IsSound (suc levels) kind bytes ↔ (IsMessage bytes × AllByRecursion (IsSoundField (IsSound levels) kind) (fields_of bytes))

-- a message has no first fault exactly where it is sound
abbrev pub SoundHaveNoFault : Type 0
SoundHaveNoFault = (levels : ℕ) (kind : MessageKind) (base : ℕ) (bytes : List ℕ) → IsBytes bytes →
    (first_fault levels kind base bytes ≡ None) ↔ IsSound levels kind bytes

-- its first fault is the fault that it has
abbrev pub FirstFaultIsFault : Type 0
FirstFaultIsFault = (levels : ℕ) (kind : MessageKind) (base : ℕ) (bytes : List ℕ) (fault : MessageFault) → IsBytes bytes →
    (first_fault levels kind base bytes ≡ Some fault) ↔ HasFault levels kind base bytes fault

-- all bytes are a sound message or have a fault, and no more than one
abbrev pub SoundOrFaulty : Type 0
SoundOrFaulty = (levels : ℕ) (kind : MessageKind) (base : ℕ) (bytes : List ℕ) → IsBytes bytes →
    (IsSound levels kind bytes ⊎ ((fault : MessageFault) × HasFault levels kind base bytes fault))

abbrev pub FaultIsOne : Type 0
FaultIsOne = (levels : ℕ) (kind : MessageKind) (base : ℕ) (bytes : List ℕ) (fault other : MessageFault) →
    HasFault levels kind base bytes fault → HasFault levels kind base bytes other → fault ≡ other

abbrev pub SoundIsNotFaulty : Type 0
SoundIsNotFaulty = (levels : ℕ) (kind : MessageKind) (base : ℕ) (bytes : List ℕ) (fault : MessageFault) →
    IsSound levels kind bytes → ¬ HasFault levels kind base bytes fault

-- writable fields are spelled as a message of these fields
abbrev pub SpelledIsRead : Type 0
SpelledIsRead = (fields : List Field) → AllByRecursion IsWritable fields → IsMessage (spell fields) × (fields_of (spell fields) ≡ fields)

-- what they are spelled as is sound exactly where the payload of each is
abbrev pub SpelledIsSound : Type 0
SpelledIsSound = (levels : ℕ) (kind : MessageKind) (fields : List Field) → AllByRecursion IsWritable fields →
    IsSound (suc levels) kind (spell fields) ↔ AllByRecursion (IsSoundField (IsSound levels) kind) fields

-- what a scalar is written as is read as the scalar
pub record ScalarsReturn : Type 0 where
  pub int32 : (value : ℤ) → FitsSigned w32 value → int32_of (bits_of value) ≡ value
  pub int64 : (value : ℤ) → FitsSigned w64 value → int64_of (bits_of value) ≡ value
  pub boolean : (value : Bool) → bool_of (bit_of value) ≡ value

-- a reading of two lists of fields, one after the other
pub record ReadingsJoin : Type 0 where
  pub number : (number : ℕ) (front back : List Field) → last_number number (front ++ back) ≡ option_or (last_number number back) (last_number number front)
  pub payload : (number : ℕ) (front back : List Field) → last_payload number (front ++ back) ≡ option_or (last_payload number back) (last_payload number front)
  pub repeated : (number : ℕ) (front back : List Field) → payloads number (front ++ back) ≡ payloads number front ++ payloads number back

-- nothing is read of fields of other numbers
pub record OthersAreSkipped : Type 0 where
  pub number : (number : ℕ) (fields : List Field) → AllByRecursion (λ field. field.number ≢ number) fields → last_number number fields ≡ None
  pub payload : (number : ℕ) (fields : List Field) → AllByRecursion (λ field. field.number ≢ number) fields → last_payload number fields ≡ None
  pub repeated : (number : ℕ) (fields : List Field) → AllByRecursion (λ field. field.number ≢ number) fields → payloads number fields ≡ []

-- what a value is written as is read as the value
pub record WrittenIsRead : Type 0 where
  pub int32 : (number : ℕ) (value : ℤ) → FitsSigned w32 value → int32_field number (int_fields number value) ≡ value
  pub int64 : (number : ℕ) (value : ℤ) → FitsSigned w64 value → int64_field number (int_fields number value) ≡ value
  pub boolean : (number : ℕ) (value : Bool) → bool_field number (bool_fields number value) ≡ value
  pub optional_int32 : (number : ℕ) (value : Option ℤ) → IfSome value (FitsSigned w32) → optional_int32 number (optional_int_fields number value) ≡ value
  pub optional_int64 : (number : ℕ) (value : Option ℤ) → IfSome value (FitsSigned w64) → optional_int64 number (optional_int_fields number value) ≡ value
  pub optional_bool : (number : ℕ) (value : Option Bool) → optional_bool number (optional_bool_fields number value) ≡ value
  pub text : (number : ℕ) (text : List ℕ) → IsUtf8 text → text_field number (text_fields number text) ≡ text
  pub optional_text : (number : ℕ) (text : Option (List ℕ)) → IfSome text IsUtf8 → optional_text number (optional_payload_fields number text) ≡ text
  pub optional_bytes : (number : ℕ) (bytes : Option (List ℕ)) → last_payload number (optional_payload_fields number bytes) ≡ bytes
  pub message : (number : ℕ) (fields : List Field) → AllByRecursion IsWritable fields → merged number (payload_fields number (spell fields)) ≡ Some fields

-- where a payload is a text in the fault table, a sound message's text is read as it stands
pub record TextsAreKept : Type 0 where
  pub text : (kind : MessageKind) (number : ℕ) → payload_of kind number ≡ Text → KeepsText kind number (text_field number)
  pub optional_text : (kind : MessageKind) (number : ℕ) → payload_of kind number ≡ Text → KeepsOptionalText kind number (optional_text number)
  pub texts : (kind : MessageKind) (number : ℕ) → payload_of kind number ≡ Text → KeepsTexts kind number (texts number)

-- whatever fields are read, a number has the bits of its type and a text is UTF-8
pub record ReadingsAreValid : Type 0 where
  pub int32 : (number : ℕ) (fields : List Field) → FitsSigned w32 (int32_field number fields)
  pub int64 : (number : ℕ) (fields : List Field) → FitsSigned w64 (int64_field number fields)
  pub optional_int32 : (number : ℕ) (fields : List Field) → IfSome (optional_int32 number fields) (FitsSigned w32)
  pub optional_int64 : (number : ℕ) (fields : List Field) → IfSome (optional_int64 number fields) (FitsSigned w64)
  pub text : (number : ℕ) (fields : List Field) → IsUtf8 (text_field number fields)
  pub optional_text : (number : ℕ) (fields : List Field) → IfSome (optional_text number fields) IsUtf8
  pub texts : (number : ℕ) (fields : List Field) → AllByRecursion IsUtf8 (texts number fields)
