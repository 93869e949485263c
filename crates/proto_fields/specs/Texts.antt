-- Which readings give a text as it stands: those of a number whose payload is a text in the fault table. In a sound message such a payload is
-- UTF-8, so that nothing in it is replaced.
use Rattle.std.specs.Prelude.{◌≡◌, ℕ, List, [], Option, unwrap_or}
use Rattle.std.specs.List.{AllByRecursion}
use Rattle.proto_fields.specs.declared.kind.MessageKind.{MessageKind}
use Rattle.proto_fields.specs.Fields.{Field}
use Rattle.proto_fields.specs.Readings.{last_payload, payloads}
use Rattle.proto_fields.specs.Faults.{IsSoundField, IsSound}

-- the payloads of the fields are what a message of this kind has there, with so many levels of nesting left for them
abbrev pub AreSoundFields : ℕ → MessageKind → List Field → Type 0
AreSoundFields levels kind fields = AllByRecursion (IsSoundField (IsSound levels) kind) fields

-- in a sound message of this kind the text is the last payload of this number, byte for byte; empty where there is none
abbrev pub KeepsText : MessageKind → ℕ → (List Field → List ℕ) → Type 0
KeepsText kind number read = (levels : ℕ) (fields : List Field) → AreSoundFields levels kind fields → read fields ≡ unwrap_or (last_payload number fields) []

-- the optional text is the last payload of this number, byte for byte
abbrev pub KeepsOptionalText : MessageKind → ℕ → (List Field → Option (List ℕ)) → Type 0
KeepsOptionalText kind number read = (levels : ℕ) (fields : List Field) → AreSoundFields levels kind fields → read fields ≡ last_payload number fields

-- the texts are the payloads of this number, byte for byte
abbrev pub KeepsTexts : MessageKind → ℕ → (List Field → List (List ℕ)) → Type 0
KeepsTexts kind number read = (levels : ℕ) (fields : List Field) → AreSoundFields levels kind fields → read fields ≡ payloads number fields
