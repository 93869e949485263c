-- Messages inside a message: a singular one, and those of a repeated field.
use Rattle.std.specs.Prelude.{ℕ, List, [], map, flat_map, unwrap_or}
use Rattle.proto_fields.specs.Fields.{Field, fields_of}
use Rattle.proto_fields.specs.Readings.{payloads, merged}
use Rattle.proto_fields.specs.Spelling.{spell, payload_fields}

-- the fields of a singular message; none where it is absent
abbrev pub message_at : ℕ → List Field → List Field
message_at number fields = unwrap_or (merged number fields) []

-- the messages of a repeated field, in order, each read so
abbrev pub messages_at : {A : Type 0} → (List Field → A) → ℕ → List Field → List A
messages_at read number fields = map (λ payload. read (fields_of payload)) (payloads number fields)

-- the payloads of a repeated field, in order, empty ones too
abbrev pub repeated_fields : ℕ → List (List ℕ) → List Field
repeated_fields number payloads = flat_map (payload_fields number) payloads

-- a repeated field of messages, each spelled so
abbrev pub messages_fields : {A : Type 0} → (A → List Field) → ℕ → List A → List Field
messages_fields fields number messages = repeated_fields number (map (λ message. spell (fields message)) messages)
