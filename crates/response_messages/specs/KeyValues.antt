-- Pairs of a key and a value, read of the fields of their messages and written as fields (`base.proto`, KeyValue): key 1, value 2, which may be
-- absent.
use Rattle.std.specs.Prelude.{List, ◌++◌, IfSome, IsUtf8}
use Rattle.proto_fields.specs.Fields.{Field}
use Rattle.proto_fields.specs.Readings.{text_field, optional_text}
use Rattle.proto_fields.specs.Spelling.{text_fields, optional_payload_fields}
use Rattle.response_messages.specs.declared.key_value.KeyValue.{KeyValue}

-- what a message's fields say
abbrev pub key_value_of : List Field → KeyValue
key_value_of fields = record { key = text_field 1 fields; value = optional_text 2 fields }

-- the fields that a pair is written as
abbrev pub key_value_fields : KeyValue → List Field
key_value_fields pair = text_fields 1 pair.key ++ optional_payload_fields 2 pair.value

-- the texts are UTF-8
pub record HasKeyValueBits (pair : KeyValue) : Type 0 where
  pub key : IsUtf8 pair.key
  pub value : IfSome pair.value IsUtf8
