-- Data types, read of the fields of their messages (`types.proto`, DataType). A level is how many messages may be nested, the message itself
-- among them.
use Rattle.std.specs.Prelude.{ℕ, zero, suc, ◌==◌, if◌then◌else◌, List, option_map, unwrap_or}
use Rattle.proto_fields.specs.declared.kind.MessageKind.TheVariants as kinds
use Rattle.proto_fields.specs.Fields.{Field}
use Rattle.proto_fields.specs.Readings.{bool_field, text_field, Member, latest}
use Rattle.expression_messages.specs.declared.data_type.TypeMessage.{TypeMessage}
use Rattle.expression_messages.specs.declared.data_type.TypeMessage.TheVariants.{Null, Boolean, Byte, Short, Integer, Long, String, Date, Struct, Other}
use Rattle.expression_messages.specs.declared.data_type.StructField.{StructField}
use Rattle.expression_messages.specs.Messages.{message_at, messages_at}

-- name 1, data_type 2, nullable 3
abbrev pub struct_field_of : (List Field → TypeMessage) → List Field → StructField TypeMessage
struct_field_of inner fields = record { name = text_field 1 fields; data_type = inner (message_at 2 fields); nullable = bool_field 3 fields }

-- fields 1
abbrev pub struct_fields_of : (List Field → TypeMessage) → List Field → List (StructField TypeMessage)
struct_fields_of inner fields = messages_at (struct_field_of inner) 1 fields

-- null 1, boolean 3, byte 4, short 5, integer 6, long 7, string 11, date 14, whose fields say nothing; another member stands for itself
abbrev pub plain_type : ℕ → TypeMessage
plain_type number =
    if number == 1 then Null
    else if number == 3 then Boolean
    else if number == 4 then Byte
    else if number == 5 then Short
    else if number == 6 then Integer
    else if number == 7 then Long
    else if number == 11 then String
    else if number == 14 then Date
    else Other number

-- struct 21
abbrev pub type_member : (List Field → TypeMessage) → Member → TypeMessage
type_member inner member =
    if member.number == 21 then Struct (struct_fields_of inner (message_at 21 member.since)) else plain_type member.number

-- a type, where the types in it are read so; an absent type is Other 0
abbrev pub data_type_of : (List Field → TypeMessage) → List Field → TypeMessage
data_type_of inner fields = unwrap_or (option_map (type_member inner) (latest kinds.DataType fields)) (Other 0)

-- a type in another is three levels further in: the struct's message and the field's stand between. Where no level is left, it is Other 0
unfoldable pub type_at : ℕ → List Field → TypeMessage
type_at zero fields = Other 0
type_at (suc zero) fields = data_type_of (type_at zero) fields
type_at (suc (suc zero)) fields = data_type_of (type_at zero) fields
type_at (suc (suc (suc level))) fields = data_type_of (type_at level) fields
