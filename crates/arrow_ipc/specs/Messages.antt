-- The tables of the two messages (Arrow's Message.fbs and Schema.fbs), by slot.
use Rattle.std.specs.Prelude.{ℕ, pos, if◌then◌else◌, List, [], ◌∷◌, length, map}
use Rattle.cn_types.specs.declared.value.DataType.{DataType}
use Rattle.cn_types.specs.declared.value.DataType.TheVariants as K
use Rattle.cn_types.specs.declared.row.Row.{Row}
use Rattle.cn_types.specs.declared.schema.Field.{Field}
use Rattle.cn_types.specs.declared.schema.Schema.{Schema}
use Rattle.flat_tables.specs.declared.object.FlatObject.{FlatObject}
use Rattle.flat_tables.specs.declared.object.FlatObject.TheVariants as O
use Rattle.flat_tables.specs.declared.object.FlatSlot.TheVariants.{Absent, U8, I16, I32, I64, Object}
use Rattle.flat_tables.specs.declared.object.FlatPair.{FlatPair}
use Rattle.arrow_ipc.specs.Columns.{buffers_from, spans_from, nodes_from, body_of}

-- Type: Int 2, Utf8 5, Bool 6, Date 8
abbrev pub type_number : DataType → ℕ
type_number K.Boolean = 6
type_number K.Integer = 2
type_number K.Long = 2
type_number K.Text = 5
type_number K.Date = 8

-- Int has bitWidth 0 and is_signed 1; Date has unit 0, here DAY
unfoldable pub type_table : DataType → FlatObject
type_table K.Boolean = O.Table []
type_table K.Integer = O.Table (I32 (pos 32) ∷ U8 1 ∷ [])
type_table K.Long = O.Table (I32 (pos 64) ∷ U8 1 ∷ [])
type_table K.Text = O.Table []
type_table K.Date = O.Table (I16 (pos 0) ∷ [])

-- Field: name 0, nullable 1, type's number 2, type 3, dictionary 4, children 5
unfoldable pub field_table : Field → FlatObject
field_table field = O.Table (
    Object (O.Text field.name) ∷ U8 (if field.nullable then 1 else 0) ∷ U8 (type_number field.kind)
    ∷ Object (type_table field.kind) ∷ Absent ∷ Object (O.Tables []) ∷ [])

-- Schema: endianness 0, here Little; fields 1
unfoldable pub schema_table : Schema → FlatObject
schema_table schema = O.Table (I16 (pos 0) ∷ Object (O.Tables (map field_table schema.0)) ∷ [])

-- RecordBatch: length 0, nodes 1, buffers 2
unfoldable pub batch_table : ℕ → List FlatPair → List FlatPair → FlatObject
batch_table count nodes spans = O.Table (I64 (pos count) ∷ Object (O.Pairs nodes) ∷ Object (O.Pairs spans) ∷ [])

-- Message: version 0, here V5; header's number 1, Schema 1 or RecordBatch 3; header 2; bodyLength 3
unfoldable pub message_table : ℕ → FlatObject → ℕ → FlatObject
message_table number header body = O.Table (I16 (pos 4) ∷ U8 number ∷ Object header ∷ I64 (pos body) ∷ [])

-- the message of a schema, which has no body
unfoldable pub schema_message : Schema → FlatObject
schema_message schema = message_table 1 (schema_table schema) 0

-- the message of one batch of rows
unfoldable pub batch_message : Schema → List Row → FlatObject
batch_message schema rows =
    message_table 3 (batch_table (length rows) (nodes_from 0 schema.0 rows) (spans_from 0 (buffers_from 0 schema.0 rows)))
    (length (body_of (buffers_from 0 schema.0 rows)))
