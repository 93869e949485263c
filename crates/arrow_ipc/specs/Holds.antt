-- What a stream holds (Arrow Columnar Format, "IPC Streaming Format", "Encapsulated message format", "Physical Memory Layout"; Message.fbs
-- and Schema.fbs), one cell at a time.
use Rattle.std.specs.Prelude.{◌≡◌, ◌≢◌, ◌↔◌, ◌⊎◌, ℕ, ◌+◌, ◌-◌, ◌*◌, ◌/◌, ◌%◌, ◌^◌, ◌<◌, ◌≤◌, ℤ, pos, List, [], ◌∷◌, length, take, drop, slice_index, slice_get, Option, None, Some, Result, Ok, Err, Bool, All, IsTrue, IsUtf8}
use Rattle.std.specs.Int.{bit_at}
use Rattle.cn_types.specs.Fit.{IsDay, IsValue}
use Rattle.cn_types.specs.declared.value.Value.{Value}
use Rattle.cn_types.specs.declared.value.Value.TheVariants as V
use Rattle.cn_types.specs.declared.value.DataType.{DataType}
use Rattle.cn_types.specs.declared.value.DataType.TheVariants as K
use Rattle.cn_types.specs.declared.row.Row.{Row}
use Rattle.cn_types.specs.declared.schema.Field.{Field}
use Rattle.cn_types.specs.declared.schema.Schema.{Schema}
use Rattle.flat_tables.specs.declared.fault.FlatFault.{FlatFault}
use Rattle.flat_tables.specs.Views.{TableView, VectorView}
use Rattle.flat_tables.specs.Reading.{i32_at, i64_at, field_at, named_table, u8_field, i16_field, i32_field, i64_field, table_field, text_field, vector_field, item_bytes, item_table}
use Rattle.arrow_ipc.specs.Columns.{cells, null_count, body_of, buffers_from}
use Rattle.arrow_ipc.specs.Stream.{mark, stream_of, CanBeWritten}

-- what a field is, where an absent one is this
abbrev pub or_absent : {A : Type 0} → A → Result (Option A) FlatFault → Result A FlatFault
or_absent d (Ok None) = Ok d
or_absent d (Ok (Some x)) = Ok x
or_absent d (Err e) = Err e

-- ---- messages

-- Message.fbs: V4 is 3, V5 is 4
abbrev pub IsVersion : Result (Option ℤ) FlatFault → Type 0
IsVersion version = (or_absent (pos 0) version ≡ Ok (pos 3)) ⊎ (or_absent (pos 0) version ≡ Ok (pos 4))

-- A message stands at a place: the mark, the size of its metadata, the metadata, in which the header has this number in its union, and the
-- body. The next one stands at `next`.
pub record MessageAt (bytes : List ℕ) (at number : ℕ) (header : TableView) (body : List ℕ) (next : ℕ) : Type 0 where
  pub size : ℕ
  pub table : TableView
  pub mark_is : take 4 (drop at bytes) ≡ mark
  pub size_is : i32_at bytes (at + 4) ≡ Ok (pos size)
  pub table_is : named_table (take size (drop (at + 8) bytes)) 0 ≡ Ok table
  pub version : IsVersion (i16_field table 0)
  pub number_is : or_absent 0 (u8_field table 1) ≡ Ok number
  pub header_is : table_field table 2 ≡ Ok (Some header)
  pub body_size : or_absent (pos 0) (i64_field table 3) ≡ Ok (pos (length body))
  pub body_is : take (length body) (drop (at + 8 + size) bytes) ≡ body
  pub next_is : next ≡ at + 8 + size + length body
  pub within : next ≤ length bytes

-- the end mark stands at a place: a mark and a size of 0
pub record EndMarkAt (bytes : List ℕ) (at : ℕ) : Type 0 where
  pub mark_is : take 4 (drop at bytes) ≡ mark
  pub size_is : i32_at bytes (at + 4) ≡ Ok (pos 0)

-- the stream ends: with its bytes, or with an end mark. Bytes after that say nothing
abbrev pub IsEnd : List ℕ → ℕ → Type 0
IsEnd bytes at = (at ≡ length bytes) ⊎ EndMarkAt bytes at

-- ---- the schema

-- a byte that is true: it isn't 0
abbrev pub IsTrueByte : Result (Option ℕ) FlatFault → Type 0
IsTrueByte byte = (n : ℕ) × (or_absent 0 byte ≡ Ok n) × (n ≢ 0)

-- Int: signed, of a width in bits
pub record IsInt (width number : ℕ) (table : TableView) : Type 0 where
  pub is_int : number ≡ 2
  pub width_is : or_absent (pos 0) (i32_field table 0) ≡ Ok (pos width)
  pub signed : IsTrueByte (u8_field table 1)

-- Date: in days. An absent unit is milliseconds, 1
pub record IsDayDate (number : ℕ) (table : TableView) : Type 0 where
  pub is_date : number ≡ 8
  pub unit_is : or_absent (pos 1) (i16_field table 0) ≡ Ok (pos 0)

-- a column's type, by the number of its table in the union `Type` and that table: one line for each type
abbrev pub IsOfType : DataType → ℕ → TableView → Type 0
IsOfType K.Boolean number table = number ≡ 6
IsOfType K.Integer number table = IsInt 32 number table
IsOfType K.Long number table = IsInt 64 number table
IsOfType K.Text number table = number ≡ 5
IsOfType K.Date number table = IsDayDate number table

-- a vector that is absent or has no item
abbrev pub HasNoItem : Result (Option VectorView) FlatFault → Type 0
HasNoItem vector = (vector ≡ Ok None) ⊎ ((v : VectorView) × (vector ≡ Ok (Some v)) × (v.count ≡ 0))

-- a truth that a byte says: it is true where the byte isn't 0
abbrev pub Says : Bool → Result (Option ℕ) FlatFault → Type 0
Says truth byte = (n : ℕ) × (or_absent 0 byte ≡ Ok n) × (IsTrue truth ↔ (n ≢ 0))

pub record FieldHolds (table : TableView) (field : Field) : Type 0 where
  pub number : ℕ
  pub type_table : TableView
  pub name_is : or_absent [] (text_field table 0) ≡ Ok field.name
  pub name_is_text : IsUtf8 field.name
  pub nullable : Says field.nullable (u8_field table 1)
  pub number_is : or_absent 0 (u8_field table 2) ≡ Ok number
  pub type_is : table_field table 3 ≡ Ok (Some type_table)
  pub kind : IsOfType field.kind number type_table
  pub no_dictionary : field_at table.buffer table.place 4 ≡ Ok None
  pub no_children : HasNoItem (vector_field table 5 4)

-- the schema's fields from the left, and no others; numbers are little-endian
pub record SchemaHolds (table : TableView) (schema : Schema) : Type 0 where
  pub fields : VectorView
  pub little : or_absent (pos 0) (i16_field table 0) ≡ Ok (pos 0)
  pub fields_are : vector_field table 1 4 ≡ Ok (Some fields)
  pub count : fields.count ≡ length schema.0
  pub each : (place : ℕ) (field : Field) → slice_get schema.0 place ≡ Some field → (t : TableView) × (item_table fields place ≡ Ok t) × FieldHolds t field

-- ---- a batch

-- the two numbers of an item of a vector of pairs
abbrev pub PairIs : Result (Option VectorView) FlatFault → ℕ → ℕ → ℕ → Type 0
PairIs vector place first second =
    (v : VectorView) × (vector ≡ Ok (Some v)) × (place < v.count) × (i64_at (item_bytes v place) 0 ≡ Ok (pos first)) × (i64_at (item_bytes v place) 8 ≡ Ok (pos second))

-- the batch's buffer of this number: its bytes in the body
pub record BufferAt (batch : TableView) (body : List ℕ) (number : ℕ) (buffer : List ℕ) : Type 0 where
  pub offset : ℕ
  pub span : PairIs (vector_field batch 2 16) number offset (length buffer)
  pub bytes : take (length buffer) (drop offset body) ≡ buffer
  pub within : offset + length buffer ≤ length body

abbrev pub BuffersAt : TableView → List ℕ → ℕ → List (List ℕ) → Type 0
BuffersAt batch body number [] = Unit {0}
BuffersAt batch body number (buffer ∷ buffers) = BufferAt batch body number buffer × BuffersAt batch body (number + 1) buffers

-- the bit of a row, the least of each byte first
abbrev pub IsBitOf : List ℕ → ℕ → Type 0
IsBitOf bits row = bit_at (slice_index bits (row / 8)) (row % 8) ≡ 1

-- The cell of a row has a value where its validity bit is set, or where the validity buffer has no byte.
abbrev pub IsPresent : List ℕ → ℕ → Type 0
IsPresent validity row = (validity ≡ []) ⊎ IsBitOf validity row

-- the text between a row's offset and the next
pub record TextStands (offsets texts : List ℕ) (row : ℕ) (text : List ℕ) : Type 0 where
  pub from : ℕ
  pub to : ℕ
  pub from_is : i32_at offsets (4 * row) ≡ Ok (pos from)
  pub to_is : i32_at offsets (4 * (row + 1)) ≡ Ok (pos to)
  pub rises : from ≤ to
  pub bytes : take (to - from) (drop from texts) ≡ text

-- the value that stands at a row of a column's buffers: one line for each type
abbrev pub ValueStands : DataType → List (List ℕ) → ℕ → Value → Type 0
ValueStands K.Boolean (bits ∷ []) row (V.Boolean truth) = IsTrue truth ↔ IsBitOf bits row
ValueStands K.Integer (numbers ∷ []) row (V.Integer number) = i32_at numbers (4 * row) ≡ Ok number
ValueStands K.Long (numbers ∷ []) row (V.Long number) = i64_at numbers (8 * row) ≡ Ok number
ValueStands K.Text (offsets ∷ texts ∷ []) row (V.Text text) = TextStands offsets texts row text × IsUtf8 text
ValueStands K.Date (numbers ∷ []) row (V.Date days) = (i32_at numbers (4 * row) ≡ Ok days) × IsDay days
ValueStands kind buffers row value = ⊥

-- a cell: null, or its value
abbrev pub CellStands : DataType → List ℕ → List (List ℕ) → ℕ → Value → Type 0
CellStands kind validity buffers row V.Null = ¬ (IsPresent validity row)
CellStands kind validity buffers row value = IsPresent validity row × ValueStands kind buffers row value

-- the offsets of each row, whether it is null or not, don't fall, and the texts have as many bytes
abbrev pub OffsetsRise : ℕ → List ℕ → List ℕ → Type 0
OffsetsRise count offsets texts =
    (row : ℕ) → row < count → (from : ℕ) × (to : ℕ) × (i32_at offsets (4 * row) ≡ Ok (pos from)) × (i32_at offsets (4 * (row + 1)) ≡ Ok (pos to)) × (from ≤ to) × (to ≤ length texts)

-- there is a first offset, which lies in the texts. The offsets of no row are one number
abbrev pub OffsetsBegin : List ℕ → List ℕ → Type 0
OffsetsBegin offsets texts = (from : ℕ) × (i32_at offsets 0 ≡ Ok (pos from)) × (from ≤ length texts)

-- there are as many offsets as rows and one more, which rise within the texts; a column without rows may have a buffer without a byte in
-- their place
abbrev pub OffsetsStand : ℕ → List ℕ → List ℕ → Type 0
OffsetsStand count offsets texts = ((count ≡ 0) × (offsets ≡ [])) ⊎ (OffsetsBegin offsets texts × OffsetsRise count offsets texts)

-- the buffers behind the validity are long enough for so many rows; they may be longer
abbrev pub AreLongEnough : DataType → ℕ → List (List ℕ) → Type 0
AreLongEnough K.Boolean count (bits ∷ []) = count ≤ 8 * length bits
AreLongEnough K.Integer count (numbers ∷ []) = 4 * count ≤ length numbers
AreLongEnough K.Long count (numbers ∷ []) = 8 * count ≤ length numbers
AreLongEnough K.Text count (offsets ∷ texts ∷ []) = OffsetsStand count offsets texts
AreLongEnough K.Date count (numbers ∷ []) = 4 * count ≤ length numbers
AreLongEnough kind count buffers = ⊥

-- the number of a column's buffers behind its validity
abbrev pub buffer_count : DataType → ℕ
buffer_count K.Boolean = 1
buffer_count K.Integer = 1
buffer_count K.Long = 1
buffer_count K.Text = 2
buffer_count K.Date = 1

-- A column of a batch has these values. Its node says how many there are and how many are null; its buffers are those from `first` on.
pub record ColumnHolds (batch : TableView) (body : List ℕ) (column first : ℕ) (kind : DataType) (values : List Value) : Type 0 where
  pub validity : List ℕ
  pub buffers : List (List ℕ)
  pub node : PairIs (vector_field batch 1 16) column (length values) (null_count values)
  pub validity_at : BufferAt batch body first validity
  pub buffers_at : BuffersAt batch body (first + 1) buffers
  pub validity_long : (validity ≡ []) ⊎ (length values ≤ 8 * length validity)
  pub long_enough : AreLongEnough kind (length values) buffers
  pub each : (row : ℕ) (value : Value) → slice_get values row ≡ Some value → CellStands kind validity buffers row value

-- the columns from one on, whose fields these are
abbrev pub ColumnsHold : TableView → List ℕ → ℕ → ℕ → List Field → List Row → Type 0
ColumnsHold batch body column first [] rows = Unit {0}
ColumnsHold batch body column first (field ∷ fields) rows =
    ColumnHolds batch body column first field.kind (cells column rows) × ColumnsHold batch body (column + 1) (first + 1 + buffer_count field.kind) fields rows

-- a vector that the table has or hasn't; where it has one, all its items lie in the buffer
abbrev pub IsWhole : Result (Option VectorView) FlatFault → Type 0
IsWhole vector = (v : Option VectorView) × (vector ≡ Ok v)

-- a batch has these rows, and isn't compressed
pub record BatchHolds (batch : TableView) (body : List ℕ) (schema : Schema) (rows : List Row) : Type 0 where
  pub count : or_absent (pos 0) (i64_field batch 0) ≡ Ok (pos (length rows))
  pub plain : field_at batch.buffer batch.place 3 ≡ Ok None
  pub nodes : IsWhole (vector_field batch 1 16)
  pub spans : IsWhole (vector_field batch 2 16)
  pub widths : All (λ row. length row.0 ≡ length schema.0) rows
  pub columns : ColumnsHold batch body 0 0 schema.0 rows

-- ---- the stream

-- the batches from a place on, up to the stream's end, have these rows each
pub data BatchesHold (bytes : List ℕ) (schema : Schema) : ℕ → List (List Row) → Type 0 where
  over : (at : ℕ) → IsEnd bytes at → BatchesHold bytes schema at []
  batch : (at next : ℕ) (header : TableView) (body : List ℕ) (rows : List Row) (more : List (List Row)) → MessageAt bytes at 3 header body next
      → BatchHolds header body schema rows → BatchesHold bytes schema next more → BatchesHold bytes schema at (rows ∷ more)

-- the stream's first message is the schema, and the next one stands at `next`
pub record BeginsWithSchema (bytes : List ℕ) (schema : Schema) (next : ℕ) : Type 0 where
  pub header : TableView
  pub body : List ℕ
  pub message : MessageAt bytes 0 1 header body next
  pub schema_is : SchemaHolds header schema

-- The bytes are a stream of this schema and these batches, each with its rows: first comes the schema, then come the batches, and then the
-- stream ends.
pub record Holds (bytes : List ℕ) (schema : Schema) (batches : List (List Row)) : Type 0 where
  pub next : ℕ
  pub begins : BeginsWithSchema bytes schema next
  pub batches_are : BatchesHold bytes schema next batches

-- ---- the law

-- names and values as those of a program are, and as many rows and bytes as memory can hold
pub record AreInMemory (schema : Schema) (rows : List Row) : Type 0 where
  pub names : All (λ field. IsUtf8 field.name) schema.0
  pub values : All (λ row. All IsValue row.0) rows
  pub count : length rows < 2 ^ 63
  pub body : length (body_of (buffers_from 0 schema.0 rows)) < 2 ^ 63

-- what is written holds the schema and one batch with the rows
abbrev pub WrittenStreamsHold : Type 0
WrittenStreamsHold = (schema : Schema) (rows : List Row) → CanBeWritten schema rows → AreInMemory schema rows → Holds (stream_of schema rows) schema (rows ∷ [])
