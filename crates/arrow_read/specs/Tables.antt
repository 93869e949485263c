-- What the tables of a message say (Message.fbs and Schema.fbs): what is taken from its metadata, or none, where a byte that is needed lies
-- outside it, where what has to be there is absent, or where a number or a name is none that the format has.
use Rattle.std.specs.Prelude.{ℕ, zero, suc, ◌+◌, ◌==◌, ℤ, pos, int_lt, nat_abs, Bool, false, not, ◌||◌, if◌then◌else◌, List, [], ◌∷◌, Option, None, Some, is_some, unwrap_or, option_map}
use Rattle.std.specs.Result.{result_ok}
use Rattle.std.specs.Ordering.{int_eq}
use Rattle.std.specs.Str.{is_utf8}
use Rattle.cn_types.specs.declared.value.DataType.{DataType}
use Rattle.cn_types.specs.declared.value.DataType.TheVariants as K
use Rattle.arrow_read.specs.declared.head.Head.{Head}
use Rattle.arrow_read.specs.declared.batch.BatchTables.{BatchTables}
use Rattle.flat_tables.specs.Views.{TableView, VectorView}
use Rattle.flat_tables.specs.Reading.{field_at, named_table, u8_field, i16_field, i32_field, i64_field, table_field, text_field, vector_field, item_table}

-- one step after another: the first none stops
infixl 10 ◌>>=◌
abbrev pub ◌>>=◌ : {A B : Type 0} → Option A → (A → Option B) → Option B
(Some x) >>= f = f x
None >>= f = None

-- a number that isn't negative
abbrev pub not_negative : ℤ → Option ℕ
not_negative number = if int_lt number (pos 0) then None else Some (nat_abs number)

-- a text, if the bytes are UTF-8
unfoldable pub utf8 : List ℕ → Option (List ℕ)
utf8 bytes = if is_utf8 bytes then Some bytes else None

-- whether a table has a slot, of which no byte is needed
unfoldable pub presence : TableView → ℕ → Option Bool
presence table slot = option_map is_some (result_ok (field_at table.buffer table.place slot))

-- ---- Message

-- V4 is 3, V5 is 4
abbrev pub is_version : ℤ → Bool
is_version version = int_eq version (pos 3) || int_eq version (pos 4)

unfoldable pub head_in : List ℕ → Option Head
head_in metadata = do
  message ← result_ok (named_table metadata 0)
  version ← result_ok (i16_field message 0)
  number ← result_ok (u8_field message 1)
  named ← result_ok (table_field message 2)
  size ← result_ok (i64_field message 3)
  header ← named
  body ← not_negative (unwrap_or size (pos 0))
  if is_version (unwrap_or version (pos 0)) then Some (record { number = unwrap_or number 0; header = header; body = body }) else None

-- ---- Schema

-- a field: its name, whether it may have nulls, and its type, if it is one of the five
pub record FieldView : Type 0 where
  pub name : List ℕ
  pub nullable : Bool
  pub kind : Option DataType

-- Int: signed, of 32 or 64 bits
abbrev pub int_kind : ℤ → ℕ → Option DataType
int_kind width signed =
    if signed == 0 then None else if int_eq width (pos 32) then Some K.Integer else if int_eq width (pos 64) then Some K.Long else None

-- Date: in days, 0
abbrev pub date_kind : ℤ → Option DataType
date_kind unit = if int_eq unit (pos 0) then Some K.Date else None

-- types without slots: Utf8 is 5, Bool is 6
abbrev pub plain_kind : ℕ → Option DataType
plain_kind number = if number == 5 then Some K.Text else if number == 6 then Some K.Boolean else None

-- a type by its number in the union, Int 2 and Date 8, and by its table. Where Date says no unit it is milliseconds, 1
unfoldable pub kind_in : ℕ → TableView → Option (Option DataType)
kind_in number table =
    if number == 2 then (do
      width ← result_ok (i32_field table 0)
      signed ← result_ok (u8_field table 1)
      Some (int_kind (unwrap_or width (pos 0)) (unwrap_or signed 0)))
    else if number == 8 then (do
      unit ← result_ok (i16_field table 0)
      Some (date_kind (unwrap_or unit (pos 1))))
    else Some (plain_kind number)

unfoldable pub type_in : TableView → Option (Option DataType)
type_in field = do
  number ← result_ok (u8_field field 2)
  named ← result_ok (table_field field 3)
  table ← named
  kind_in (unwrap_or number 0) table

-- whether there is a vector with an item
abbrev pub has_item : Option VectorView → Bool
has_item (Some vector) = not (vector.count == 0)
has_item None = false

-- a dictionary and children are none of the five types
unfoldable pub plain_type_in : TableView → Option (Option DataType)
plain_type_in field = do
  kind ← type_in field
  dictionary ← presence field 4
  children ← result_ok (vector_field field 5 4)
  Some (if dictionary || has_item children then None else kind)

unfoldable pub field_in : VectorView → ℕ → Option FieldView
field_in fields place = do
  field ← result_ok (item_table fields place)
  bytes ← result_ok (text_field field 0)
  nullable ← result_ok (u8_field field 1)
  kind ← plain_type_in field
  name ← utf8 (unwrap_or bytes [])
  Some (record { name = name; nullable = not (unwrap_or nullable 0 == 0); kind = kind })

-- so many fields from a place on
abbrev pub fields_from : VectorView → ℕ → ℕ → Option (List FieldView)
fields_from fields place zero = Some []
fields_from fields place (suc count) = field_in fields place >>= λ field. fields_from fields (place + 1) count >>= λ more. Some (field ∷ more)

-- the fields of a schema, if its numbers are little-endian
unfoldable pub schema_in : TableView → Option (Option (List FieldView))
schema_in header = do
  endianness ← result_ok (i16_field header 0)
  named ← result_ok (vector_field header 1 4)
  vector ← named
  fields ← fields_from vector 0 vector.count
  Some (if int_eq (unwrap_or endianness (pos 0)) (pos 0) then Some fields else None)

-- the first message's header, where it is a schema, 1; it isn't a batch, 3
abbrev pub first_header : Head → Option (Option (List FieldView))
first_header head = if head.number == 1 then schema_in head.header else if head.number == 3 then None else Some None

-- ---- RecordBatch

unfoldable pub batch_in : TableView → Option BatchTables
batch_in header = do
  length ← result_ok (i64_field header 0)
  count ← not_negative (unwrap_or length (pos 0))
  nodes ← result_ok (vector_field header 1 16)
  spans ← result_ok (vector_field header 2 16)
  compressed ← presence header 3
  Some (record { count = count; nodes = nodes; spans = spans; compressed = compressed })

-- a later message's header, where it is a batch; it isn't a schema
abbrev pub later_header : Head → Option (Option BatchTables)
later_header head = if head.number == 3 then option_map Some (batch_in head.header) else if head.number == 1 then None else Some None
