-- Why the tables of a message can't be read, and why a field has none of the five types: one case for each row of the format's list
-- (Message.fbs and Schema.fbs).
use Rattle.std.specs.Prelude.{◌≡◌, ◌≢◌, ◌↔◌, ℕ, ◌<◌, ℤ, pos, ◌<ℤ◌, List, [], None, Some, Result, Ok, Err, IsUtf8}
use Rattle.flat_tables.specs.declared.fault.FlatFault.{FlatFault}
use Rattle.flat_tables.specs.Views.{TableView, VectorView}
use Rattle.flat_tables.specs.Reading.{field_at, named_table, u8_field, i16_field, i32_field, i64_field, table_field, text_field, vector_field, item_table}
use Rattle.arrow_ipc.specs.Holds.{or_absent}
use Rattle.arrow_read.specs.declared.head.Head.{Head}
use Rattle.arrow_read.specs.Tables.{FieldView, head_in, field_in, schema_in, batch_in, first_header, later_header}

-- a look-up needs a byte outside the metadata, which is its one fault
abbrev pub IsOutside : {A : Type 0} → Result A FlatFault → Type 0
IsOutside found = (fault : FlatFault) × (found ≡ Err fault)

-- ---- Message

pub data MessageBad (message : TableView) : Type 0 where
  version_outside : IsOutside (i16_field message 0) → MessageBad message
  number_outside : IsOutside (u8_field message 1) → MessageBad message
  header_outside : IsOutside (table_field message 2) → MessageBad message
  size_outside : IsOutside (i64_field message 3) → MessageBad message
  no_header : table_field message 2 ≡ Ok None → MessageBad message
  negative_size : (size : ℤ) → i64_field message 3 ≡ Ok (Some size) → size <ℤ pos 0 → MessageBad message
  other_version : (version : ℤ) → or_absent (pos 0) (i16_field message 0) ≡ Ok version → version ≢ pos 3 → version ≢ pos 4 → MessageBad message

pub data HeadBad (metadata : List ℕ) : Type 0 where
  message_outside : IsOutside (named_table metadata 0) → HeadBad metadata
  bad_message : (message : TableView) → named_table metadata 0 ≡ Ok message → MessageBad message → HeadBad metadata

-- ---- Field

-- the bytes of an Int's width and sign, and of a Date's unit; other types need none
pub data TypeBad (number : ℕ) (table : TableView) : Type 0 where
  width_outside : number ≡ 2 → IsOutside (i32_field table 0) → TypeBad number table
  sign_outside : number ≡ 2 → IsOutside (u8_field table 1) → TypeBad number table
  unit_outside : number ≡ 8 → IsOutside (i16_field table 0) → TypeBad number table

pub data FieldBad (field : TableView) : Type 0 where
  name_outside : IsOutside (text_field field 0) → FieldBad field
  nullable_outside : IsOutside (u8_field field 1) → FieldBad field
  kind_outside : IsOutside (u8_field field 2) → FieldBad field
  type_outside : IsOutside (table_field field 3) → FieldBad field
  dictionary_outside : IsOutside (field_at field.buffer field.place 4) → FieldBad field
  children_outside : IsOutside (vector_field field 5 4) → FieldBad field
  no_type : table_field field 3 ≡ Ok None → FieldBad field
  bad_type : (number : ℕ) (table : TableView) → or_absent 0 (u8_field field 2) ≡ Ok number → table_field field 3 ≡ Ok (Some table) → TypeBad number table → FieldBad field
  no_text : (name : List ℕ) → or_absent [] (text_field field 0) ≡ Ok name → ¬ IsUtf8 name → FieldBad field

-- ---- Schema

pub data SchemaBad (schema : TableView) : Type 0 where
  endianness_outside : IsOutside (i16_field schema 0) → SchemaBad schema
  fields_outside : IsOutside (vector_field schema 1 4) → SchemaBad schema
  no_fields : vector_field schema 1 4 ≡ Ok None → SchemaBad schema
  item_outside : (fields : VectorView) (place : ℕ) → vector_field schema 1 4 ≡ Ok (Some fields) → place < fields.count → IsOutside (item_table fields place) → SchemaBad schema
  bad_field : (fields : VectorView) (place : ℕ) (field : TableView) → vector_field schema 1 4 ≡ Ok (Some fields) → place < fields.count → item_table fields place ≡ Ok field → FieldBad field → SchemaBad schema

-- the first message is a batch, or a schema that can't be read
pub data FirstBad (head : Head) : Type 0 where
  a_batch : head.number ≡ 3 → FirstBad head
  bad_schema : head.number ≡ 1 → SchemaBad head.header → FirstBad head

-- ---- RecordBatch

pub data BatchBad (batch : TableView) : Type 0 where
  length_outside : IsOutside (i64_field batch 0) → BatchBad batch
  nodes_outside : IsOutside (vector_field batch 1 16) → BatchBad batch
  buffers_outside : IsOutside (vector_field batch 2 16) → BatchBad batch
  compression_outside : IsOutside (field_at batch.buffer batch.place 3) → BatchBad batch
  negative_length : (length : ℤ) → i64_field batch 0 ≡ Ok (Some length) → length <ℤ pos 0 → BatchBad batch

-- a later message is a schema, or a batch that can't be read
pub data LaterBad (head : Head) : Type 0 where
  a_schema : head.number ≡ 1 → LaterBad head
  bad_batch : head.number ≡ 3 → BatchBad head.header → LaterBad head

-- ---- other headers

-- the first message has another header, or its schema, which can be read, has big-endian numbers
pub data FirstOther (head : Head) : Type 0 where
  other_header : head.number ≢ 1 → head.number ≢ 3 → FirstOther head
  big_endian : (endianness : ℤ) → head.number ≡ 1 → ¬ SchemaBad head.header → or_absent (pos 0) (i16_field head.header 0) ≡ Ok endianness → endianness ≢ pos 0 → FirstOther head

-- a later one is neither a schema nor a batch
abbrev pub LaterOther : Head → Type 0
LaterOther head = (head.number ≢ 3) × (head.number ≢ 1)

-- ---- types

-- Int without a sign or of another width, Date in another unit, and the other types of the union
pub data OtherKind (number : ℕ) (table : TableView) : Type 0 where
  unsigned : number ≡ 2 → or_absent 0 (u8_field table 1) ≡ Ok 0 → OtherKind number table
  other_width : (width : ℤ) → number ≡ 2 → or_absent (pos 0) (i32_field table 0) ≡ Ok width → width ≢ pos 32 → width ≢ pos 64 → OtherKind number table
  other_unit : (unit : ℤ) → number ≡ 8 → or_absent (pos 1) (i16_field table 0) ≡ Ok unit → unit ≢ pos 0 → OtherKind number table
  other_number : number ≢ 2 → number ≢ 5 → number ≢ 6 → number ≢ 8 → OtherKind number table

-- a field with a dictionary, with a child, or of such a type
pub data OfOtherType (field : TableView) : Type 0 where
  has_dictionary : (place : ℕ) → field_at field.buffer field.place 4 ≡ Ok (Some place) → OfOtherType field
  has_children : (children : VectorView) → vector_field field 5 4 ≡ Ok (Some children) → children.count ≢ 0 → OfOtherType field
  of_other_kind : (number : ℕ) (table : TableView) → or_absent 0 (u8_field field 2) ≡ Ok number → table_field field 3 ≡ Ok (Some table) → OtherKind number table → OfOtherType field

-- ---- the law

-- tables aren't read exactly where a row of these says so, a message has another header exactly where one says so, and a field that is read
-- has no type exactly where it is of another one
pub record BadTablesAreTold : Type 0 where
  pub heads : (metadata : List ℕ) → (head_in metadata ≡ None) ↔ HeadBad metadata
  pub schemas : (schema : TableView) → (schema_in schema ≡ None) ↔ SchemaBad schema
  pub batches : (batch : TableView) → (batch_in batch ≡ None) ↔ BatchBad batch
  pub first : (head : Head) → (first_header head ≡ None) ↔ FirstBad head
  pub later : (head : Head) → (later_header head ≡ None) ↔ LaterBad head
  pub other_first : (head : Head) → (first_header head ≡ Some None) ↔ FirstOther head
  pub other_later : (head : Head) → (later_header head ≡ Some None) ↔ LaterOther head
  pub kinds : (fields : VectorView) (place : ℕ) (table : TableView) (field : FieldView) → item_table fields place ≡ Ok table → field_in fields place ≡ Some field → (field.kind ≡ None) ↔ OfOtherType table
