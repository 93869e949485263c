-- The messages of what can be written can be put into a flatbuffer.
use Rattle.std.proofs.Common.{◌≡◌, ℕ, zero, suc, ◌+◌, ◌*◌, ◌^◌, ◌<◌, ◌≤◌, List, [], ◌∷◌, length, map, sum_by, arith, refl, ap, length-append}
use Rattle.std.specs.Prelude.{pos, unwrap_or, slice_get, if◌then◌else◌}
use Rattle.std.specs.List.{AllByRecursion}
use Rattle.std.proofs.lemmas.List.Elements.{All-from_recursion}
use Rattle.std.specs.List.{flat_map}
use Rattle.std.proofs.lemmas.List.Sums.{sum_by-cons}
use Rattle.std.proofs.lemmas.List.Concat.{length-flat_map}
use Rattle.cn_types.specs.declared.value.Value.{Value}
use Rattle.cn_types.specs.declared.value.Value.TheVariants as V
use Rattle.cn_types.specs.declared.value.DataType.{DataType}
use Rattle.cn_types.specs.declared.value.DataType.TheVariants as K
use Rattle.cn_types.specs.declared.row.Row.{Row}
use Rattle.cn_types.specs.declared.schema.Field.{Field}
use Rattle.cn_types.specs.declared.schema.Schema.{Schema}
use Rattle.flat_tables.specs.declared.object.FlatObject.{FlatObject}
use Rattle.flat_tables.specs.declared.object.FlatObject.TheVariants as O
use Rattle.flat_tables.specs.declared.object.FlatSlot.{FlatSlot}
use Rattle.flat_tables.specs.declared.object.FlatSlot.TheVariants.{Absent, U8, I16, I32, I64, Object}
use Rattle.flat_tables.specs.declared.object.FlatPair.{FlatPair}
use Rattle.flat_tables.specs.Layout.{layout, padded, CanBePut, IsTable, IsBuildable, OnNamed}
use Rattle.flat_tables.specs.ObjectSizes.{SizesAddUp, size}
use Rattle.flat_tables.specs.ObjectLaws.{IsTable-Table, IsBuildable-Table, IsBuildable-Tables, IsBuildable-Pairs, IsBuildable-Text}
use Rattle.cn_types.specs.Fit.{value_at}
use Rattle.arrow_ipc.specs.Columns.{cells, text_of, text_size, column_buffers, buffers_from, spans_from, nodes_from, body_of}
use Rattle.arrow_ipc.specs.Messages.{type_number, type_table, field_table, schema_table, batch_table, message_table, schema_message, batch_message}
use Rattle.arrow_ipc.specs.Stream.{CanBeWritten}

-- ---- texts

one_text : (column : ℕ) (vs : List Value) → text_size (unwrap_or (slice_get vs column) V.Null) ≤ sum_by text_size vs
one_text column [] = omega arith
one_text zero (v ∷ vs) = let h : text_size v ≤ sum_by text_size (v ∷ vs) = omega (arith, sum_by-cons text_size v vs) in h
one_text (suc n) (v ∷ vs) = let h : text_size (unwrap_or (slice_get vs n) V.Null) ≤ sum_by text_size (v ∷ vs) = omega (arith, one_text n vs, sum_by-cons text_size v vs) in h

-- the texts of a row
row_texts : Row → ℕ
row_texts row = sum_by text_size row.0

column_texts : (column : ℕ) (rows : List Row) → sum_by text_size (cells column rows) ≤ sum_by row_texts rows
unfolding row_texts
column_texts column [] = omega arith
column_texts column (row ∷ rows) =
    omega (arith, one_text column row.0, column_texts column rows, sum_by-cons text_size (value_at column row) (cells column rows), sum_by-cons row_texts row rows)

-- the texts of a column are no more than all
pub texts_fit : (schema : Schema) (rows : List Row) (column : ℕ) → CanBeWritten schema rows → sum_by text_size (cells column rows) < 2 ^ 32
unfolding row_texts
texts_fit schema rows column can = omega (arith, column_texts column rows, can.texts)

pub texts_below : (schema : Schema) (rows : List Row) (column : ℕ) → CanBeWritten schema rows → length (flat_map text_of (cells column rows)) < 2 ^ 31
unfolding row_texts
texts_below schema rows column can =
    let e : length (flat_map text_of (cells column rows)) ≡ sum_by text_size (cells column rows) = length-flat_map text_of (cells column rows) in
    omega (arith, column_texts column rows, can.texts)

-- ---- the schema's message

type_size : SizesAddUp → (kind : DataType) → size (type_table kind) ≤ 24
unfolding type_table
type_size s K.Boolean = omega (arith, s.table [])
type_size s K.Integer = omega (arith, s.table (I32 (pos 32) ∷ U8 1 ∷ []))
type_size s K.Long = omega (arith, s.table (I32 (pos 64) ∷ U8 1 ∷ []))
type_size s K.Text = omega (arith, s.table [])
type_size s K.Date = omega (arith, s.table (I16 (pos 0) ∷ []))

field_size : SizesAddUp → (field : Field) → size (field_table field) ≤ 96 + length field.name
unfolding field_table
field_size s field = omega (
  arith,
  s.table (Object (O.Text field.name) ∷ U8 (if field.nullable then 1 else 0) ∷ U8 (type_number field.kind) ∷ Object (type_table field.kind) ∷ Absent ∷ Object (O.Tables []) ∷ []),
  s.text field.name,
  type_size s field.kind,
  s.tables [],
)

name_size : Field → ℕ
name_size field = length field.name

fields_size : SizesAddUp → (fields : List Field) → sum_by size (map field_table fields) ≤ 96 * length fields + sum_by name_size fields
unfolding name_size
fields_size s [] = omega arith
fields_size s (field ∷ fields) =
    let one : length (field ∷ fields) ≡ length fields + 1 = omega arith in
    omega (arith, field_size s field, fields_size s fields, sum_by-cons size (field_table field) (map field_table fields), sum_by-cons name_size field fields)

length-fields : (fields : List Field) → length (map field_table fields) ≡ length fields
length-fields [] = refl
length-fields (field ∷ fields) = ap suc (length-fields fields)

schema_size : SizesAddUp → (schema : Schema) → size (schema_table schema) ≤ 48 + 100 * length schema.0 + sum_by (λ field. length field.name) schema.0
unfolding schema_table name_size
schema_size s schema = omega (arith, s.table (I16 (pos 0) ∷ Object (O.Tables (map field_table schema.0)) ∷ []), s.tables (map field_table schema.0), fields_size s schema.0, length-fields schema.0)

message_size : SizesAddUp → (number : ℕ) (header : FlatObject) (body : ℕ) → length (layout (message_table number header body)) ≤ 48 + size header
unfolding message_table
message_size s number header body = omega (arith, s.whole (O.Table (I16 (pos 4) ∷ U8 number ∷ Object header ∷ I64 (pos body) ∷ [])), s.table (I16 (pos 4) ∷ U8 number ∷ Object header ∷ I64 (pos body) ∷ []))

type_builds : (kind : DataType) → IsBuildable (type_table kind)
unfolding type_table
type_builds K.Boolean = IsBuildable-Table [] (omega arith) (All-from_recursion (OnNamed IsBuildable) [] tt)
type_builds K.Integer = IsBuildable-Table (I32 (pos 32) ∷ U8 1 ∷ []) (omega arith) (All-from_recursion (OnNamed IsBuildable) (I32 (pos 32) ∷ U8 1 ∷ []) (tt, (tt, tt)))
type_builds K.Long = IsBuildable-Table (I32 (pos 64) ∷ U8 1 ∷ []) (omega arith) (All-from_recursion (OnNamed IsBuildable) (I32 (pos 64) ∷ U8 1 ∷ []) (tt, (tt, tt)))
type_builds K.Text = IsBuildable-Table [] (omega arith) (All-from_recursion (OnNamed IsBuildable) [] tt)
type_builds K.Date = IsBuildable-Table (I16 (pos 0) ∷ []) (omega arith) (All-from_recursion (OnNamed IsBuildable) (I16 (pos 0) ∷ []) (tt, tt))

no_children : IsBuildable (O.Tables [])
no_children = IsBuildable-Tables [] (All-from_recursion IsTable [] tt) (All-from_recursion IsBuildable [] tt)

field_builds : (field : Field) → IsBuildable (field_table field)
unfolding field_table
field_builds field = IsBuildable-Table slots (omega arith) (All-from_recursion (OnNamed IsBuildable) slots (IsBuildable-Text field.name, (tt, (tt, (type_builds field.kind, (tt, (no_children, tt)))))))
  where
    slots : List (FlatSlot FlatObject)
    slots = Object (O.Text field.name) ∷ U8 (if field.nullable then 1 else 0) ∷ U8 (type_number field.kind) ∷ Object (type_table field.kind) ∷ Absent ∷ Object (O.Tables []) ∷ []

field_is_table : (field : Field) → IsTable (field_table field)
unfolding field_table
field_is_table field = IsTable-Table (Object (O.Text field.name) ∷ U8 (if field.nullable then 1 else 0) ∷ U8 (type_number field.kind) ∷ Object (type_table field.kind) ∷ Absent ∷ Object (O.Tables []) ∷ [])

all_fields : (P : FlatObject → Type 0) → ((field : Field) → P (field_table field)) → (fields : List Field) → AllByRecursion P (map field_table fields)
all_fields P h [] = tt
all_fields P h (field ∷ fields) = (h field, all_fields P h fields)

fields_build : (fields : List Field) → IsBuildable (O.Tables (map field_table fields))
fields_build fields =
    IsBuildable-Tables (map field_table fields) (All-from_recursion IsTable (map field_table fields) (all_fields IsTable field_is_table fields))
    (All-from_recursion IsBuildable (map field_table fields) (all_fields IsBuildable field_builds fields))

schema_builds : (schema : Schema) → IsBuildable (schema_table schema)
unfolding schema_table
schema_builds schema = IsBuildable-Table slots (omega arith) (All-from_recursion (OnNamed IsBuildable) slots (tt, (fields_build schema.0, tt)))
  where
    slots : List (FlatSlot FlatObject)
    slots = I16 (pos 0) ∷ Object (O.Tables (map field_table schema.0)) ∷ []

message_builds : (number : ℕ) (header : FlatObject) (body : ℕ) → IsBuildable header → IsBuildable (message_table number header body)
unfolding message_table
message_builds number header body h = IsBuildable-Table slots (omega arith) (All-from_recursion (OnNamed IsBuildable) slots (tt, (tt, (h, (tt, tt)))))
  where
    slots : List (FlatSlot FlatObject)
    slots = I16 (pos 4) ∷ U8 number ∷ Object header ∷ I64 (pos body) ∷ []

message_is_table : (number : ℕ) (header : FlatObject) (body : ℕ) → IsTable (message_table number header body)
unfolding message_table
message_is_table number header body = IsTable-Table (I16 (pos 4) ∷ U8 number ∷ Object header ∷ I64 (pos body) ∷ [])

pub schema_can_be_put : SizesAddUp → (schema : Schema) (rows : List Row) → CanBeWritten schema rows → CanBePut (schema_message schema)
unfolding schema_message
schema_can_be_put s schema rows can = record {
  table = message_is_table 1 (schema_table schema) 0;
  parts = message_builds 1 (schema_table schema) 0 (schema_builds schema);
  short = omega (arith, message_size s 1 (schema_table schema) 0, schema_size s schema, can.columns, can.texts);
}

-- ---- the batch's message

length-nodes : (column : ℕ) (fields : List Field) (rows : List Row) → length (nodes_from column fields rows) ≡ length fields
length-nodes column [] rows = refl
length-nodes column (field ∷ fields) rows = ap suc (length-nodes (column + 1) fields rows)

length-spans : (at : ℕ) (buffers : List (List ℕ)) → length (spans_from at buffers) ≡ length buffers
length-spans at [] = refl
length-spans at (buffer ∷ buffers) = ap suc (length-spans (at + length (padded buffer)) buffers)

few_buffers : (kind : DataType) (values : List Value) → length (column_buffers kind values) ≤ 3
unfolding column_buffers
few_buffers K.Boolean values = omega arith
few_buffers K.Integer values = omega arith
few_buffers K.Long values = omega arith
few_buffers K.Text values = omega arith
few_buffers K.Date values = omega arith

length-buffers : (column : ℕ) (fields : List Field) (rows : List Row) → length (buffers_from column fields rows) ≤ 3 * length fields
length-buffers column [] rows = omega arith
length-buffers column (field ∷ fields) rows = omega (arith, few_buffers field.kind (cells column rows), length-append (column_buffers field.kind (cells column rows)) (buffers_from (column + 1) fields rows), length-buffers (column + 1) fields rows)

batch_size : SizesAddUp → (count : ℕ) (nodes spans : List FlatPair) → size (batch_table count nodes spans) ≤ 72 + 16 * length nodes + 16 * length spans
unfolding batch_table
batch_size s count nodes spans = omega (arith, s.table (I64 (pos count) ∷ Object (O.Pairs nodes) ∷ Object (O.Pairs spans) ∷ []), s.pairs nodes, s.pairs spans)

batch_builds : (count : ℕ) (nodes spans : List FlatPair) → IsBuildable (batch_table count nodes spans)
unfolding batch_table
batch_builds count nodes spans = IsBuildable-Table slots (omega arith) (All-from_recursion (OnNamed IsBuildable) slots (tt, (IsBuildable-Pairs nodes, (IsBuildable-Pairs spans, tt))))
  where
    slots : List (FlatSlot FlatObject)
    slots = I64 (pos count) ∷ Object (O.Pairs nodes) ∷ Object (O.Pairs spans) ∷ []

pub batch_can_be_put : SizesAddUp → (schema : Schema) (rows : List Row) → CanBeWritten schema rows → CanBePut (batch_message schema rows)
unfolding batch_message
batch_can_be_put s schema rows can =
    let header : FlatObject = batch_table (length rows) (nodes_from 0 schema.0 rows) (spans_from 0 (buffers_from 0 schema.0 rows)) in
    let body : ℕ = length (body_of (buffers_from 0 schema.0 rows)) in
    record {
      table = message_is_table 3 header body;
      parts = message_builds 3 header body (batch_builds (length rows) (nodes_from 0 schema.0 rows) (spans_from 0 (buffers_from 0 schema.0 rows)));
      short = omega (arith, message_size s 3 header body, batch_size s (length rows) (nodes_from 0 schema.0 rows) (spans_from 0 (buffers_from 0 schema.0 rows)), length-nodes 0 schema.0 rows, length-spans 0 (buffers_from 0 schema.0 rows), length-buffers 0 schema.0 rows, can.columns);
    }
