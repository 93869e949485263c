-- What a stream is read as, or the first fault in the order of the format's tests (Arrow Columnar Format, "IPC Streaming Format" and
-- "Encapsulated message format").
use Rattle.std.specs.Prelude.{ℕ, zero, suc, ◌+◌, ◌-◌, ◌==◌, nat_le, ℤ, Bool, if◌then◌else◌, List, [], ◌∷◌, length, take, drop, map, Option, None, Some, Result, Ok, Err, is_none, unwrap_or, position}
use Rattle.std.specs.Result.{result_ok}
use Rattle.std.specs.List.{list_all, flat_map}
use Rattle.cn_types.specs.declared.value.DataType.{DataType}
use Rattle.cn_types.specs.declared.value.DataType.TheVariants as K
use Rattle.cn_types.specs.declared.row.Row.{Row}
use Rattle.cn_types.specs.declared.schema.Field.{Field}
use Rattle.cn_types.specs.declared.schema.Schema.{Schema}
use Rattle.flat_tables.specs.Reading.{i32_at}
use Rattle.arrow_ipc.specs.Holds.{buffer_count}
use Rattle.arrow_read.specs.declared.fault.ArrowFault.{ArrowFault}
use Rattle.arrow_read.specs.declared.fault.ArrowFault.TheVariants.{NotAMessage, BadTable, UnsupportedType, Compressed, BadBuffer, BadLength, Truncated, BatchCount}
use Rattle.arrow_read.specs.declared.want.Batches.{Batches}
use Rattle.arrow_read.specs.declared.want.Batches.TheVariants.{ExactlyOne, Any}
use Rattle.arrow_read.specs.declared.part.Part.{Part}
use Rattle.arrow_read.specs.declared.batch.BatchTables.{BatchTables}
use Rattle.arrow_read.specs.Tables.{FieldView, not_negative, head_in, first_header, later_header}
use Rattle.arrow_read.specs.Columns.{ColumnView, pair_at, nulls_of, buffers_in, is_sound, row_fault, first_fault, rows_of}

-- one step after another: the first fault stops
infixl 10 ◌>>=◌
abbrev pub ◌>>=◌ : {A B : Type 0} → Result A ArrowFault → (A → Result B ArrowFault) → Result B ArrowFault
(Ok x) >>= f = f x
(Err e) >>= f = Err e

-- what is there, or this fault
abbrev pub or_fault : {A : Type 0} → ArrowFault → Option A → Result A ArrowFault
or_fault fault (Some x) = Ok x
or_fault fault None = Err fault

-- ---- a message at a place

-- its first bytes, up to 4, are those of the mark
abbrev pub begins_as_message : List ℕ → Bool
begins_as_message bytes = list_all (λ byte. byte == 255) (take 4 bytes)

-- the size of the metadata, if the input has so many bytes
abbrev pub if_whole : List ℕ → ℕ → ℕ → Result ℕ ArrowFault
if_whole bytes at size = if nat_le (at + 8 + size) (length bytes) then Ok size else Err Truncated

unfoldable pub metadata_size : List ℕ → ℕ → Result ℕ ArrowFault
metadata_size bytes at =
    if begins_as_message (drop at bytes) then (do
      number ← or_fault Truncated (result_ok (i32_at bytes (at + 4)))
      size ← or_fault (NotAMessage at) (not_negative number)
      if_whole bytes at size)
    else Err (NotAMessage at)

abbrev pub metadata_at : List ℕ → ℕ → ℕ → List ℕ
metadata_at bytes at size = take size (drop (at + 8) bytes)

-- a body of a size from a place on, if the input has so many bytes
abbrev pub body_at : List ℕ → ℕ → ℕ → Result (List ℕ) ArrowFault
body_at bytes at size = if nat_le (at + size) (length bytes) then Ok (take size (drop at bytes)) else Err Truncated

-- the bytes that a slice has
abbrev pub seen_bytes : {S : Type 0} → (S → List ℕ) → Result S ArrowFault → Result (List ℕ) ArrowFault
seen_bytes bytes (Ok slice) = Ok (bytes slice)
seen_bytes bytes (Err e) = Err e

-- ---- the schema

-- the first field of another type
abbrev pub unsupported : List FieldView → Option ℕ
unsupported fields = position (λ field. is_none field.kind) fields

abbrev pub field_of : FieldView → Field
field_of field = record { name = field.name; kind = unwrap_or field.kind K.Text; nullable = field.nullable }

abbrev pub if_supported : List FieldView → Option ℕ → Result Schema ArrowFault
if_supported fields (Some place) = Err (UnsupportedType place)
if_supported fields None = Ok (record { 0 = map field_of fields })

-- the schema of the fields. Another header and big-endian numbers are faults of field 0
abbrev pub schema_of : Option (List FieldView) → Result Schema ArrowFault
schema_of (Some fields) = if_supported fields (unsupported fields)
schema_of None = Err (UnsupportedType 0)

-- the end mark in its place is an input that ends
abbrev pub if_more : ℕ → Result ℕ ArrowFault
if_more size = if size == 0 then Err Truncated else Ok size

-- what the first message says, and where the next one stands
unfoldable pub first_message : List ℕ → Result (Schema × ℕ) ArrowFault
first_message bytes = do
  size ← metadata_size bytes 0
  more ← if_more size
  head ← or_fault (BadTable 0) (head_in (metadata_at bytes 0 size))
  fields ← or_fault (BadTable 0) (first_header head)
  schema ← schema_of fields
  body ← body_at bytes (8 + size) head.body
  Ok (schema, 8 + size + head.body)

-- ---- a batch

-- the batch's tables, if it isn't compressed. Another header is a fault of field 0
abbrev pub if_plain : Option BatchTables → Result BatchTables ArrowFault
if_plain (Some batch) = if batch.compressed then Err Compressed else Ok batch
if_plain None = Err (UnsupportedType 0)

abbrev pub if_sound : ℕ → ℤ → ℕ → ColumnView → Result ColumnView ArrowFault
if_sound count nulls place column = if is_sound count nulls column then Ok column else Err (BadBuffer place)

abbrev pub if_values : ColumnView → Option ArrowFault → Result ColumnView ArrowFault
if_values column (Some fault) = Err fault
if_values column None = Ok column

-- a column: first its node, then its buffers, then its rows
unfoldable pub column_in : BatchTables → List ℕ → ℕ → ℕ → DataType → Result ColumnView ArrowFault
column_in batch body place first kind = do
  nulls ← or_fault (BadLength place) (nulls_of batch.count (pair_at batch.nodes place))
  buffers ← or_fault (BadBuffer place) (buffers_in batch body first kind)
  column ← if_sound batch.count nulls place buffers
  if_values column (first_fault batch.count (row_fault place column))

-- the columns from one on, whose fields these are, from the left
abbrev pub columns_in : BatchTables → List ℕ → ℕ → ℕ → List Field → Result (List ColumnView) ArrowFault
columns_in batch body place first [] = Ok []
columns_in batch body place first (field ∷ fields) =
    column_in batch body place first field.kind >>= λ column.
    columns_in batch body (place + 1) (first + 1 + buffer_count field.kind) fields >>= λ columns.
    Ok (column ∷ columns)

-- the batch of a message whose metadata has this size
unfoldable pub batch_at : List ℕ → Schema → ℕ → ℕ → Result Part ArrowFault
batch_at bytes schema at size = do
  head ← or_fault (BadTable at) (head_in (metadata_at bytes at size))
  header ← or_fault (BadTable at) (later_header head)
  batch ← if_plain header
  body ← body_at bytes (at + 8 + size) head.body
  columns ← columns_in batch body 0 0 schema.0
  Ok (record { columns = columns; count = batch.count; next = at + 8 + size + head.body })

abbrev pub one_more : Part → Result (Option Part) ArrowFault
one_more part = Ok (Some part)

-- the end mark, or a batch
abbrev pub mark_or_batch : List ℕ → Schema → ℕ → ℕ → Result (Option Part) ArrowFault
mark_or_batch bytes schema at size = if size == 0 then Ok None else (batch_at bytes schema at size >>= one_more)

-- the batch at a place, or none where the stream ends
unfoldable pub next_batch : List ℕ → Schema → ℕ → Result (Option Part) ArrowFault
next_batch bytes schema at =
    if at == length bytes then Ok None else (metadata_size bytes at >>= mark_or_batch bytes schema at)

-- ---- the stream

-- a batch's rows, and those of the batches from the next place on
abbrev pub and_more : (ℕ → Result (List (List Row)) ArrowFault) → Option Part → Result (List (List Row)) ArrowFault
and_more batches None = Ok []
and_more batches (Some part) = batches part.next >>= λ more. Ok (rows_of part.columns part.count ∷ more)

-- the rows of each of the batches from a place on, of which there are at most so many
abbrev pub batches_to : ℕ → List ℕ → Schema → ℕ → Result (List (List Row)) ArrowFault
batches_to zero bytes schema at = Ok []
batches_to (suc most) bytes schema at = next_batch bytes schema at >>= and_more (batches_to most bytes schema)

-- a message has more than one byte, so the bytes that are left bound their number
unfoldable pub batches_from : List ℕ → Schema → ℕ → Result (List (List Row)) ArrowFault
batches_from bytes schema at = batches_to (suc (length bytes - at)) bytes schema at

-- the rows of all batches in order, and how many batches there are
abbrev pub gathered : Result (List (List Row)) ArrowFault → Result (List Row × ℕ) ArrowFault
gathered batches = batches >>= λ found. Ok (flat_map (λ rows. rows) found, length found)

-- how many batches are wanted
abbrev pub if_wanted : Batches → ℕ → Result (Unit {0}) ArrowFault
if_wanted ExactlyOne found = if found == 1 then Ok tt else Err (BatchCount found)
if_wanted Any found = Ok tt

-- what the bytes are read as
unfoldable pub stream_in : List ℕ → Batches → Result (Schema × List Row) ArrowFault
stream_in bytes want = do
  begun ← first_message bytes
  read ← gathered (batches_from bytes begun.0 begun.1)
  wanted ← if_wanted want read.1
  Ok (begun.0, read.0)
