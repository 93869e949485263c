-- What the first fault of a message is, by rows in the order of the format's tests.
use Rattle.std.specs.Prelude.{◌≡◌, ◌≢◌, ◌↔◌, ℕ, ◌+◌, ◌<◌, ◌≤◌, ℤ, pos, ◌<ℤ◌, true, false, List, length, take, drop, slice_index, Option, None, Some, Ok, Err}
use Rattle.cn_types.specs.declared.schema.Schema.{Schema}
use Rattle.flat_tables.specs.Reading.{i32_at}
use Rattle.arrow_ipc.specs.Stream.{mark}
use Rattle.arrow_read.specs.declared.fault.ArrowFault.{ArrowFault}
use Rattle.arrow_read.specs.declared.fault.ArrowFault.TheVariants.{NotAMessage, BadTable, UnsupportedType, Compressed, Truncated}
use Rattle.arrow_read.specs.declared.head.Head.{Head}
use Rattle.arrow_read.specs.declared.batch.BatchTables.{BatchTables}
use Rattle.arrow_read.specs.Tables.{FieldView, head_in, first_header, later_header}
use Rattle.arrow_read.specs.Reading.{metadata_at, unsupported, first_message, next_batch}
use Rattle.arrow_read.specs.BadTables.{HeadBad, FirstBad, LaterBad}
use Rattle.arrow_read.specs.ColumnFaults.{ColumnsFaulty}

-- ---- the metadata

-- the first bytes from a place on, up to 4, are those of the mark
abbrev pub BeginsAsMessage : List ℕ → ℕ → Type 0
BeginsAsMessage bytes at = (i : ℕ) → i < 4 → at + i < length bytes → slice_index bytes (at + i) ≡ 255

-- the mark, the size of the metadata and the metadata stand at a place
pub record MetadataAt (bytes : List ℕ) (at size : ℕ) : Type 0 where
  pub mark_is : take 4 (drop at bytes) ≡ mark
  pub size_is : i32_at bytes (at + 4) ≡ Ok (pos size)
  pub within : at + 8 + size ≤ length bytes

-- they don't: other bytes, a negative size, no size, or fewer bytes than the size
pub data MetadataFaulty (bytes : List ℕ) (at : ℕ) : ArrowFault → Type 0 where
  other_mark : ¬ BeginsAsMessage bytes at → MetadataFaulty bytes at (NotAMessage at)
  negative_size : (size : ℤ) → BeginsAsMessage bytes at → i32_at bytes (at + 4) ≡ Ok size → size <ℤ pos 0 → MetadataFaulty bytes at (NotAMessage at)
  no_size : BeginsAsMessage bytes at → length bytes < at + 8 → MetadataFaulty bytes at Truncated
  cut : (size : ℕ) → BeginsAsMessage bytes at → i32_at bytes (at + 4) ≡ Ok (pos size) → length bytes < at + 8 + size → MetadataFaulty bytes at Truncated

-- ---- the first message

-- its tables: the message's and the schema's fields, if there is one that can be read
pub record FirstTables (bytes : List ℕ) (size : ℕ) (head : Head) (fields : Option (List FieldView)) : Type 0 where
  pub metadata : MetadataAt bytes 0 size
  pub not_end : size ≢ 0
  pub head_is : head_in (metadata_at bytes 0 size) ≡ Some head
  pub fields_are : first_header head ≡ Some fields

pub data FirstFaulty (bytes : List ℕ) : ArrowFault → Type 0 where
  first_metadata : (fault : ArrowFault) → MetadataFaulty bytes 0 fault → FirstFaulty bytes fault
  first_ended : MetadataAt bytes 0 0 → FirstFaulty bytes Truncated
  first_headless : (size : ℕ) → MetadataAt bytes 0 size → size ≢ 0 → HeadBad (metadata_at bytes 0 size) → FirstFaulty bytes (BadTable 0)
  first_without_schema : (size : ℕ) (head : Head) → MetadataAt bytes 0 size → size ≢ 0 → head_in (metadata_at bytes 0 size) ≡ Some head → FirstBad head → FirstFaulty bytes (BadTable 0)
  first_of_other_header : (size : ℕ) (head : Head) → FirstTables bytes size head None → FirstFaulty bytes (UnsupportedType 0)
  first_of_other_type : (size : ℕ) (head : Head) (fields : List FieldView) (place : ℕ) → FirstTables bytes size head (Some fields) → unsupported fields ≡ Some place → FirstFaulty bytes (UnsupportedType place)
  first_cut : (size : ℕ) (head : Head) (fields : List FieldView) → FirstTables bytes size head (Some fields) → unsupported fields ≡ None → length bytes < 8 + size + head.body → FirstFaulty bytes Truncated

-- ---- a later message

-- its tables: the message's and the batch's, if there is one
pub record LaterTables (bytes : List ℕ) (at size : ℕ) (head : Head) (batch : Option BatchTables) : Type 0 where
  pub not_over : at ≢ length bytes
  pub metadata : MetadataAt bytes at size
  pub not_end : size ≢ 0
  pub head_is : head_in (metadata_at bytes at size) ≡ Some head
  pub batch_is : later_header head ≡ Some batch

pub data LaterFaulty (bytes : List ℕ) (schema : Schema) (at : ℕ) : ArrowFault → Type 0 where
  later_metadata : (fault : ArrowFault) → at ≢ length bytes → MetadataFaulty bytes at fault → LaterFaulty bytes schema at fault
  later_headless : (size : ℕ) → at ≢ length bytes → MetadataAt bytes at size → size ≢ 0 → HeadBad (metadata_at bytes at size) → LaterFaulty bytes schema at (BadTable at)
  later_without_batch : (size : ℕ) (head : Head) → at ≢ length bytes → MetadataAt bytes at size → size ≢ 0 → head_in (metadata_at bytes at size) ≡ Some head → LaterBad head → LaterFaulty bytes schema at (BadTable at)
  later_of_other_header : (size : ℕ) (head : Head) → LaterTables bytes at size head None → LaterFaulty bytes schema at (UnsupportedType 0)
  later_compressed : (size : ℕ) (head : Head) (batch : BatchTables) → LaterTables bytes at size head (Some batch) → batch.compressed ≡ true → LaterFaulty bytes schema at Compressed
  later_cut : (size : ℕ) (head : Head) (batch : BatchTables) → LaterTables bytes at size head (Some batch) → batch.compressed ≡ false → length bytes < at + 8 + size + head.body → LaterFaulty bytes schema at Truncated
  later_columns : (size : ℕ) (head : Head) (batch : BatchTables) (fault : ArrowFault) → LaterTables bytes at size head (Some batch) → batch.compressed ≡ false → at + 8 + size + head.body ≤ length bytes
      → ColumnsFaulty head.header (take head.body (drop (at + 8 + size) bytes)) batch.count 0 0 schema.0 fault → LaterFaulty bytes schema at fault

-- ---- the law

-- messages have the faults of these rows, and no others
pub record MessageFaultsAreFirst : Type 0 where
  pub first : (bytes : List ℕ) (fault : ArrowFault) → (first_message bytes ≡ Err fault) ↔ FirstFaulty bytes fault
  pub later : (bytes : List ℕ) (schema : Schema) (at : ℕ) (fault : ArrowFault) → (next_batch bytes schema at ≡ Err fault) ↔ LaterFaulty bytes schema at fault
