-- What the first fault of a batch's columns is, in the words of what a column holds.
use Rattle.std.specs.Prelude.{◌≡◌, ◌↔◌, ◌⊎◌, ℕ, ◌+◌, ◌*◌, ◌<◌, ◌≤◌, ℤ, pos, List, [], ◌∷◌, length, Some, Ok, Err, IsUtf8}
use Rattle.cn_types.specs.Fit.{IsDay}
use Rattle.cn_types.specs.declared.value.DataType.{DataType}
use Rattle.cn_types.specs.declared.value.DataType.TheVariants as K
use Rattle.cn_types.specs.declared.schema.Field.{Field}
use Rattle.flat_tables.specs.Views.{TableView, VectorView}
use Rattle.flat_tables.specs.Reading.{i32_at, i64_at, item_bytes, vector_field}
use Rattle.arrow_ipc.specs.Holds.{BufferAt, BuffersAt, IsPresent, TextStands, AreLongEnough, buffer_count}
use Rattle.arrow_read.specs.declared.fault.ArrowFault.{ArrowFault}
use Rattle.arrow_read.specs.declared.fault.ArrowFault.TheVariants.{BadLength, BadBuffer, NotUtf8, BadDate}
use Rattle.arrow_read.specs.declared.batch.BatchTables.{BatchTables}
use Rattle.arrow_read.specs.Tables.{batch_in}
use Rattle.arrow_read.specs.Columns.{is_present, misses_below}
use Rattle.arrow_read.specs.Reading.{columns_in}

-- a column has a node of so many rows, which says so many nulls
pub record NodeSays (batch : TableView) (place count : ℕ) (nulls : ℤ) : Type 0 where
  pub vector : VectorView
  pub vector_is : vector_field batch 1 16 ≡ Ok (Some vector)
  pub within : place < vector.count
  pub length_is : i64_at (item_bytes vector place) 0 ≡ Ok (pos count)
  pub nulls_is : i64_at (item_bytes vector place) 8 ≡ Ok nulls

-- a column's buffers are those from `first` on; they are long enough, and as many rows are null as the node says
pub record BuffersSay (batch : TableView) (body : List ℕ) (count first : ℕ) (kind : DataType) (nulls : ℤ) (validity : List ℕ) (buffers : List (List ℕ)) : Type 0 where
  pub validity_at : BufferAt batch body first validity
  pub buffers_at : BuffersAt batch body (first + 1) buffers
  pub validity_long : (validity ≡ []) ⊎ (count ≤ 8 * length validity)
  pub long_enough : AreLongEnough kind count buffers
  pub nulls_are : nulls ≡ pos (misses_below count (is_present validity))

-- what stands at a row is no value: a text that isn't UTF-8, or a date out of range
abbrev pub IsNoValue : DataType → List (List ℕ) → ℕ → ℕ → ArrowFault → Type 0
IsNoValue K.Text (offsets ∷ texts ∷ []) place row fault = (text : List ℕ) × TextStands offsets texts row text × (¬ IsUtf8 text) × (fault ≡ NotUtf8 place row)
IsNoValue K.Date (numbers ∷ []) place row fault = (days : ℤ) × (i32_at numbers (4 * row) ≡ Ok days) × (¬ IsDay days) × (fault ≡ BadDate place row)
IsNoValue kind buffers place row fault = ⊥

abbrev pub CellFaulty : DataType → List ℕ → List (List ℕ) → ℕ → ℕ → ArrowFault → Type 0
CellFaulty kind validity buffers place row fault = IsPresent validity row × IsNoValue kind buffers place row fault

-- the first fault of a column
pub data ColumnFaulty (batch : TableView) (body : List ℕ) (count place first : ℕ) (kind : DataType) : ArrowFault → Type 0 where
  bad_length : ((nulls : ℤ) → ¬ NodeSays batch place count nulls) → ColumnFaulty batch body count place first kind (BadLength place)
  bad_buffer : (nulls : ℤ) → NodeSays batch place count nulls → ((validity : List ℕ) (buffers : List (List ℕ)) → ¬ BuffersSay batch body count first kind nulls validity buffers)
      → ColumnFaulty batch body count place first kind (BadBuffer place)
  bad_row : (nulls : ℤ) (validity : List ℕ) (buffers : List (List ℕ)) (row : ℕ) (fault : ArrowFault) → NodeSays batch place count nulls → BuffersSay batch body count first kind nulls validity buffers → row < count
      → ((before : ℕ) (other : ArrowFault) → before < row → ¬ CellFaulty kind validity buffers place before other) → CellFaulty kind validity buffers place row fault → ColumnFaulty batch body count place first kind fault

-- the first fault of the first column from the left that has one
abbrev pub ColumnsFaulty : TableView → List ℕ → ℕ → ℕ → ℕ → List Field → ArrowFault → Type 0
ColumnsFaulty batch body count place first [] fault = ⊥
ColumnsFaulty batch body count place first (field ∷ fields) fault =
    ColumnFaulty batch body count place first field.kind fault
    ⊎ (((other : ArrowFault) → ¬ ColumnFaulty batch body count place first field.kind other) × ColumnsFaulty batch body count (place + 1) (first + 1 + buffer_count field.kind) fields fault)

-- a batch's columns have a fault exactly where the first faulty column has it
abbrev pub ColumnFaultsAreFirst : Type 0
ColumnFaultsAreFirst =
    (header : TableView) (batch : BatchTables) (body : List ℕ) (fields : List Field) (fault : ArrowFault) → batch_in header ≡ Some batch → (columns_in batch body 0 0 fields ≡ Err fault) ↔ ColumnsFaulty header body batch.count 0 0 fields fault
