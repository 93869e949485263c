-- What the buffers of a batch's columns hold (Arrow Columnar Format, "Physical Memory Layout"), one cell at a time, and which of them are
-- sound.
use Rattle.std.specs.Prelude.{ℕ, zero, suc, ◌+◌, ◌-◌, ◌*◌, ◌/◌, ◌%◌, ◌==◌, nat_le, nat_lt, ℤ, pos, int_le, Bool, true, ◌||◌, ◌&&◌, if◌then◌else◌, List, [], length, take, drop, map, Option, None, Some, is_some, slice_index, unwrap_or}
use Rattle.std.specs.Result.{result_ok}
use Rattle.std.specs.List.{range_with_len}
use Rattle.std.specs.Ordering.{int_eq}
use Rattle.std.specs.Int.{bit_at}
use Rattle.cn_types.specs.Fit.{first_day, last_day}
use Rattle.cn_types.specs.declared.value.Value.{Value}
use Rattle.cn_types.specs.declared.value.Value.TheVariants as V
use Rattle.cn_types.specs.declared.value.DataType.{DataType}
use Rattle.cn_types.specs.declared.value.DataType.TheVariants as K
use Rattle.cn_types.specs.declared.row.Row.{Row}
use Rattle.flat_tables.specs.Views.{VectorView}
use Rattle.flat_tables.specs.Reading.{i32_at, i64_at, item_bytes}
use Rattle.arrow_read.specs.declared.fault.ArrowFault.{ArrowFault}
use Rattle.arrow_read.specs.declared.fault.ArrowFault.TheVariants.{NotUtf8, BadDate}
use Rattle.arrow_read.specs.declared.pair.Pair.{Pair}
use Rattle.arrow_read.specs.declared.batch.BatchTables.{BatchTables}
use Rattle.arrow_read.specs.Tables.{◌>>=◌, not_negative, utf8}

-- ---- buffers in the body

-- the two numbers of an item of a vector, which has it
unfoldable pub pair_in : VectorView → ℕ → Option Pair
pair_in vector place =
    if nat_lt place vector.count then (do
      first ← result_ok (i64_at (item_bytes vector place) 0)
      second ← result_ok (i64_at (item_bytes vector place) 8)
      Some (record { first = first; second = second }))
    else None

abbrev pub pair_at : Option VectorView → ℕ → Option Pair
pair_at (Some vector) place = pair_in vector place
pair_at None place = None

-- so many bytes of the body from a place on, all of which it has
unfoldable pub span_of : List ℕ → Pair → Option (List ℕ)
span_of body span = do
  offset ← not_negative span.first
  size ← not_negative span.second
  if nat_le (offset + size) (length body) then Some (take size (drop offset body)) else None

-- the buffer of a number
unfoldable pub buffer_at : Option VectorView → List ℕ → ℕ → Option (List ℕ)
buffer_at spans body number = do
  span ← pair_at spans number
  span_of body span

-- ---- cells

-- a column's buffers: its validity, the one behind it, and the texts, if it has them
pub record ColumnView : Type 0 where
  pub kind : DataType
  pub validity : List ℕ
  pub values : List ℕ
  pub texts : List ℕ

-- the bit of a row, the least of each byte first; there is none past the end
abbrev pub bit_in : List ℕ → ℕ → Bool
bit_in bits row = bit_at (slice_index bits (row / 8)) (row % 8) == 1

-- a validity buffer without bytes says that there is no null
abbrev pub is_present : List ℕ → ℕ → Bool
is_present validity row = length validity == 0 || bit_in validity row

-- the numbers that stand at a row's place
abbrev pub number_4 : List ℕ → ℕ → Option ℤ
number_4 numbers row = result_ok (i32_at numbers (4 * row))

abbrev pub number_8 : List ℕ → ℕ → Option ℤ
number_8 numbers row = result_ok (i64_at numbers (8 * row))

-- the bytes from one offset to another, if they lie in the texts
unfoldable pub text_between : List ℕ → ℤ → ℤ → Option (List ℕ)
text_between texts first second = do
  from ← not_negative first
  to ← not_negative second
  if nat_le from to && nat_le to (length texts) then Some (take (to - from) (drop from texts)) else None

-- the text of a row: from its offset to the next
unfoldable pub text_at : List ℕ → List ℕ → ℕ → Option (List ℕ)
text_at offsets texts row = do
  from ← number_4 offsets row
  to ← number_4 offsets (row + 1)
  text_between texts from to

-- the same, if it is UTF-8
unfoldable pub utf8_at : List ℕ → List ℕ → ℕ → Option (List ℕ)
utf8_at offsets texts row = do
  text ← text_at offsets texts row
  utf8 text

abbrev pub text_value : Option (List ℕ) → Value
text_value (Some text) = V.Text text
text_value None = V.Null

-- the value that stands at a row: one line for each type
unfoldable pub value_in : ColumnView → ℕ → Value
value_in column row = stands column.kind
  where
    stands : DataType → Value
    stands K.Boolean = V.Boolean (bit_in column.values row)
    stands K.Integer = V.Integer (unwrap_or (number_4 column.values row) (pos 0))
    stands K.Long = V.Long (unwrap_or (number_8 column.values row) (pos 0))
    stands K.Text = text_value (utf8_at column.values column.texts row)
    stands K.Date = V.Date (unwrap_or (number_4 column.values row) (pos 0))

-- a cell: null, or its value
unfoldable pub cell : ColumnView → ℕ → Value
cell column row = if is_present column.validity row then value_in column row else V.Null

-- the rows: each has one cell of each column
abbrev pub row_of : List ColumnView → ℕ → Row
row_of columns row = record { 0 = map (λ column. cell column row) columns }

abbrev pub rows_of : List ColumnView → ℕ → List Row
rows_of columns count = map (row_of columns) (range_with_len 0 count)

-- ---- sound buffers

-- the texts' buffer, which only a column of texts has
abbrev pub texts_of : DataType → Option (List ℕ) → Option (List ℕ)
texts_of K.Boolean texts = Some []
texts_of K.Integer texts = Some []
texts_of K.Long texts = Some []
texts_of K.Text texts = texts
texts_of K.Date texts = Some []

-- a column's buffers, from the one of this number on
unfoldable pub buffers_in : BatchTables → List ℕ → ℕ → DataType → Option ColumnView
buffers_in batch body first kind = do
  validity ← buffer_at batch.spans body first
  values ← buffer_at batch.spans body (first + 1)
  texts ← texts_of kind (buffer_at batch.spans body (first + 2))
  Some (record { kind = kind; validity = validity; values = values; texts = texts })

-- whether a test holds of all numbers below one, and of how many it doesn't
abbrev pub all_below : ℕ → (ℕ → Bool) → Bool
all_below zero test = true
all_below (suc count) test = all_below count test && test count

abbrev pub misses_below : ℕ → (ℕ → Bool) → ℕ
misses_below zero test = 0
misses_below (suc count) test = misses_below count test + (if test count then 0 else 1)

-- so many bits, or numbers of 4 or 8 bytes
abbrev pub has_bits : ℕ → List ℕ → Bool
has_bits count bits = nat_le count (8 * length bits)

abbrev pub has_4s : ℕ → List ℕ → Bool
has_4s count numbers = nat_le (4 * count) (length numbers)

abbrev pub has_8s : ℕ → List ℕ → Bool
has_8s count numbers = nat_le (8 * count) (length numbers)

-- the offset of a row doesn't fall to the next, and lies in the texts with it
abbrev pub is_text_place : List ℕ → List ℕ → ℕ → Bool
is_text_place offsets texts row = is_some (text_at offsets texts row)

-- the first offset, if it lies in the texts
unfoldable pub first_offset : List ℕ → List ℕ → Option ℕ
first_offset offsets texts = do
  number ← number_4 offsets 0
  from ← not_negative number
  if nat_le from (length texts) then Some from else None

-- no row and no offset, or a first offset and those of all rows
unfoldable pub has_offsets : ℕ → List ℕ → List ℕ → Bool
has_offsets count offsets texts =
    (count == 0 && length offsets == 0) || (is_some (first_offset offsets texts) && all_below count (is_text_place offsets texts))

-- the buffer behind the validity is long enough for so many rows
unfoldable pub is_long_enough : ℕ → ColumnView → Bool
is_long_enough count column = long column.kind
  where
    long : DataType → Bool
    long K.Boolean = has_bits count column.values
    long K.Integer = has_4s count column.values
    long K.Long = has_8s count column.values
    long K.Text = has_offsets count column.values column.texts
    long K.Date = has_4s count column.values

-- a number that a pair has
abbrev pub is_number : ℤ → ℕ → Bool
is_number number count = int_eq number (pos count)

-- how many nulls a column has, if its node has the batch's length
abbrev pub nulls_of : ℕ → Option Pair → Option ℤ
nulls_of count (Some node) = if is_number node.first count then Some node.second else None
nulls_of count None = None

-- all buffers are long enough, and as many rows are null as the node says
unfoldable pub is_sound : ℕ → ℤ → ColumnView → Bool
is_sound count nulls column =
    (length column.validity == 0 || has_bits count column.validity) && is_long_enough count column && is_number nulls (misses_below count (is_present column.validity))

-- ---- rows that are no values

-- the day of a date, from 0001-01-01 to 9999-12-31
abbrev pub is_day : ℤ → Bool
is_day days = int_le first_day days && int_le days last_day

abbrev pub text_fault : ℕ → ℕ → Option (List ℕ) → Option ArrowFault
text_fault place row (Some text) = None
text_fault place row None = Some (NotUtf8 place row)

abbrev pub date_fault : ℕ → ℕ → ℤ → Option ArrowFault
date_fault place row days = if is_day days then None else Some (BadDate place row)

-- a present text that isn't UTF-8, or a present date that isn't in range
unfoldable pub row_fault : ℕ → ColumnView → ℕ → Option ArrowFault
row_fault place column row = if is_present column.validity row then fault column.kind else None
  where
    fault : DataType → Option ArrowFault
    fault K.Boolean = None
    fault K.Integer = None
    fault K.Long = None
    fault K.Text = text_fault place row (utf8_at column.values column.texts row)
    fault K.Date = date_fault place row (unwrap_or (number_4 column.values row) (pos 0))

-- the first fault of the rows below a number
abbrev pub later : Option ArrowFault → Option ArrowFault → Option ArrowFault
later (Some fault) next = Some fault
later None next = next

abbrev pub first_fault : ℕ → (ℕ → Option ArrowFault) → Option ArrowFault
first_fault zero faults = None
first_fault (suc count) faults = later (first_fault count faults) (faults count)
