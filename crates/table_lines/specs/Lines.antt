-- The lines that make tables.
use Rattle.std.specs.Prelude.{◌≡◌, ◌⊎◌, ℕ, ◌+◌, ◌-◌, slice_get, slice_set, All, true, ◌&&◌, ◌==◌, if◌then◌else◌, List, [], ◌∷◌, ◌++◌, take, drop, map, length, slice_index, bytes_eq, codes, IsUtf8, Option, Some, None, option_map, option_and_then, unwrap_or}
use Rattle.std.specs.List.{prefix_len, slice_split, IsDistinct}
use Rattle.table_lines.specs.declared.lines.LinedTable.{LinedTable}
use Rattle.cn_types.specs.declared.value.DataType.{DataType}
use Rattle.cn_types.specs.declared.value.DataType.TheVariants as kind
use Rattle.cn_types.specs.declared.value.Value.{Value}
use Rattle.cn_types.specs.declared.row.Row.{Row}
use Rattle.cn_types.specs.declared.schema.Field.{Field}
use Rattle.cn_types.specs.declared.schema.Schema.{Schema}
use Rattle.cn_types.specs.Spelled.{Spells}
use Rattle.plan_tokens.specs.Bytes.{is_letter, is_word_byte, is_word}
use Rattle.table_store.specs.declared.tables.NamedTable.{NamedTable}
use Rattle.table_store.specs.Names.{table_named, folded}
use Rattle.cn_types.specs.Fit.{Fits}

-- the pieces that are left: none behind the last
abbrev pub pieces_left : ℕ → Option (List ℕ) → List (List ℕ)
pieces_left separator None = []
pieces_left separator (Some rest) = slice_split (λ b. b == separator) rest

-- what stands behind the first byte
abbrev pub behind_first : List ℕ → Option (List ℕ)
behind_first [] = None
behind_first (b ∷ bytes) = Some bytes

-- ---- table lines

-- the type of a word
abbrev pub kind_of_word : List ℕ → Option DataType
kind_of_word word =
    if bytes_eq word (codes "integer") then Some kind.Integer
    else (if bytes_eq word (codes "long") then Some kind.Long
    else (if bytes_eq word (codes "string") then Some kind.Text
    else (if bytes_eq word (codes "boolean") then Some kind.Boolean
    else (if bytes_eq word (codes "date") then Some kind.Date else None))))

-- the column of `NAME:TYPE`, where the name is the longest word at the front: 58 is `:`. It may have nulls
abbrev pub column_of : List ℕ → Option Field
column_of piece =
    if is_letter (slice_index piece 0) && slice_index piece (prefix_len is_word_byte piece) == 58
    then option_map (λ kind. record { name = take (prefix_len is_word_byte piece) piece; kind = kind; nullable = true }) (kind_of_word (drop (prefix_len is_word_byte piece + 1) piece))
    else None

-- the columns of all pieces
abbrev pub columns_of : List (List ℕ) → Option (List Field)
columns_of [] = Some []
columns_of (piece ∷ pieces) = option_and_then (λ field. option_map (λ fields. field ∷ fields) (columns_of pieces)) (column_of piece)

-- a table with these columns, of which there is at least one, and no row
abbrev pub made_of : List ℕ → List Field → Option LinedTable
made_of name [] = None
made_of name (field ∷ fields) = Some (record { name = name; schema = record { 0 = field ∷ fields }; rows = [] })

-- the table of the words of a line: `table`, its name, and its columns
abbrev pub table_of_words : List (List ℕ) → Option LinedTable
table_of_words (first ∷ name ∷ columns) = if bytes_eq first (codes "table") && is_word name then option_and_then (made_of name) (columns_of columns) else None
table_of_words words = None

-- the table of a line, whose words are parted by single spaces
abbrev pub table_of_line : List ℕ → Option LinedTable
table_of_line line = table_of_words (slice_split (λ b. b == 32) line)

-- ---- row lines

-- a piece is what a value of the type, or null, is printed as
abbrev pub IsCell : DataType → List ℕ → Value → Type 0
IsCell kind piece value = IsUtf8 piece × Spells kind piece value

-- one piece and one value for each column
abbrev pub AreCells : List Field → List (List ℕ) → List Value → Type 0
AreCells [] [] [] = Unit {0}
AreCells (field ∷ fields) (piece ∷ pieces) (value ∷ values) = IsCell field.kind piece value × AreCells fields pieces values
AreCells fields pieces values = ⊥

-- `row `, and the values of a row with TABs between them, as they are printed
pub record IsRowLine (schema : Schema) (line : List ℕ) (row : Row) : Type 0 where
  pub begins : take 4 line ≡ codes "row "
  pub cells : AreCells schema.0 (slice_split (λ b. b == 9) (drop 4 line)) row.0

-- ---- the lines after one another

-- a table as it stands among tables
abbrev pub as_named : LinedTable → NamedTable
as_named table = record { name = table.name; schema = table.schema; rows = table.rows }

abbrev pub named_of : List LinedTable → List NamedTable
named_of tables = map as_named tables

-- a table's name, folded
abbrev pub lined_name : LinedTable → List ℕ
lined_name table = folded table.name

-- no two names fold to one, and the rows of each table fit its columns
abbrev pub CanStand : List LinedTable → Type 0
CanStand tables = IsDistinct bytes_eq (map lined_name tables) × All (λ table. All (Fits table.schema) table.rows) tables

-- a `table` line, whose name is new as names fold: the tables have its table behind them
pub record AddsTable (before : List LinedTable) (line : List ℕ) (after : List LinedTable) : Type 0 where
  pub table : LinedTable
  pub line_is : table_of_line line ≡ Some table
  pub new_name : table_named table.name (named_of before) ≡ None
  pub added : after ≡ before ++ table ∷ []

-- the table with one row more
abbrev pub with_row : Row → LinedTable → LinedTable
with_row row table = record table { rows = table.rows ++ row ∷ [] }

-- the last table
abbrev pub last_table : List LinedTable → Option LinedTable
last_table tables = slice_get tables (length tables - 1)

-- the row that a `row` line adds to the last table
pub record IsRowForLast (tables : List LinedTable) (line : List ℕ) (row : Row) : Type 0 where
  pub last : LinedTable
  pub last_is : last_table tables ≡ Some last
  pub line_is : IsRowLine last.schema line row

-- there is a last table, whose columns the row fits
pub record LastTakes (tables : List LinedTable) (row : Row) : Type 0 where
  pub last : LinedTable
  pub last_is : last_table tables ≡ Some last
  pub fits : Fits last.schema row

-- the tables after a row is added to the last
abbrev pub with_last_row : Row → List LinedTable → List LinedTable
with_last_row row tables = unwrap_or (option_map (λ last. slice_set tables (length tables - 1) (with_row row last)) (last_table tables)) tables

-- a `row` line: the last table has its row behind its rows
pub record AddsRow (before : List LinedTable) (line : List ℕ) (after : List LinedTable) : Type 0 where
  pub row : Row
  pub line_is : IsRowForLast before line row
  pub added : after ≡ with_last_row row before

-- the line is one that tables are made by, in its place behind those that made the tables before
abbrev pub Takes : List LinedTable → List ℕ → List LinedTable → Type 0
Takes before line after = AddsTable before line after ⊎ AddsRow before line after
