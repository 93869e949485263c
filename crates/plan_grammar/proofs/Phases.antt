-- How far the columns of `values` are, where a symbol comes next.
use Rattle.std.proofs.Common.{◌≡◌, ℕ, ◌<◌, length}
use Rattle.std.specs.Prelude.{Bool, true, false, ◌&&◌, ◌⊎◌, List, [], ◌∷◌, Some}
use Rattle.cn_types.specs.declared.value.DataType.{DataType}
use Rattle.cn_types.specs.declared.value.DataType.TheVariants as kind
use Rattle.plan_grammar.specs.declared.symbol.Columns.{Columns}
use Rattle.plan_grammar.specs.declared.symbol.Symbol.{Symbol}
use Rattle.plan_grammar.specs.declared.symbol.Symbol.TheVariants as symbol
use Rattle.plan_grammar.specs.declared.symbol.PipelineSymbol.{PipelineSymbol}
use Rattle.plan_grammar.specs.declared.symbol.PipelineSymbol.TheVariants as pipelines
use Rattle.plan_grammar.specs.declared.symbol.ValuesSymbol.{ValuesSymbol}
use Rattle.plan_grammar.specs.declared.symbol.ValuesSymbol.TheVariants as valuess
use Rattle.plan_grammar.specs.Derivation.{wanted_of}

pub data Phase : Type 0 where
  Any : Phase
  Fresh : Phase
  Filled : Phase
  Wanting : Phase
  Signed : Phase
  InRow : Phase

abbrev pub HasColumns : Columns → Type 0
HasColumns columns = 0 < length columns.kinds

-- anything; no cell was taken; and there are columns; a cell is wanted; digits are wanted; there are columns
abbrev pub Holds : Phase → Columns → Type 0
Holds Any columns = Unit {0}
Holds Fresh columns = columns.cells ≡ 0
Holds Filled columns = (columns.cells ≡ 0) × HasColumns columns
Holds Wanting columns = (kind : DataType) × (wanted_of columns ≡ Some kind)
Holds Signed columns = (wanted_of columns ≡ Some kind.Integer) ⊎ (wanted_of columns ≡ Some kind.Long)
Holds InRow columns = HasColumns columns

abbrev no_cell : Phase → Bool
no_cell Fresh = true
no_cell Filled = true
no_cell other = false

abbrev filled : Phase → Bool
filled Filled = true
filled other = false

abbrev wanting : Phase → Bool
wanting Wanting = true
wanting other = false

abbrev signed : Phase → Bool
signed Signed = true
signed other = false

abbrev in_row : Phase → Bool
in_row InRow = true
in_row other = false

abbrev values_allows : ValuesSymbol → Phase → Bool
values_allows valuess.Column phase = no_cell phase
values_allows valuess.Columns phase = filled phase
values_allows valuess.ColumnKind phase = no_cell phase
values_allows valuess.Rows phase = filled phase
values_allows valuess.Cell phase = wanting phase
values_allows valuess.MinusCell phase = signed phase
values_allows valuess.DateCell phase = in_row phase
values_allows valuess.CellEnd phase = in_row phase

-- whether a symbol may come next
abbrev pub allows : Symbol → Phase → Bool
allows (symbol.Values one) phase = values_allows one phase
allows (symbol.Column kind) phase = no_cell phase
allows symbol.Row phase = in_row phase
allows other phase = true

abbrev pipeline_leaves : PipelineSymbol → Phase → Phase
pipeline_leaves pipelines.Name phase = phase
pipeline_leaves other phase = Any

abbrev values_leaves : ValuesSymbol → Phase
values_leaves valuess.Column = Filled
values_leaves valuess.Columns = Filled
values_leaves valuess.ColumnKind = Filled
values_leaves other = Any

-- how far the columns are behind it
abbrev pub leaves : Symbol → Phase → Phase
leaves (symbol.Pipeline one) phase = pipeline_leaves one phase
leaves (symbol.Step one) phase = Any
leaves (symbol.Expression one) phase = Any
leaves (symbol.Unit one) phase = Any
leaves (symbol.Values one) phase = values_leaves one
leaves (symbol.Need test) phase = phase
leaves (symbol.Act action) phase = phase
leaves (symbol.Column kind) phase = Filled
leaves symbol.Row phase = Filled

abbrev pub accepts : Phase → List Symbol → Bool
accepts phase [] = true
accepts phase (one ∷ more) = allows one phase && accepts (leaves one phase) more
