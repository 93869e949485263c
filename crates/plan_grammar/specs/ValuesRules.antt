-- The grammar of the columns and cells of `values`, a line a production. What a cell may be hangs on the type of its column.
use Rattle.std.specs.Prelude.{if◌then◌else◌, [], ◌∷◌, Option, Some, None}
use Rattle.cn_types.specs.declared.value.DataType.{DataType}
use Rattle.cn_types.specs.declared.value.DataType.TheVariants as kind
use Rattle.plan_tokens.specs.declared.keyword.Keyword.TheVariants as word
use Rattle.plan_tokens.specs.declared.token.Sign.TheVariants as sign
use Rattle.plan_tokens.specs.declared.token.Token.{Token}
use Rattle.plan_grammar.specs.declared.symbol.Use.TheVariants as uses
use Rattle.plan_grammar.specs.declared.symbol.Cell.TheVariants as cells
use Rattle.plan_grammar.specs.declared.symbol.Test.TheVariants as test
use Rattle.plan_grammar.specs.declared.symbol.Symbol.TheVariants as symbol
use Rattle.plan_grammar.specs.declared.symbol.PipelineSymbol.TheVariants as pipelines
use Rattle.plan_grammar.specs.declared.symbol.ValuesSymbol.{ValuesSymbol}
use Rattle.plan_grammar.specs.declared.symbol.ValuesSymbol.TheVariants as valuess
use Rattle.plan_grammar.specs.Tests.{passes}
use Rattle.plan_grammar.specs.Productions.{Production, takes, goes, pipeline, values}

-- { "," name type }
abbrev pub columns_rule : Token → Option Production
columns_rule token = if passes (test.Sign sign.Comma) token then takes uses.Nothing (values valuess.Column ∷ values valuess.Columns ∷ []) else goes []

-- { "(" cell { "," cell } ")" }
abbrev pub rows_rule : Token → Option Production
rows_rule token = if passes (test.Sign sign.Open) token then takes uses.Nothing (values valuess.Cell ∷ []) else goes []

-- type
abbrev pub column_kind_rule : Token → Option Production
column_kind_rule token =
    if passes (test.Word word.Integer) token then takes uses.Nothing (symbol.Column kind.Integer ∷ []) else (
    if passes (test.Word word.Long) token then takes uses.Nothing (symbol.Column kind.Long ∷ []) else (
    if passes (test.Word word.String) token then takes uses.Nothing (symbol.Column kind.Text ∷ []) else (
    if passes (test.Word word.Boolean) token then takes uses.Nothing (symbol.Column kind.Boolean ∷ []) else (
    if passes (test.Word word.Date) token then takes uses.Nothing (symbol.Column kind.Date ∷ []) else (
    None)))))

-- ---- cells, by the type of their column

abbrev pub minus_rule : Token → Option Production
minus_rule token = if passes test.Minus token then takes uses.Nothing (values valuess.MinusCell ∷ []) else None

abbrev pub kind_rule : DataType → Token → Option Production
kind_rule kind.Integer token = if passes test.Integer token then takes (uses.Cell cells.Integer) (values valuess.CellEnd ∷ []) else minus_rule token
kind_rule kind.Long token = if passes test.Long token then takes (uses.Cell cells.Long) (values valuess.CellEnd ∷ []) else minus_rule token
kind_rule kind.Text token = if passes test.Quotation token then takes (uses.Cell cells.Text) (values valuess.CellEnd ∷ []) else None
kind_rule kind.Boolean token =
    if passes (test.Word word.True) token then takes (uses.Cell cells.True) (values valuess.CellEnd ∷ [])
    else (if passes (test.Word word.False) token then takes (uses.Cell cells.False) (values valuess.CellEnd ∷ []) else None)
kind_rule kind.Date token = if passes (test.Word word.Date) token then takes uses.Nothing (values valuess.DateCell ∷ []) else None

-- "null" is a cell of every type
abbrev pub cell_rule : DataType → Token → Option Production
cell_rule kind token = if passes (test.Word word.Null) token then takes (uses.Cell cells.Null) (values valuess.CellEnd ∷ []) else kind_rule kind token

abbrev pub minus_cell_rule : DataType → Token → Option Production
minus_cell_rule kind.Integer token = if passes test.NegativeInteger token then takes (uses.Cell cells.NegativeInteger) (values valuess.CellEnd ∷ []) else None
minus_cell_rule kind.Long token = if passes test.NegativeLong token then takes (uses.Cell cells.NegativeLong) (values valuess.CellEnd ∷ []) else None
minus_cell_rule other token = None

abbrev pub next_cell_rule : Token → Option Production
next_cell_rule token = if passes (test.Sign sign.Comma) token then takes uses.Nothing (values valuess.Cell ∷ []) else None

abbrev pub row_end_rule : Token → Option Production
row_end_rule token = if passes (test.Sign sign.Close) token then takes uses.Nothing (symbol.Row ∷ values valuess.Rows ∷ []) else None

-- a rule of the column whose cell comes next, where there is one
abbrev pub of_wanted : Option DataType → (DataType → Option Production) → Option Production
of_wanted None rule = None
of_wanted (Some kind) rule = rule kind

-- behind a cell comes the next one, and behind that of the last column the row's end
abbrev pub cell_end_rule : Option DataType → Token → Option Production
cell_end_rule None token = row_end_rule token
cell_end_rule (Some kind) token = next_cell_rule token

abbrev pub values_rule : Option DataType → ValuesSymbol → Token → Option Production
-- name type
values_rule wanted valuess.Column token = goes (pipeline pipelines.Name ∷ values valuess.ColumnKind ∷ [])
values_rule wanted valuess.Columns token = columns_rule token
values_rule wanted valuess.ColumnKind token = column_kind_rule token
values_rule wanted valuess.Rows token = rows_rule token
-- cell
values_rule wanted valuess.Cell token = of_wanted wanted (λ kind. cell_rule kind token)
-- the digits of a cell behind `-`
values_rule wanted valuess.MinusCell token = of_wanted wanted (λ kind. minus_cell_rule kind token)
-- the text of a cell behind "date"
values_rule wanted valuess.DateCell token = if passes test.DateText token then takes (uses.Cell cells.Date) (values valuess.CellEnd ∷ []) else None
-- "," cell, or ")" { row }
values_rule wanted valuess.CellEnd token = cell_end_rule wanted token
