-- What stands for the symbols of `values`, and for each stack that a reader comes to.
use Rattle.std.proofs.Common.{◌≡◌, ℕ, ◌+◌, ◌-◌, ◌<◌, ◌≤◌, zero, suc, true, false, List, [], ◌∷◌, ◌++◌, refl, sym, ap, subst, ◌∙◌, length, length-append, inl, inr, arith}
use Rattle.std.specs.Prelude.{Option, Some, None, pos, min, ◌⊎◌, slice_get}
use Rattle.std.proofs.Common.{get_or}
use Rattle.std.proofs.lemmas.Bool.{and_parts}
use Rattle.std.proofs.lemmas.Option.{same_Some, slice_get_past, slice_get_within, slice_get-get_or, slice_get_cases}
use Rattle.cn_types.specs.declared.value.DataType.{DataType}
use Rattle.cn_types.specs.declared.value.DataType.TheVariants as kind
use Rattle.plan_tokens.specs.declared.keyword.Keyword.{Keyword}
use Rattle.plan_tokens.specs.declared.keyword.Keyword.TheVariants as word
use Rattle.plan_tokens.specs.declared.token.Sign.{Sign}
use Rattle.plan_tokens.specs.declared.token.Sign.TheVariants as sign
use Rattle.plan_tokens.specs.declared.token.Token.{Token}
use Rattle.plan_tokens.specs.declared.token.Token.TheVariants as token
use Rattle.plan_grammar.specs.declared.symbol.Action.{Action}
use Rattle.plan_grammar.specs.declared.symbol.Action.TheVariants as action
use Rattle.plan_grammar.specs.declared.symbol.Choice.TheVariants as choices
use Rattle.plan_grammar.specs.declared.symbol.Part.TheVariants as parts
use Rattle.plan_grammar.specs.declared.symbol.Unary.TheVariants as unarys
use Rattle.plan_grammar.specs.declared.symbol.UnitAction.TheVariants as unitactions
use Rattle.plan_grammar.specs.declared.symbol.StepAction.TheVariants as stepactions
use Rattle.plan_grammar.specs.declared.symbol.Columns.{Columns}
use Rattle.plan_grammar.specs.declared.symbol.Deed.{Deed}
use Rattle.plan_grammar.specs.declared.symbol.Deed.TheVariants as deed
use Rattle.plan_grammar.specs.declared.symbol.Cell.TheVariants as cells
use Rattle.plan_grammar.specs.declared.symbol.Use.{Use}
use Rattle.plan_grammar.specs.declared.symbol.Use.TheVariants as uses
use Rattle.plan_grammar.specs.declared.symbol.Test.{Test}
use Rattle.plan_grammar.specs.declared.symbol.Test.TheVariants as test
use Rattle.plan_grammar.specs.declared.symbol.Symbol.{Symbol}
use Rattle.plan_grammar.specs.declared.symbol.Symbol.TheVariants as symbol
use Rattle.plan_grammar.specs.declared.symbol.PipelineSymbol.{PipelineSymbol}
use Rattle.plan_grammar.specs.declared.symbol.PipelineSymbol.TheVariants as pipelines
use Rattle.plan_grammar.specs.declared.symbol.StepSymbol.{StepSymbol}
use Rattle.plan_grammar.specs.declared.symbol.StepSymbol.TheVariants as steps
use Rattle.plan_grammar.specs.declared.symbol.ExpressionSymbol.{ExpressionSymbol}
use Rattle.plan_grammar.specs.declared.symbol.ExpressionSymbol.TheVariants as expressions
use Rattle.plan_grammar.specs.declared.symbol.UnitSymbol.{UnitSymbol}
use Rattle.plan_grammar.specs.declared.symbol.UnitSymbol.TheVariants as units
use Rattle.plan_grammar.specs.declared.symbol.ValuesSymbol.{ValuesSymbol}
use Rattle.plan_grammar.specs.declared.symbol.ValuesSymbol.TheVariants as valuess
use Rattle.plan_grammar.specs.Tests.{passes, is_same_word, is_same_sign}
use Rattle.plan_grammar.specs.Productions.{does, need, pipeline, step, expression, unit, values}
use Rattle.plan_grammar.specs.Grammar.{rule}
use Rattle.plan_grammar.specs.Derivation.{over, wanted_of, behind_use, after_doing, next_of}
use Rattle.plan_grammar.proofs.Stacks.{Stop, AtEnd, token_of, needs, is_ready}
use Rattle.plan_grammar.proofs.Phases.{Phase, Any, Fresh, Filled, Wanting, Signed, InRow, HasColumns, Holds, allows, leaves, accepts}
use Rattle.plan_grammar.proofs.Ended.{Ended, Ends, behind, acted, taken, gone, left, no_stop, never}
use Rattle.plan_grammar.proofs.Leaving.{leaves_values_columns, leaves_values_rows}
use Rattle.plan_grammar.proofs.PlainEnds.{name_ended, act_ended, need_ended, whole_ends, source_ends, finish_ends, step_or_write_ends, mode_ends, nested_ends, steps_ends, names_ends, integer_ends, negative_integer_ends, long_ends, negative_long_ends, step_ends, assignment_ends, assignments_ends, renaming_ends, renamings_ends, key_ends, keys_ends, direction_ends, null_order_ends, null_place_ends, distinct_names_ends, group_keys_ends, join_kind_ends, join_end_ends, all_ends, item_ends, item_name_ends, item_part_ends, items_ends, as_ends, operators_ends, expr_ends, ors_ends, conj_ends, ands_ends, neg_ends, comparison_ends, is_null_ends, sum_ends, sums_ends, prod_ends, products_ends, exprs_ends, unit_ends, negative_literal_ends, date_text_ends, plan_number_ends, unit_name_ends, part_ends, parts_ends, arguments_ends, argument_list_ends, kind_ends}

-- ---- columns

pub no_cell_taken : (phase : Phase) (columns : Columns) → allows (symbol.Values valuess.Column) phase ≡ true → Holds phase columns → columns.cells ≡ 0
no_cell_taken Fresh columns a h = h
no_cell_taken Filled columns a h = h.0
no_cell_taken Any columns a h = never a
no_cell_taken Wanting columns a h = never a
no_cell_taken Signed columns a h = never a
no_cell_taken InRow columns a h = never a

pub are_filled : (phase : Phase) (columns : Columns) → allows (symbol.Values valuess.Columns) phase ≡ true → Holds phase columns → Holds Filled columns
are_filled Filled columns a h = h
are_filled Fresh columns a h = never a
are_filled Any columns a h = never a
are_filled Wanting columns a h = never a
are_filled Signed columns a h = never a
are_filled InRow columns a h = never a

pub are_wanting : (phase : Phase) (columns : Columns) → allows (symbol.Values valuess.Cell) phase ≡ true → Holds phase columns → Holds Wanting columns
are_wanting Wanting columns a h = h
are_wanting Fresh columns a h = never a
are_wanting Any columns a h = never a
are_wanting Filled columns a h = never a
are_wanting Signed columns a h = never a
are_wanting InRow columns a h = never a

pub are_signed : (phase : Phase) (columns : Columns) → allows (symbol.Values valuess.MinusCell) phase ≡ true → Holds phase columns → Holds Signed columns
are_signed Signed columns a h = h
are_signed Fresh columns a h = never a
are_signed Any columns a h = never a
are_signed Filled columns a h = never a
are_signed Wanting columns a h = never a
are_signed InRow columns a h = never a

pub are_in_row : (phase : Phase) (columns : Columns) → allows symbol.Row phase ≡ true → Holds phase columns → Holds InRow columns
are_in_row InRow columns a h = h
are_in_row Fresh columns a h = never a
are_in_row Any columns a h = never a
are_in_row Filled columns a h = never a
are_in_row Wanting columns a h = never a
are_in_row Signed columns a h = never a

pub one_more_filled : (columns : Columns) (one : DataType) → columns.cells ≡ 0 → Holds Filled (after_doing (deed.Column one) columns)
one_more_filled columns one zero_cells = let e = length-append columns.kinds (one ∷ []) in (zero_cells, omega (arith, e))

pub wanted_has_columns : (columns : Columns) (one : DataType) → wanted_of columns ≡ Some one → HasColumns columns
wanted_has_columns columns one e = let within = slice_get_within columns.kinds columns.cells one e in omega (arith, within)

pub filled_wants : (columns : Columns) → Holds Filled columns → Holds Wanting columns
filled_wants columns h =
    let within : columns.cells < length columns.kinds = rw h.0 h.1 in
    (get_or columns.kinds columns.cells kind.Long, slice_get-get_or columns.kinds columns.cells kind.Long within)

pub signed_has_columns : (columns : Columns) → Holds Signed columns → HasColumns columns
signed_has_columns columns (inl e) = wanted_has_columns columns kind.Integer e
signed_has_columns columns (inr e) = wanted_has_columns columns kind.Long e

-- ---- symbols of columns

kind_rule : (wanted : Option DataType) → rule wanted (symbol.Values valuess.ColumnKind) (token.Word word.Integer) ≡ Some (Some uses.Nothing, symbol.Column kind.Integer ∷ [])
unfolding passes is_same_word
kind_rule wanted = refl

column_kind_ended : (more : List Symbol) (columns : Columns) → columns.cells ≡ 0 → ((after : Columns) → Holds Filled after → Ended after more) → Ended columns (symbol.Values valuess.ColumnKind ∷ more)
column_kind_ended more columns zero_cells rest =
    taken columns (symbol.Values valuess.ColumnKind) more (symbol.Column kind.Integer ∷ []) (token.Word word.Integer) uses.Nothing (kind_rule (wanted_of columns)) (λ stop e. no_stop refl e)
    (acted columns (symbol.Column kind.Integer) more (deed.Column kind.Integer) refl refl (rest (after_doing (deed.Column kind.Integer) columns) (one_more_filled columns kind.Integer zero_cells)))

column_ended : (more : List Symbol) (columns : Columns) → columns.cells ≡ 0 → ((after : Columns) → Holds Filled after → Ended after more) → Ended columns (symbol.Values valuess.Column ∷ more)
column_ended more columns zero_cells rest =
    gone columns (symbol.Values valuess.Column) more (pipeline pipelines.Name ∷ values valuess.ColumnKind ∷ []) (name_ended (values valuess.ColumnKind ∷ more) columns (column_kind_ended more columns zero_cells rest)) refl refl

columns_ended : (more : List Symbol) (columns : Columns) → needs (symbol.Values valuess.Columns) (behind more) ≡ true → Ended columns more → Ended columns (symbol.Values valuess.Columns ∷ more)
columns_ended more columns needed rest = left columns (symbol.Values valuess.Columns) more [] leaves_values_columns refl needed refl refl rest

rows_ended : (more : List Symbol) (columns : Columns) → needs (symbol.Values valuess.Rows) (behind more) ≡ true → Ended columns more → Ended columns (symbol.Values valuess.Rows ∷ more)
rows_ended more columns needed rest = left columns (symbol.Values valuess.Rows) more [] leaves_values_rows refl needed refl refl rest

-- ---- cells

row_end_rule : rule None (symbol.Values valuess.CellEnd) (token.Sign sign.Close) ≡ Some (Some uses.Nothing, symbol.Row ∷ values valuess.Rows ∷ [])
unfolding passes
row_end_rule = refl

next_rule : (one : DataType) → rule (Some one) (symbol.Values valuess.CellEnd) (token.Sign sign.Comma) ≡ Some (Some uses.Nothing, values valuess.Cell ∷ [])
unfolding passes
next_rule one = refl

null_rule : (one : DataType) → rule (Some one) (symbol.Values valuess.Cell) (token.Word word.Null) ≡ Some (Some (uses.Cell cells.Null), values valuess.CellEnd ∷ [])
unfolding passes is_same_word
null_rule one = refl

row_ended : (more : List Symbol) (columns : Columns) → wanted_of columns ≡ None → needs (symbol.Values valuess.Rows) (behind more) ≡ true → Ends more → Ended columns (symbol.Values valuess.CellEnd ∷ more)
row_ended more columns none needed rest =
    let is : rule (wanted_of columns) (symbol.Values valuess.CellEnd) (token.Sign sign.Close) ≡ Some (Some uses.Nothing, symbol.Row ∷ values valuess.Rows ∷ []) = ap (λ (w : Option DataType). rule w (symbol.Values valuess.CellEnd) (token.Sign sign.Close)) none ∙ row_end_rule in
    let after = after_doing deed.Row columns in
    taken columns (symbol.Values valuess.CellEnd) more (symbol.Row ∷ values valuess.Rows ∷ []) (token.Sign sign.Close) uses.Nothing is (λ stop e. no_stop refl e)
    (acted columns symbol.Row (values valuess.Rows ∷ more) deed.Row refl refl (rows_ended more after needed (rest after)))

null_ended : (more : List Symbol) (columns : Columns) (one : DataType) → wanted_of columns ≡ Some one
    → Ended (behind_use (uses.Cell cells.Null) columns) (symbol.Values valuess.CellEnd ∷ more) → Ended columns (symbol.Values valuess.Cell ∷ more)
null_ended more columns one wants rest =
    let is : rule (wanted_of columns) (symbol.Values valuess.Cell) (token.Word word.Null) ≡ Some (Some (uses.Cell cells.Null), values valuess.CellEnd ∷ []) = ap (λ (w : Option DataType). rule w (symbol.Values valuess.Cell) (token.Word word.Null)) wants ∙ null_rule one in
    taken columns (symbol.Values valuess.Cell) more (values valuess.CellEnd ∷ []) (token.Word word.Null) (uses.Cell cells.Null) is (λ stop e. no_stop refl e) rest

comma_ended : (more : List Symbol) (columns : Columns) (one : DataType) → wanted_of columns ≡ Some one → Ended columns (symbol.Values valuess.Cell ∷ more) → Ended columns (symbol.Values valuess.CellEnd ∷ more)
comma_ended more columns one wants rest =
    let is : rule (wanted_of columns) (symbol.Values valuess.CellEnd) (token.Sign sign.Comma) ≡ Some (Some uses.Nothing, values valuess.Cell ∷ []) = ap (λ (w : Option DataType). rule w (symbol.Values valuess.CellEnd) (token.Sign sign.Comma)) wants ∙ next_rule one in
    taken columns (symbol.Values valuess.CellEnd) more (values valuess.Cell ∷ []) (token.Sign sign.Comma) uses.Nothing is (λ stop e. no_stop refl e) rest

-- a row that lacks at most so many cells
row_left : (count : ℕ) (more : List Symbol) (columns : Columns) → length columns.kinds ≤ columns.cells + count → needs (symbol.Values valuess.Rows) (behind more) ≡ true → Ends more
    → Ended columns (symbol.Values valuess.CellEnd ∷ more)
row_left zero more columns most needed rest = row_ended more columns (slice_get_past columns.kinds columns.cells (omega arith)) needed rest
row_left (suc count) more columns most needed rest =
    elim (slice_get_cases columns.kinds columns.cells).1 [
      | inl found ↦
          let after = behind_use (uses.Cell cells.Null) columns in
          let fewer : length after.kinds ≤ after.cells + count = omega arith in
          comma_ended more columns found.0 found.2 (null_ended more columns found.0 found.2 (row_left count more after fewer needed rest))
      | inr past ↦ row_ended more columns past.1 needed rest
    ]

cell_end_ended : (more : List Symbol) (columns : Columns) → needs (symbol.Values valuess.CellEnd) (behind more) ≡ true → Ends more → Ended columns (symbol.Values valuess.CellEnd ∷ more)
cell_end_ended more columns needed rest = row_left (length columns.kinds) more columns (omega arith) needed rest

cell_ended : (more : List Symbol) (columns : Columns) → Holds Wanting columns → needs (symbol.Values valuess.Cell) (behind more) ≡ true → Ends more → Ended columns (symbol.Values valuess.Cell ∷ more)
cell_ended more columns wants needed rest = null_ended more columns wants.0 wants.1 (cell_end_ended more (behind_use (uses.Cell cells.Null) columns) needed rest)

abbrev zero_digit : Token
zero_digit = token.Number (record { value = 0; long = false })

integer_rule : rule (Some kind.Integer) (symbol.Values valuess.MinusCell) zero_digit ≡ Some (Some (uses.Cell cells.NegativeInteger), values valuess.CellEnd ∷ [])
unfolding passes
integer_rule = refl

long_rule : rule (Some kind.Long) (symbol.Values valuess.MinusCell) zero_digit ≡ Some (Some (uses.Cell cells.NegativeLong), values valuess.CellEnd ∷ [])
unfolding passes
long_rule = refl

minus_ended : (more : List Symbol) (columns : Columns) → Holds Signed columns → needs (symbol.Values valuess.MinusCell) (behind more) ≡ true → Ends more → Ended columns (symbol.Values valuess.MinusCell ∷ more)
minus_ended more columns (inl wants) needed rest =
    let is : rule (wanted_of columns) (symbol.Values valuess.MinusCell) zero_digit ≡ Some (Some (uses.Cell cells.NegativeInteger), values valuess.CellEnd ∷ []) = ap (λ (w : Option DataType). rule w (symbol.Values valuess.MinusCell) zero_digit) wants ∙ integer_rule in
    taken columns (symbol.Values valuess.MinusCell) more (values valuess.CellEnd ∷ []) zero_digit (uses.Cell cells.NegativeInteger) is (λ stop e. no_stop refl e)
    (cell_end_ended more (behind_use (uses.Cell cells.NegativeInteger) columns) needed rest)
minus_ended more columns (inr wants) needed rest =
    let is : rule (wanted_of columns) (symbol.Values valuess.MinusCell) zero_digit ≡ Some (Some (uses.Cell cells.NegativeLong), values valuess.CellEnd ∷ []) = ap (λ (w : Option DataType). rule w (symbol.Values valuess.MinusCell) zero_digit) wants ∙ long_rule in
    taken columns (symbol.Values valuess.MinusCell) more (values valuess.CellEnd ∷ []) zero_digit (uses.Cell cells.NegativeLong) is (λ stop e. no_stop refl e)
    (cell_end_ended more (behind_use (uses.Cell cells.NegativeLong) columns) needed rest)

abbrev a_date : Token
a_date = token.Quotation (record { text = []; day = Some (pos 0) })

date_rule : (wanted : Option DataType) → rule wanted (symbol.Values valuess.DateCell) a_date ≡ Some (Some (uses.Cell cells.Date), values valuess.CellEnd ∷ [])
unfolding passes
date_rule wanted = refl

date_ended : (more : List Symbol) (columns : Columns) → needs (symbol.Values valuess.DateCell) (behind more) ≡ true → Ends more → Ended columns (symbol.Values valuess.DateCell ∷ more)
date_ended more columns needed rest =
    taken columns (symbol.Values valuess.DateCell) more (values valuess.CellEnd ∷ []) a_date (uses.Cell cells.Date) (date_rule (wanted_of columns)) (λ stop e. no_stop refl e)
    (cell_end_ended more (behind_use (uses.Cell cells.Date) columns) needed rest)

-- ---- all symbols

one_ended : (one : Symbol) (more : List Symbol) (phase : Phase) (columns : Columns) → Holds phase columns → allows one phase ≡ true → needs one (behind more) ≡ true
    → ((after : Columns) → Holds (leaves one phase) after → Ended after more) → Ended columns (one ∷ more)
one_ended (symbol.Pipeline pipelines.Whole) more phase columns h a n rest = whole_ends more n (λ after. rest after tt) columns
one_ended (symbol.Pipeline pipelines.Source) more phase columns h a n rest = source_ends more (λ after. rest after tt) columns
one_ended (symbol.Pipeline pipelines.Finish) more phase columns h a n rest = finish_ends more n (λ after. rest after tt) columns
one_ended (symbol.Pipeline pipelines.StepOrWrite) more phase columns h a n rest = step_or_write_ends more (λ after. rest after tt) columns
one_ended (symbol.Pipeline pipelines.Mode) more phase columns h a n rest = mode_ends more (λ after. rest after tt) columns
one_ended (symbol.Pipeline pipelines.Nested) more phase columns h a n rest = nested_ends more (λ after. rest after tt) columns
one_ended (symbol.Pipeline pipelines.Steps) more phase columns h a n rest = steps_ends more n (λ after. rest after tt) columns
one_ended (symbol.Pipeline pipelines.Name) more phase columns h a n rest = name_ended more columns (rest columns h)
one_ended (symbol.Pipeline pipelines.Names) more phase columns h a n rest = names_ends more n (λ after. rest after tt) columns
one_ended (symbol.Pipeline pipelines.Integer) more phase columns h a n rest = integer_ends more (λ after. rest after tt) columns
one_ended (symbol.Pipeline pipelines.NegativeInteger) more phase columns h a n rest = negative_integer_ends more (λ after. rest after tt) columns
one_ended (symbol.Pipeline pipelines.Long) more phase columns h a n rest = long_ends more (λ after. rest after tt) columns
one_ended (symbol.Pipeline pipelines.NegativeLong) more phase columns h a n rest = negative_long_ends more (λ after. rest after tt) columns
one_ended (symbol.Step steps.Step) more phase columns h a n rest = step_ends more (λ after. rest after tt) columns
one_ended (symbol.Step steps.Assignment) more phase columns h a n rest = assignment_ends more n (λ after. rest after tt) columns
one_ended (symbol.Step steps.Assignments) more phase columns h a n rest = assignments_ends more n (λ after. rest after tt) columns
one_ended (symbol.Step steps.Renaming) more phase columns h a n rest = renaming_ends more (λ after. rest after tt) columns
one_ended (symbol.Step steps.Renamings) more phase columns h a n rest = renamings_ends more n (λ after. rest after tt) columns
one_ended (symbol.Step steps.Key) more phase columns h a n rest = key_ends more n (λ after. rest after tt) columns
one_ended (symbol.Step steps.Keys) more phase columns h a n rest = keys_ends more n (λ after. rest after tt) columns
one_ended (symbol.Step steps.Direction) more phase columns h a n rest = direction_ends more n (λ after. rest after tt) columns
one_ended (symbol.Step steps.NullOrder) more phase columns h a n rest = null_order_ends more n (λ after. rest after tt) columns
one_ended (symbol.Step steps.NullPlace) more phase columns h a n rest = null_place_ends more (λ after. rest after tt) columns
one_ended (symbol.Step steps.DistinctNames) more phase columns h a n rest = distinct_names_ends more n (λ after. rest after tt) columns
one_ended (symbol.Step steps.GroupKeys) more phase columns h a n rest = group_keys_ends more n (λ after. rest after tt) columns
one_ended (symbol.Step steps.JoinKind) more phase columns h a n rest = join_kind_ends more (λ after. rest after tt) columns
one_ended (symbol.Step steps.JoinEnd) more phase columns h a n rest = join_end_ends more n (λ after. rest after tt) columns
one_ended (symbol.Step steps.All) more phase columns h a n rest = all_ends more (λ after. rest after tt) columns
one_ended (symbol.Expression expressions.Item) more phase columns h a n rest = item_ends more (λ after. rest after tt) columns
one_ended (symbol.Expression expressions.ItemName) more phase columns h a n rest = item_name_ends more n (λ after. rest after tt) columns
one_ended (symbol.Expression expressions.ItemPart) more phase columns h a n rest = item_part_ends more (λ after. rest after tt) columns
one_ended (symbol.Expression expressions.Items) more phase columns h a n rest = items_ends more n (λ after. rest after tt) columns
one_ended (symbol.Expression expressions.As) more phase columns h a n rest = as_ends more n (λ after. rest after tt) columns
one_ended (symbol.Expression expressions.Operators) more phase columns h a n rest = operators_ends more n (λ after. rest after tt) columns
one_ended (symbol.Expression expressions.Expr) more phase columns h a n rest = expr_ends more n (λ after. rest after tt) columns
one_ended (symbol.Expression expressions.Ors) more phase columns h a n rest = ors_ends more n (λ after. rest after tt) columns
one_ended (symbol.Expression expressions.Conj) more phase columns h a n rest = conj_ends more n (λ after. rest after tt) columns
one_ended (symbol.Expression expressions.Ands) more phase columns h a n rest = ands_ends more n (λ after. rest after tt) columns
one_ended (symbol.Expression expressions.Neg) more phase columns h a n rest = neg_ends more n (λ after. rest after tt) columns
one_ended (symbol.Expression expressions.Comparison) more phase columns h a n rest = comparison_ends more n (λ after. rest after tt) columns
one_ended (symbol.Expression expressions.IsNull) more phase columns h a n rest = is_null_ends more (λ after. rest after tt) columns
one_ended (symbol.Expression expressions.Sum) more phase columns h a n rest = sum_ends more n (λ after. rest after tt) columns
one_ended (symbol.Expression expressions.Sums) more phase columns h a n rest = sums_ends more n (λ after. rest after tt) columns
one_ended (symbol.Expression expressions.Prod) more phase columns h a n rest = prod_ends more n (λ after. rest after tt) columns
one_ended (symbol.Expression expressions.Products) more phase columns h a n rest = products_ends more n (λ after. rest after tt) columns
one_ended (symbol.Expression expressions.Exprs) more phase columns h a n rest = exprs_ends more n (λ after. rest after tt) columns
one_ended (symbol.Unit units.Unit) more phase columns h a n rest = unit_ends more (λ after. rest after tt) columns
one_ended (symbol.Unit units.NegativeLiteral) more phase columns h a n rest = negative_literal_ends more (λ after. rest after tt) columns
one_ended (symbol.Unit units.DateText) more phase columns h a n rest = date_text_ends more (λ after. rest after tt) columns
one_ended (symbol.Unit units.PlanNumber) more phase columns h a n rest = plan_number_ends more (λ after. rest after tt) columns
one_ended (symbol.Unit units.UnitName) more phase columns h a n rest = unit_name_ends more n (λ after. rest after tt) columns
one_ended (symbol.Unit units.Part) more phase columns h a n rest = part_ends more (λ after. rest after tt) columns
one_ended (symbol.Unit units.Parts) more phase columns h a n rest = parts_ends more n (λ after. rest after tt) columns
one_ended (symbol.Unit units.Arguments) more phase columns h a n rest = arguments_ends more (λ after. rest after tt) columns
one_ended (symbol.Unit units.ArgumentList) more phase columns h a n rest = argument_list_ends more n (λ after. rest after tt) columns
one_ended (symbol.Unit units.Kind) more phase columns h a n rest = kind_ends more (λ after. rest after tt) columns
one_ended (symbol.Values valuess.Column) more phase columns h a n rest = column_ended more columns (no_cell_taken phase columns a h) rest
one_ended (symbol.Values valuess.Columns) more phase columns h a n rest = columns_ended more columns n (rest columns (are_filled phase columns a h))
one_ended (symbol.Values valuess.ColumnKind) more phase columns h a n rest = column_kind_ended more columns (no_cell_taken phase columns a h) rest
one_ended (symbol.Values valuess.Rows) more phase columns h a n rest = rows_ended more columns n (rest columns tt)
one_ended (symbol.Values valuess.Cell) more phase columns h a n rest = cell_ended more columns (are_wanting phase columns a h) n (λ after. rest after tt)
one_ended (symbol.Values valuess.MinusCell) more phase columns h a n rest = minus_ended more columns (are_signed phase columns a h) n (λ after. rest after tt)
one_ended (symbol.Values valuess.DateCell) more phase columns h a n rest = date_ended more columns n (λ after. rest after tt)
one_ended (symbol.Values valuess.CellEnd) more phase columns h a n rest = cell_end_ended more columns n (λ after. rest after tt)
one_ended (symbol.Need test) more phase columns h a n rest = need_ended test more columns (rest columns h)
one_ended (symbol.Act action) more phase columns h a n rest = act_ended action more columns (rest columns h)
one_ended (symbol.Column one) more phase columns h a n rest =
    acted columns (symbol.Column one) more (deed.Column one) refl refl (rest (after_doing (deed.Column one) columns) (one_more_filled columns one (no_cell_taken phase columns a h)))
one_ended symbol.Row more phase columns h a n rest = acted columns symbol.Row more deed.Row refl refl (rest (after_doing deed.Row columns) (refl, are_in_row phase columns a h))

-- a stack that a reader comes to stands for some tokens
pub all_ended : (symbols : List Symbol) (phase : Phase) (columns : Columns) → Holds phase columns → accepts phase symbols ≡ true → is_ready symbols (Some AtEnd) ≡ true → Ended columns symbols
all_ended [] phase columns h a r = record { tokens = []; deeds = []; derived = over columns; stops = λ stop e. ap token_of (same_Some AtEnd stop e) }
all_ended (one ∷ more) phase columns h a r =
    let allowed = and_parts _ _ a in
    let ready = and_parts _ _ r in
    one_ended one more phase columns h allowed.0 ready.0 (λ after h_after. all_ended more (leaves one phase) after h_after allowed.1 ready.1)
