-- The stacks of symbols that a reader comes to: what has to stand behind each symbol, and how many steps it may take.
use Rattle.std.specs.Prelude.{ℕ, ◌+◌, ◌*◌, Bool, true, false, not, ◌&&◌, ◌||◌, nat_lt, List, [], ◌∷◌, Option, Some, None, is_some}
use Rattle.plan_tokens.specs.declared.keyword.Keyword.TheVariants as word
use Rattle.plan_tokens.specs.declared.token.Sign.TheVariants as sign
use Rattle.plan_tokens.specs.declared.token.Token.{Token}
use Rattle.plan_tokens.specs.declared.token.Token.TheVariants as token
use Rattle.plan_grammar.specs.declared.symbol.Test.{Test}
use Rattle.plan_grammar.specs.declared.symbol.Test.TheVariants as test
use Rattle.plan_grammar.specs.declared.symbol.Use.{Use}
use Rattle.plan_grammar.specs.declared.symbol.Symbol.{Symbol}
use Rattle.plan_grammar.specs.declared.symbol.Symbol.TheVariants as symbol
use Rattle.plan_grammar.specs.declared.symbol.PipelineSymbol.{PipelineSymbol}
use Rattle.plan_grammar.specs.declared.symbol.PipelineSymbol.TheVariants as pipelines
use Rattle.plan_grammar.specs.declared.symbol.StepSymbol.{StepSymbol}
use Rattle.plan_grammar.specs.declared.symbol.StepSymbol.TheVariants as steps
use Rattle.plan_grammar.specs.declared.symbol.ExpressionSymbol.{ExpressionSymbol}
use Rattle.plan_grammar.specs.declared.symbol.ExpressionSymbol.TheVariants as expressions
use Rattle.plan_grammar.specs.declared.symbol.UnitSymbol.{UnitSymbol}
use Rattle.plan_grammar.specs.declared.symbol.UnitSymbol.TheVariants as units
use Rattle.plan_grammar.specs.declared.symbol.ValuesSymbol.{ValuesSymbol}
use Rattle.plan_grammar.specs.declared.symbol.ValuesSymbol.TheVariants as valuess
use Rattle.plan_grammar.specs.Productions.{Production}

-- ---- what stands behind a symbol

-- the tokens that may end what a symbol stands for
pub data Stop : Type 0 where
  AtEnd : Stop
  AtClose : Stop
  AtAgg : Stop
  AtAs : Stop

abbrev pub token_of : Stop → Token
token_of AtEnd = token.End
token_of AtClose = token.Sign sign.Close
token_of AtAgg = token.Word word.Agg
token_of AtAs = token.Word word.As

-- The first token of the shortest text of a symbol, where it is such a token: that of what stands behind, where the symbol may stand for nothing.
abbrev pipeline_first : PipelineSymbol → Option Stop → Option Stop
pipeline_first pipelines.Finish behind = behind
pipeline_first pipelines.Steps behind = behind
pipeline_first pipelines.Names behind = behind
pipeline_first other behind = None

abbrev step_first : StepSymbol → Option Stop → Option Stop
step_first steps.Assignments behind = behind
step_first steps.Renamings behind = behind
step_first steps.Keys behind = behind
step_first steps.Direction behind = behind
step_first steps.NullOrder behind = behind
step_first steps.DistinctNames behind = behind
step_first steps.JoinEnd behind = behind
step_first steps.GroupKeys behind = behind
step_first other behind = None

abbrev expression_first : ExpressionSymbol → Option Stop → Option Stop
expression_first expressions.Items behind = behind
expression_first expressions.As behind = behind
expression_first expressions.Operators behind = behind
expression_first expressions.Ors behind = behind
expression_first expressions.Ands behind = behind
expression_first expressions.Comparison behind = behind
expression_first expressions.Sums behind = behind
expression_first expressions.Products behind = behind
expression_first expressions.Exprs behind = behind
expression_first expressions.ItemName behind = behind
expression_first other behind = None

abbrev unit_first : UnitSymbol → Option Stop → Option Stop
unit_first units.UnitName behind = behind
unit_first units.Parts behind = behind
unit_first units.ArgumentList behind = behind
unit_first other behind = None

abbrev values_first : ValuesSymbol → Option Stop → Option Stop
values_first valuess.Columns behind = behind
values_first valuess.Rows behind = behind
values_first other behind = None

abbrev pub need_first : Test → Option Stop
need_first (test.Sign sign.Close) = Some AtClose
need_first (test.Word word.Agg) = Some AtAgg
need_first (test.Word word.As) = Some AtAs
need_first other = None

abbrev pub first_of : Symbol → Option Stop → Option Stop
first_of (symbol.Pipeline one) behind = pipeline_first one behind
first_of (symbol.Step one) behind = step_first one behind
first_of (symbol.Expression one) behind = expression_first one behind
first_of (symbol.Unit one) behind = unit_first one behind
first_of (symbol.Values one) behind = values_first one behind
first_of (symbol.Need test) behind = need_first test
first_of (symbol.Act action) behind = behind
first_of (symbol.Column kind) behind = behind
first_of symbol.Row behind = behind

abbrev pub first_of_all : List Symbol → Option Stop → Option Stop
first_of_all [] behind = behind
first_of_all (one ∷ more) behind = first_of one (first_of_all more behind)

abbrev past_as : Option Stop → Bool
past_as None = false
past_as (Some AtEnd) = true
past_as (Some AtClose) = true
past_as (Some AtAgg) = true
past_as (Some AtAs) = false

abbrev at_agg : Option Stop → Bool
at_agg None = false
at_agg (Some AtEnd) = false
at_agg (Some AtClose) = false
at_agg (Some AtAgg) = true
at_agg (Some AtAs) = false

abbrev at_close : Option Stop → Bool
at_close None = false
at_close (Some AtEnd) = false
at_close (Some AtClose) = true
at_close (Some AtAgg) = false
at_close (Some AtAs) = false

-- Whether this may stand behind a symbol: one that may stand for nothing has to see a token that ends it.
abbrev pipeline_needs : PipelineSymbol → Option Stop → Bool
pipeline_needs pipelines.Whole behind = past_as behind
pipeline_needs pipelines.Source behind = is_some behind
pipeline_needs pipelines.Finish behind = past_as behind
pipeline_needs pipelines.StepOrWrite behind = past_as behind
pipeline_needs pipelines.Steps behind = past_as behind
pipeline_needs pipelines.Names behind = is_some behind
pipeline_needs other behind = true

abbrev step_needs : StepSymbol → Option Stop → Bool
step_needs steps.Step behind = past_as behind
step_needs steps.Assignment behind = is_some behind
step_needs steps.Assignments behind = is_some behind
step_needs steps.Renamings behind = is_some behind
step_needs steps.Key behind = is_some behind
step_needs steps.Keys behind = is_some behind
step_needs steps.Direction behind = is_some behind
step_needs steps.NullOrder behind = is_some behind
step_needs steps.DistinctNames behind = is_some behind
step_needs steps.GroupKeys behind = at_agg behind
step_needs steps.JoinEnd behind = is_some behind
step_needs other behind = true

abbrev expression_needs : ExpressionSymbol → Option Stop → Bool
expression_needs expressions.Item behind = past_as behind
expression_needs expressions.ItemName behind = past_as behind
expression_needs expressions.ItemPart behind = past_as behind
expression_needs expressions.Items behind = past_as behind
expression_needs expressions.As behind = past_as behind
expression_needs expressions.Operators behind = is_some behind
expression_needs expressions.Expr behind = is_some behind
expression_needs expressions.Ors behind = is_some behind
expression_needs expressions.Conj behind = is_some behind
expression_needs expressions.Ands behind = is_some behind
expression_needs expressions.Neg behind = is_some behind
expression_needs expressions.Comparison behind = is_some behind
expression_needs expressions.Sum behind = is_some behind
expression_needs expressions.Sums behind = is_some behind
expression_needs expressions.Prod behind = is_some behind
expression_needs expressions.Products behind = is_some behind
expression_needs expressions.Exprs behind = is_some behind
expression_needs other behind = true

abbrev unit_needs : UnitSymbol → Option Stop → Bool
unit_needs units.Unit behind = is_some behind
unit_needs units.UnitName behind = is_some behind
unit_needs units.Parts behind = is_some behind
unit_needs units.ArgumentList behind = at_close behind
unit_needs other behind = true

abbrev values_needs : ValuesSymbol → Option Stop → Bool
values_needs valuess.Columns behind = is_some behind
values_needs valuess.Rows behind = is_some behind
values_needs valuess.Cell behind = is_some behind
values_needs valuess.MinusCell behind = is_some behind
values_needs valuess.DateCell behind = is_some behind
values_needs valuess.CellEnd behind = is_some behind
values_needs other behind = true

abbrev pub needs : Symbol → Option Stop → Bool
needs (symbol.Pipeline one) behind = pipeline_needs one behind
needs (symbol.Step one) behind = step_needs one behind
needs (symbol.Expression one) behind = expression_needs one behind
needs (symbol.Unit one) behind = unit_needs one behind
needs (symbol.Values one) behind = values_needs one behind
needs other behind = true

abbrev pub is_ready : List Symbol → Option Stop → Bool
is_ready [] behind = true
is_ready (one ∷ more) behind = needs one (first_of_all more behind) && is_ready more behind

-- ---- symbols of `values`

-- the symbols whose productions hold no symbol of `values`
abbrev pub is_plain : Symbol → Bool
is_plain (symbol.Values one) = false
is_plain (symbol.Column kind) = false
is_plain symbol.Row = false
is_plain other = true

abbrev pub all_plain : List Symbol → Bool
all_plain [] = true
all_plain (one ∷ more) = is_plain one && all_plain more

abbrev pub holds_values : Symbol → Bool
holds_values (symbol.Pipeline pipelines.Source) = true
holds_values (symbol.Values one) = true
holds_values other = false

-- ---- how many steps a symbol may take

abbrev pipeline_weight : PipelineSymbol → ℕ
pipeline_weight pipelines.Whole = 3
pipeline_weight pipelines.StepOrWrite = 3
pipeline_weight pipelines.Mode = 2
pipeline_weight pipelines.Nested = 5
pipeline_weight other = 1

abbrev step_weight : StepSymbol → ℕ
step_weight steps.Assignment = 15
step_weight steps.Renaming = 5
step_weight steps.Key = 17
step_weight steps.Direction = 2
step_weight steps.NullOrder = 2
step_weight steps.DistinctNames = 2
step_weight steps.GroupKeys = 13
step_weight steps.JoinEnd = 2
step_weight steps.All = 2
step_weight other = 1

abbrev expression_weight : ExpressionSymbol → ℕ
expression_weight expressions.Item = 13
expression_weight expressions.ItemName = 10
expression_weight expressions.Operators = 6
expression_weight expressions.Expr = 11
expression_weight expressions.Conj = 9
expression_weight expressions.Neg = 7
expression_weight expressions.Sum = 5
expression_weight expressions.Prod = 3
expression_weight other = 1

abbrev unit_weight : UnitSymbol → ℕ
unit_weight units.UnitName = 3
unit_weight units.Arguments = 16
unit_weight units.ArgumentList = 13
unit_weight other = 1

abbrev values_weight : ValuesSymbol → ℕ
values_weight valuess.Column = 3
values_weight other = 1

-- more than the productions that leave the token have together
abbrev pub weight : Symbol → ℕ
weight (symbol.Pipeline one) = pipeline_weight one
weight (symbol.Step one) = step_weight one
weight (symbol.Expression one) = expression_weight one
weight (symbol.Unit one) = unit_weight one
weight (symbol.Values one) = values_weight one
weight other = 1

abbrev pub weight_of_all : List Symbol → ℕ
weight_of_all [] = 0
weight_of_all (one ∷ more) = weight one + weight_of_all more

-- what a token weighs: more than the symbols that follow
abbrev pub token_weight : ℕ
token_weight = 30

-- ---- productions

abbrev pub implied : Symbol → List Symbol → Option Stop → Bool
implied one production behind = not (needs one behind) || is_ready production behind

abbrev pub is_lighter : Option Use → Symbol → List Symbol → Bool
is_lighter None one production = nat_lt (weight_of_all production) (weight one)
is_lighter (Some used) one production = nat_lt (weight_of_all production) (weight one + token_weight)

abbrev pub is_ready_behind : Symbol → List Symbol → Bool
is_ready_behind one production =
    implied one production None
    && (implied one production (Some AtEnd) && (implied one production (Some AtClose) && (implied one production (Some AtAgg) && implied one production (Some AtAs))))

-- What a production keeps: it is plain, or its symbol is one of `values`; it is lighter than its symbol and the token that it takes; and its symbols
-- see what they need where its symbol did.
abbrev pub keeps : Symbol → Option Production → Bool
keeps one None = true
keeps one (Some (used, production)) = (holds_values one || all_plain production) && (is_lighter used one production && is_ready_behind one production)
