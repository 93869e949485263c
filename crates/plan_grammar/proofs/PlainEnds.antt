-- What stands for a symbol besides those of `values`, before what ends it.
use Rattle.std.proofs.Common.{◌≡◌, ◌==◌, Bool, true, false, List, [], ◌∷◌, refl, sym, ap, ◌∙◌}
use Rattle.std.specs.Prelude.{Option, Some, None, pos, bytes_eq}
use Rattle.std.proofs.lemmas.Option.{same_Some}
use Rattle.std.proofs.lemmas.Slice.Eq.{bytes_eq-Decides}
use Rattle.plan_tokens.specs.Words.{spelled_word}
use Rattle.cn_types.specs.declared.value.DataType.{DataType}
use Rattle.cn_types.specs.declared.value.DataType.TheVariants as kind
use Rattle.plan_tokens.specs.declared.keyword.Keyword.{Keyword}
use Rattle.plan_tokens.specs.declared.keyword.Keyword.TheVariants as word
use Rattle.plan_tokens.specs.declared.token.Sign.{Sign}
use Rattle.plan_tokens.specs.declared.token.Sign.TheVariants as sign
use Rattle.plan_tokens.specs.declared.token.Token.{Token}
use Rattle.plan_tokens.specs.declared.token.Token.TheVariants as token
use Rattle.plan_grammar.specs.declared.symbol.Action.{Action}
use Rattle.plan_grammar.specs.declared.symbol.Action.TheVariants as action
use Rattle.plan_grammar.specs.declared.symbol.Choice.TheVariants as choices
use Rattle.plan_grammar.specs.declared.symbol.Part.TheVariants as parts
use Rattle.plan_grammar.specs.declared.symbol.Unary.TheVariants as unarys
use Rattle.plan_grammar.specs.declared.symbol.UnitAction.TheVariants as unitactions
use Rattle.plan_grammar.specs.declared.symbol.StepAction.TheVariants as stepactions
use Rattle.plan_grammar.specs.declared.symbol.Columns.{Columns}
use Rattle.plan_grammar.specs.declared.symbol.Deed.{Deed}
use Rattle.plan_grammar.specs.declared.symbol.Deed.TheVariants as deed
use Rattle.plan_grammar.specs.declared.symbol.Cell.TheVariants as cells
use Rattle.plan_grammar.specs.declared.symbol.Use.{Use}
use Rattle.plan_grammar.specs.declared.symbol.Use.TheVariants as uses
use Rattle.plan_grammar.specs.declared.symbol.Test.{Test}
use Rattle.plan_grammar.specs.declared.symbol.Test.TheVariants as test
use Rattle.plan_grammar.specs.declared.symbol.Symbol.{Symbol}
use Rattle.plan_grammar.specs.declared.symbol.Symbol.TheVariants as symbol
use Rattle.plan_grammar.specs.declared.symbol.PipelineSymbol.{PipelineSymbol}
use Rattle.plan_grammar.specs.declared.symbol.PipelineSymbol.TheVariants as pipelines
use Rattle.plan_grammar.specs.declared.symbol.StepSymbol.{StepSymbol}
use Rattle.plan_grammar.specs.declared.symbol.StepSymbol.TheVariants as steps
use Rattle.plan_grammar.specs.declared.symbol.ExpressionSymbol.{ExpressionSymbol}
use Rattle.plan_grammar.specs.declared.symbol.ExpressionSymbol.TheVariants as expressions
use Rattle.plan_grammar.specs.declared.symbol.UnitSymbol.{UnitSymbol}
use Rattle.plan_grammar.specs.declared.symbol.UnitSymbol.TheVariants as units
use Rattle.plan_grammar.specs.declared.symbol.ValuesSymbol.{ValuesSymbol}
use Rattle.plan_grammar.specs.declared.symbol.ValuesSymbol.TheVariants as valuess
use Rattle.plan_grammar.specs.Tests.{passes, is_same_word, is_same_sign}
use Rattle.plan_grammar.specs.Productions.{does, need, pipeline, step, expression, unit, values}
use Rattle.plan_grammar.specs.Grammar.{rule}
use Rattle.plan_grammar.specs.Derivation.{wanted_of}
use Rattle.plan_grammar.proofs.Stacks.{Stop, AtEnd, AtClose, AtAgg, AtAs, token_of, first_of, need_first, needs}
use Rattle.plan_grammar.proofs.Ended.{Ended, Ends, Quoted, Quotes, behind, acting, acted, taking, taken, going, leaving, quoting, going_quoted, quoted_ends, quotation, no_stop}
use Rattle.plan_grammar.proofs.Leaving.{leaves_finish, leaves_steps, leaves_names, leaves_assignments, leaves_renamings, leaves_keys, leaves_direction, leaves_null_order, leaves_distinct_names, leaves_join_end, leaves_group_keys, leaves_items, leaves_as, leaves_ors, leaves_ands, leaves_comparison, leaves_sums, leaves_products, leaves_exprs, leaves_item_name, leaves_unit_name, leaves_parts, leaves_argument_list}

abbrev zero_number : Token
zero_number = token.Number (record { value = 0; long = false })

abbrev any_name : Token
any_name = token.Name []

pub act_ends : (one : Action) (more : List Symbol) → Ends more → Ends (symbol.Act one ∷ more)
act_ends one more rest = acting (symbol.Act one) more (deed.Act one) refl refl rest

pub act_ended : (one : Action) (more : List Symbol) (columns : Columns) → Ended columns more → Ended columns (symbol.Act one ∷ more)
act_ended one more columns rest = acted columns (symbol.Act one) more (deed.Act one) refl refl rest

-- ---- tokens

example : Test → Token
example (test.Word word) = token.Word word
example (test.Sign sign) = token.Sign sign
example test.Name = any_name
example test.Integer = zero_number
example test.MinusBeforeDigits = token.Minus (Some (record { value = 0; long = false }))
example test.NegativeInteger = zero_number
example test.Long = zero_number
example test.NegativeLong = zero_number
example test.Minus = token.Minus None
example test.MinusBeforeLiteral = token.Minus (Some (record { value = 0; long = false }))
example test.MinusApart = token.Minus None
example test.IntegerLiteral = zero_number
example test.LongLiteral = token.Number (record { value = 0; long = true })
example test.Mark = token.Name (76 ∷ [])
example test.Quotation = quotation
example test.NegativeIntegerLiteral = zero_number
example test.NegativeLongLiteral = token.Number (record { value = 0; long = true })
example test.DateText = token.Quotation (record { text = []; day = Some (pos 0) })

same_word_itself : (word : Keyword) → is_same_word word word ≡ true
unfolding is_same_word
same_word_itself word = (bytes_eq-Decides (spelled_word word) (spelled_word word)).1 refl

same_sign_itself : (sign : Sign) → is_same_sign sign sign ≡ true
same_sign_itself sign.Bar = refl
same_sign_itself sign.Comma = refl
same_sign_itself sign.Dot = refl
same_sign_itself sign.At = refl
same_sign_itself sign.Open = refl
same_sign_itself sign.Close = refl
same_sign_itself sign.Plus = refl
same_sign_itself sign.Star = refl
same_sign_itself sign.Percent = refl
same_sign_itself sign.Equal = refl
same_sign_itself sign.NotEqual = refl
same_sign_itself sign.Less = refl
same_sign_itself sign.LessEqual = refl
same_sign_itself sign.SameOrNull = refl
same_sign_itself sign.Greater = refl
same_sign_itself sign.GreaterEqual = refl

passes_example : (test : Test) → passes test (example test) ≡ true
unfolding passes example
passes_example (test.Word word) = same_word_itself word
passes_example (test.Sign sign) = same_sign_itself sign
passes_example test.Name = refl
passes_example test.Integer = refl
passes_example test.MinusBeforeDigits = refl
passes_example test.NegativeInteger = refl
passes_example test.Long = refl
passes_example test.NegativeLong = refl
passes_example test.Minus = refl
passes_example test.MinusBeforeLiteral = refl
passes_example test.MinusApart = refl
passes_example test.IntegerLiteral = refl
passes_example test.LongLiteral = refl
passes_example test.Mark = refl
passes_example test.Quotation = refl
passes_example test.NegativeIntegerLiteral = refl
passes_example test.NegativeLongLiteral = refl
passes_example test.DateText = refl

-- where the needed token ends what stands before it, it is that token
example_stops : (test : Test) (stop : Stop) → need_first test ≡ Some stop → example test ≡ token_of stop
unfolding example
example_stops (test.Sign sign.Close) stop e = ap token_of (same_Some AtClose stop e)
example_stops (test.Word word.Agg) stop e = ap token_of (same_Some AtAgg stop e)
example_stops (test.Word word.As) stop e = ap token_of (same_Some AtAs stop e)
example_stops other stop e = no_stop refl e

need_rule : (wanted : Option DataType) (test : Test) (token : Token) → passes test token ≡ true → rule wanted (symbol.Need test) token ≡ Some (Some uses.Nothing, [])
need_rule wanted test token e = rw e refl

pub need_ended : (test : Test) (more : List Symbol) (columns : Columns) → Ended columns more → Ended columns (symbol.Need test ∷ more)
need_ended test more columns rest =
    taken columns (symbol.Need test) more [] (example test) uses.Nothing (need_rule (wanted_of columns) test (example test) (passes_example test)) (λ stop e. example_stops test stop e) rest

need_ends : (test : Test) (more : List Symbol) → Ends more → Ends (symbol.Need test ∷ more)
need_ends test more rest columns = need_ended test more columns (rest columns)

-- ---- pipelines

name_rule : (wanted : Option DataType) → rule wanted (symbol.Pipeline pipelines.Name) any_name ≡ Some (Some uses.Name, [])
unfolding passes is_same_word
name_rule wanted = refl

pub name_ends : (more : List Symbol) → Ends more → Ends ((symbol.Pipeline pipelines.Name) ∷ more)
name_ends more rest = taking (symbol.Pipeline pipelines.Name) more [] any_name uses.Name name_rule refl rest

pub name_ended : (more : List Symbol) (columns : Columns) → Ended columns more → Ended columns (symbol.Pipeline pipelines.Name ∷ more)
name_ended more columns rest = taken columns (symbol.Pipeline pipelines.Name) more [] any_name uses.Name (name_rule (wanted_of columns)) (λ stop e. no_stop refl e) rest

integer_rule : (wanted : Option DataType) → rule wanted (symbol.Pipeline pipelines.Integer) zero_number ≡ Some (Some uses.Integer, [])
unfolding passes is_same_word
integer_rule wanted = refl

pub integer_ends : (more : List Symbol) → Ends more → Ends ((symbol.Pipeline pipelines.Integer) ∷ more)
integer_ends more rest = taking (symbol.Pipeline pipelines.Integer) more [] zero_number uses.Integer integer_rule refl rest

negative_integer_rule : (wanted : Option DataType) → rule wanted (symbol.Pipeline pipelines.NegativeInteger) zero_number ≡ Some (Some uses.NegativeInteger, [])
unfolding passes is_same_word
negative_integer_rule wanted = refl

pub negative_integer_ends : (more : List Symbol) → Ends more → Ends ((symbol.Pipeline pipelines.NegativeInteger) ∷ more)
negative_integer_ends more rest = taking (symbol.Pipeline pipelines.NegativeInteger) more [] zero_number uses.NegativeInteger negative_integer_rule refl rest

long_rule : (wanted : Option DataType) → rule wanted (symbol.Pipeline pipelines.Long) zero_number ≡ Some (Some uses.Long, [])
unfolding passes is_same_word
long_rule wanted = refl

pub long_ends : (more : List Symbol) → Ends more → Ends ((symbol.Pipeline pipelines.Long) ∷ more)
long_ends more rest = taking (symbol.Pipeline pipelines.Long) more [] zero_number uses.Long long_rule refl rest

negative_long_rule : (wanted : Option DataType) → rule wanted (symbol.Pipeline pipelines.NegativeLong) zero_number ≡ Some (Some uses.NegativeLong, [])
unfolding passes is_same_word
negative_long_rule wanted = refl

pub negative_long_ends : (more : List Symbol) → Ends more → Ends ((symbol.Pipeline pipelines.NegativeLong) ∷ more)
negative_long_ends more rest = taking (symbol.Pipeline pipelines.NegativeLong) more [] zero_number uses.NegativeLong negative_long_rule refl rest

pub finish_ends : (more : List Symbol) → needs (symbol.Pipeline pipelines.Finish) (behind more) ≡ true → Ends more → Ends ((symbol.Pipeline pipelines.Finish) ∷ more)
finish_ends more needed rest = leaving (symbol.Pipeline pipelines.Finish) more [] leaves_finish refl needed refl refl rest

pub steps_ends : (more : List Symbol) → needs (symbol.Pipeline pipelines.Steps) (behind more) ≡ true → Ends more → Ends ((symbol.Pipeline pipelines.Steps) ∷ more)
steps_ends more needed rest = leaving (symbol.Pipeline pipelines.Steps) more [] leaves_steps refl needed refl refl rest

pub names_ends : (more : List Symbol) → needs (symbol.Pipeline pipelines.Names) (behind more) ≡ true → Ends more → Ends ((symbol.Pipeline pipelines.Names) ∷ more)
names_ends more needed rest = leaving (symbol.Pipeline pipelines.Names) more [] leaves_names refl needed refl refl rest

source_rule : (wanted : Option DataType) → rule wanted (symbol.Pipeline pipelines.Source) (token.Word word.Table) ≡ Some (Some uses.Nothing, (pipeline pipelines.Name ∷ does (action.Step stepactions.Read) ∷ []))
unfolding passes is_same_word
source_rule wanted = refl

pub source_ends : (more : List Symbol) → Ends more → Ends ((symbol.Pipeline pipelines.Source) ∷ more)
source_ends more rest = taking (symbol.Pipeline pipelines.Source) more (pipeline pipelines.Name ∷ does (action.Step stepactions.Read) ∷ []) (token.Word word.Table) uses.Nothing source_rule refl (name_ends (does (action.Step stepactions.Read) ∷ more) (act_ends (action.Step stepactions.Read) more rest))

mode_rule : (wanted : Option DataType) → rule wanted (symbol.Pipeline pipelines.Mode) (token.Word word.Append) ≡ Some (Some uses.Nothing, (does (action.Choice choices.Append) ∷ []))
unfolding passes is_same_word
mode_rule wanted = refl

pub mode_ends : (more : List Symbol) → Ends more → Ends ((symbol.Pipeline pipelines.Mode) ∷ more)
mode_ends more rest = taking (symbol.Pipeline pipelines.Mode) more (does (action.Choice choices.Append) ∷ []) (token.Word word.Append) uses.Nothing mode_rule refl (act_ends (action.Choice choices.Append) more rest)

step_or_write_rule : (wanted : Option DataType) → rule wanted (symbol.Pipeline pipelines.StepOrWrite) (token.Word word.Write) ≡ Some (Some uses.Nothing, (pipeline pipelines.Name ∷ pipeline pipelines.Mode ∷ does (action.Step stepactions.Write) ∷ []))
unfolding passes is_same_word
step_or_write_rule wanted = refl

pub step_or_write_ends : (more : List Symbol) → Ends more → Ends ((symbol.Pipeline pipelines.StepOrWrite) ∷ more)
step_or_write_ends more rest = taking (symbol.Pipeline pipelines.StepOrWrite) more (pipeline pipelines.Name ∷ pipeline pipelines.Mode ∷ does (action.Step stepactions.Write) ∷ []) (token.Word word.Write) uses.Nothing step_or_write_rule refl (name_ends (pipeline pipelines.Mode ∷ does (action.Step stepactions.Write) ∷ more) (mode_ends (does (action.Step stepactions.Write) ∷ more) (act_ends (action.Step stepactions.Write) more rest)))

pub whole_ends : (more : List Symbol) → needs (symbol.Pipeline pipelines.Whole) (behind more) ≡ true → Ends more → Ends ((symbol.Pipeline pipelines.Whole) ∷ more)
whole_ends more needed rest = going (symbol.Pipeline pipelines.Whole) more (pipeline pipelines.Source ∷ pipeline pipelines.Finish ∷ []) (λ wanted token. refl) refl (source_ends (pipeline pipelines.Finish ∷ more) (finish_ends more needed rest))

pub nested_ends : (more : List Symbol) → Ends more → Ends ((symbol.Pipeline pipelines.Nested) ∷ more)
nested_ends more rest = going (symbol.Pipeline pipelines.Nested) more (need (test.Sign sign.Open) ∷ pipeline pipelines.Source ∷ pipeline pipelines.Steps ∷ need (test.Sign sign.Close) ∷ []) (λ wanted token. refl) refl (need_ends (test.Sign sign.Open) (pipeline pipelines.Source ∷ pipeline pipelines.Steps ∷ need (test.Sign sign.Close) ∷ more) (source_ends (pipeline pipelines.Steps ∷ need (test.Sign sign.Close) ∷ more) (steps_ends (need (test.Sign sign.Close) ∷ more) refl (need_ends (test.Sign sign.Close) more rest))))

-- ---- units

pub unit_name_ends : (more : List Symbol) → needs (symbol.Unit units.UnitName) (behind more) ≡ true → Ends more → Ends ((symbol.Unit units.UnitName) ∷ more)
unit_name_ends more needed rest = leaving (symbol.Unit units.UnitName) more (does (action.Unit unitactions.Identifier) ∷ does (action.Unit unitactions.Attribute) ∷ []) leaves_unit_name refl needed refl refl (act_ends (action.Unit unitactions.Identifier) (does (action.Unit unitactions.Attribute) ∷ more) (act_ends (action.Unit unitactions.Attribute) more rest))

pub parts_ends : (more : List Symbol) → needs (symbol.Unit units.Parts) (behind more) ≡ true → Ends more → Ends ((symbol.Unit units.Parts) ∷ more)
parts_ends more needed rest = leaving (symbol.Unit units.Parts) more [] leaves_parts refl needed refl refl rest

unit_rule : (wanted : Option DataType) → rule wanted (symbol.Unit units.Unit) quotation ≡ Some (Some uses.Text, [])
unfolding passes is_same_word
unit_rule wanted = refl

unit_quotes : (more : List Symbol) → Ends more → Quotes (symbol.Unit units.Unit ∷ more)
unit_quotes more rest = quoting (symbol.Unit units.Unit) more [] uses.Text unit_rule refl rest

pub unit_ends : (more : List Symbol) → Ends more → Ends (symbol.Unit units.Unit ∷ more)
unit_ends more rest = quoted_ends _ (unit_quotes more rest)

negative_literal_rule : (wanted : Option DataType) → rule wanted (symbol.Unit units.NegativeLiteral) zero_number ≡ Some (Some uses.NegativeIntegerLiteral, [])
unfolding passes is_same_word
negative_literal_rule wanted = refl

pub negative_literal_ends : (more : List Symbol) → Ends more → Ends ((symbol.Unit units.NegativeLiteral) ∷ more)
negative_literal_ends more rest = taking (symbol.Unit units.NegativeLiteral) more [] zero_number uses.NegativeIntegerLiteral negative_literal_rule refl rest

date_text_rule : (wanted : Option DataType) → rule wanted (symbol.Unit units.DateText) (token.Quotation (record { text = []; day = Some (pos 0) })) ≡ Some (Some uses.Date, [])
unfolding passes is_same_word
date_text_rule wanted = refl

pub date_text_ends : (more : List Symbol) → Ends more → Ends ((symbol.Unit units.DateText) ∷ more)
date_text_ends more rest = taking (symbol.Unit units.DateText) more [] (token.Quotation (record { text = []; day = Some (pos 0) })) uses.Date date_text_rule refl rest

plan_number_rule : (wanted : Option DataType) → rule wanted (symbol.Unit units.PlanNumber) zero_number ≡ Some (Some uses.Long, [])
unfolding passes is_same_word
plan_number_rule wanted = refl

pub plan_number_ends : (more : List Symbol) → Ends more → Ends ((symbol.Unit units.PlanNumber) ∷ more)
plan_number_ends more rest = taking (symbol.Unit units.PlanNumber) more [] zero_number uses.Long plan_number_rule refl rest

part_rule : (wanted : Option DataType) → rule wanted (symbol.Unit units.Part) any_name ≡ Some (Some uses.Part, [])
unfolding passes is_same_word
part_rule wanted = refl

pub part_ends : (more : List Symbol) → Ends more → Ends ((symbol.Unit units.Part) ∷ more)
part_ends more rest = taking (symbol.Unit units.Part) more [] any_name uses.Part part_rule refl rest

kind_rule : (wanted : Option DataType) → rule wanted (symbol.Unit units.Kind) (token.Word word.Integer) ≡ Some (Some uses.Nothing, (does (action.Kind kind.Integer) ∷ []))
unfolding passes is_same_word
kind_rule wanted = refl

pub kind_ends : (more : List Symbol) → Ends more → Ends ((symbol.Unit units.Kind) ∷ more)
kind_ends more rest = taking (symbol.Unit units.Kind) more (does (action.Kind kind.Integer) ∷ []) (token.Word word.Integer) uses.Nothing kind_rule refl (act_ends (action.Kind kind.Integer) more rest)

arguments_rule : (wanted : Option DataType) → rule wanted (symbol.Unit units.Arguments) (token.Sign sign.Star) ≡ Some (Some uses.Nothing, (need (test.Sign sign.Close) ∷ does (action.Unit unitactions.Star) ∷ does (action.Unit unitactions.Call) ∷ []))
unfolding passes is_same_word
arguments_rule wanted = refl

pub arguments_ends : (more : List Symbol) → Ends more → Ends ((symbol.Unit units.Arguments) ∷ more)
arguments_ends more rest = taking (symbol.Unit units.Arguments) more (need (test.Sign sign.Close) ∷ does (action.Unit unitactions.Star) ∷ does (action.Unit unitactions.Call) ∷ []) (token.Sign sign.Star) uses.Nothing arguments_rule refl (need_ends (test.Sign sign.Close) (does (action.Unit unitactions.Star) ∷ does (action.Unit unitactions.Call) ∷ more) (act_ends (action.Unit unitactions.Star) (does (action.Unit unitactions.Call) ∷ more) (act_ends (action.Unit unitactions.Call) more rest)))

-- ---- expressions

pub ors_ends : (more : List Symbol) → needs (symbol.Expression expressions.Ors) (behind more) ≡ true → Ends more → Ends ((symbol.Expression expressions.Ors) ∷ more)
ors_ends more needed rest = leaving (symbol.Expression expressions.Ors) more [] leaves_ors refl needed refl refl rest

pub ands_ends : (more : List Symbol) → needs (symbol.Expression expressions.Ands) (behind more) ≡ true → Ends more → Ends ((symbol.Expression expressions.Ands) ∷ more)
ands_ends more needed rest = leaving (symbol.Expression expressions.Ands) more [] leaves_ands refl needed refl refl rest

pub comparison_ends : (more : List Symbol) → needs (symbol.Expression expressions.Comparison) (behind more) ≡ true → Ends more → Ends ((symbol.Expression expressions.Comparison) ∷ more)
comparison_ends more needed rest = leaving (symbol.Expression expressions.Comparison) more [] leaves_comparison refl needed refl refl rest

pub sums_ends : (more : List Symbol) → needs (symbol.Expression expressions.Sums) (behind more) ≡ true → Ends more → Ends ((symbol.Expression expressions.Sums) ∷ more)
sums_ends more needed rest = leaving (symbol.Expression expressions.Sums) more [] leaves_sums refl needed refl refl rest

pub products_ends : (more : List Symbol) → needs (symbol.Expression expressions.Products) (behind more) ≡ true → Ends more → Ends ((symbol.Expression expressions.Products) ∷ more)
products_ends more needed rest = leaving (symbol.Expression expressions.Products) more [] leaves_products refl needed refl refl rest

pub exprs_ends : (more : List Symbol) → needs (symbol.Expression expressions.Exprs) (behind more) ≡ true → Ends more → Ends ((symbol.Expression expressions.Exprs) ∷ more)
exprs_ends more needed rest = leaving (symbol.Expression expressions.Exprs) more [] leaves_exprs refl needed refl refl rest

pub as_ends : (more : List Symbol) → needs (symbol.Expression expressions.As) (behind more) ≡ true → Ends more → Ends ((symbol.Expression expressions.As) ∷ more)
as_ends more needed rest = leaving (symbol.Expression expressions.As) more [] leaves_as refl needed refl refl rest

pub items_ends : (more : List Symbol) → needs (symbol.Expression expressions.Items) (behind more) ≡ true → Ends more → Ends ((symbol.Expression expressions.Items) ∷ more)
items_ends more needed rest = leaving (symbol.Expression expressions.Items) more [] leaves_items refl needed refl refl rest

prod_rule : (wanted : Option DataType) → rule wanted (symbol.Expression expressions.Prod) quotation ≡ Some (None, (unit units.Unit ∷ expression expressions.Products ∷ []))
unfolding passes is_same_word
prod_rule wanted = refl

prod_quotes : (more : List Symbol) → needs (symbol.Expression expressions.Prod) (behind more) ≡ true → Ends more → Quotes ((symbol.Expression expressions.Prod) ∷ more)
prod_quotes more needed rest = going_quoted (symbol.Expression expressions.Prod) more (unit units.Unit ∷ expression expressions.Products ∷ []) prod_rule refl (unit_quotes (expression expressions.Products ∷ more) (products_ends more needed rest))

pub prod_ends : (more : List Symbol) → needs (symbol.Expression expressions.Prod) (behind more) ≡ true → Ends more → Ends ((symbol.Expression expressions.Prod) ∷ more)
prod_ends more needed rest = quoted_ends _ (prod_quotes more needed rest)

sum_rule : (wanted : Option DataType) → rule wanted (symbol.Expression expressions.Sum) quotation ≡ Some (None, (expression expressions.Prod ∷ expression expressions.Sums ∷ []))
unfolding passes is_same_word
sum_rule wanted = refl

sum_quotes : (more : List Symbol) → needs (symbol.Expression expressions.Sum) (behind more) ≡ true → Ends more → Quotes ((symbol.Expression expressions.Sum) ∷ more)
sum_quotes more needed rest = going_quoted (symbol.Expression expressions.Sum) more (expression expressions.Prod ∷ expression expressions.Sums ∷ []) sum_rule refl (prod_quotes (expression expressions.Sums ∷ more) needed (sums_ends more needed rest))

pub sum_ends : (more : List Symbol) → needs (symbol.Expression expressions.Sum) (behind more) ≡ true → Ends more → Ends ((symbol.Expression expressions.Sum) ∷ more)
sum_ends more needed rest = quoted_ends _ (sum_quotes more needed rest)

neg_rule : (wanted : Option DataType) → rule wanted (symbol.Expression expressions.Neg) quotation ≡ Some (None, (expression expressions.Sum ∷ expression expressions.Comparison ∷ []))
unfolding passes is_same_word
neg_rule wanted = refl

neg_quotes : (more : List Symbol) → needs (symbol.Expression expressions.Neg) (behind more) ≡ true → Ends more → Quotes ((symbol.Expression expressions.Neg) ∷ more)
neg_quotes more needed rest = going_quoted (symbol.Expression expressions.Neg) more (expression expressions.Sum ∷ expression expressions.Comparison ∷ []) neg_rule refl (sum_quotes (expression expressions.Comparison ∷ more) needed (comparison_ends more needed rest))

pub neg_ends : (more : List Symbol) → needs (symbol.Expression expressions.Neg) (behind more) ≡ true → Ends more → Ends ((symbol.Expression expressions.Neg) ∷ more)
neg_ends more needed rest = quoted_ends _ (neg_quotes more needed rest)

conj_rule : (wanted : Option DataType) → rule wanted (symbol.Expression expressions.Conj) quotation ≡ Some (None, (expression expressions.Neg ∷ expression expressions.Ands ∷ []))
unfolding passes is_same_word
conj_rule wanted = refl

conj_quotes : (more : List Symbol) → needs (symbol.Expression expressions.Conj) (behind more) ≡ true → Ends more → Quotes ((symbol.Expression expressions.Conj) ∷ more)
conj_quotes more needed rest = going_quoted (symbol.Expression expressions.Conj) more (expression expressions.Neg ∷ expression expressions.Ands ∷ []) conj_rule refl (neg_quotes (expression expressions.Ands ∷ more) needed (ands_ends more needed rest))

pub conj_ends : (more : List Symbol) → needs (symbol.Expression expressions.Conj) (behind more) ≡ true → Ends more → Ends ((symbol.Expression expressions.Conj) ∷ more)
conj_ends more needed rest = quoted_ends _ (conj_quotes more needed rest)

expr_rule : (wanted : Option DataType) → rule wanted (symbol.Expression expressions.Expr) quotation ≡ Some (None, (expression expressions.Conj ∷ expression expressions.Ors ∷ []))
unfolding passes is_same_word
expr_rule wanted = refl

expr_quotes : (more : List Symbol) → needs (symbol.Expression expressions.Expr) (behind more) ≡ true → Ends more → Quotes ((symbol.Expression expressions.Expr) ∷ more)
expr_quotes more needed rest = going_quoted (symbol.Expression expressions.Expr) more (expression expressions.Conj ∷ expression expressions.Ors ∷ []) expr_rule refl (conj_quotes (expression expressions.Ors ∷ more) needed (ors_ends more needed rest))

pub expr_ends : (more : List Symbol) → needs (symbol.Expression expressions.Expr) (behind more) ≡ true → Ends more → Ends ((symbol.Expression expressions.Expr) ∷ more)
expr_ends more needed rest = quoted_ends _ (expr_quotes more needed rest)

is_null_rule : (wanted : Option DataType) → rule wanted (symbol.Expression expressions.IsNull) (token.Word word.Null) ≡ Some (Some uses.Nothing, (does (action.Unary unarys.IsNull) ∷ []))
unfolding passes is_same_word
is_null_rule wanted = refl

pub is_null_ends : (more : List Symbol) → Ends more → Ends ((symbol.Expression expressions.IsNull) ∷ more)
is_null_ends more rest = taking (symbol.Expression expressions.IsNull) more (does (action.Unary unarys.IsNull) ∷ []) (token.Word word.Null) uses.Nothing is_null_rule refl (act_ends (action.Unary unarys.IsNull) more rest)

item_rule : (wanted : Option DataType) → rule wanted (symbol.Expression expressions.Item) (token.Sign sign.Star) ≡ Some (Some uses.Nothing, (does (action.Unit unitactions.Star) ∷ []))
unfolding passes is_same_word
item_rule wanted = refl

pub item_ends : (more : List Symbol) → Ends more → Ends ((symbol.Expression expressions.Item) ∷ more)
item_ends more rest = taking (symbol.Expression expressions.Item) more (does (action.Unit unitactions.Star) ∷ []) (token.Sign sign.Star) uses.Nothing item_rule refl (act_ends (action.Unit unitactions.Star) more rest)

pub operators_ends : (more : List Symbol) → needs (symbol.Expression expressions.Operators) (behind more) ≡ true → Ends more → Ends ((symbol.Expression expressions.Operators) ∷ more)
operators_ends more needed rest = going (symbol.Expression expressions.Operators) more (expression expressions.Products ∷ expression expressions.Sums ∷ expression expressions.Comparison ∷ expression expressions.Ands ∷ expression expressions.Ors ∷ []) (λ wanted token. refl) refl (products_ends (expression expressions.Sums ∷ expression expressions.Comparison ∷ expression expressions.Ands ∷ expression expressions.Ors ∷ more) needed (sums_ends (expression expressions.Comparison ∷ expression expressions.Ands ∷ expression expressions.Ors ∷ more) needed (comparison_ends (expression expressions.Ands ∷ expression expressions.Ors ∷ more) needed (ands_ends (expression expressions.Ors ∷ more) needed (ors_ends more needed rest)))))

-- what stands behind, where it is no `as`, is there
is_there : (found : Option Stop) → needs (symbol.Expression expressions.As) found ≡ true → needs (symbol.Expression expressions.Operators) found ≡ true
is_there None needed = needed
is_there (Some stop) needed = refl

pub item_name_ends : (more : List Symbol) → needs (symbol.Expression expressions.ItemName) (behind more) ≡ true → Ends more → Ends ((symbol.Expression expressions.ItemName) ∷ more)
item_name_ends more needed rest = leaving (symbol.Expression expressions.ItemName) more (does (action.Unit unitactions.Identifier) ∷ does (action.Unit unitactions.Attribute) ∷ expression expressions.Operators ∷ expression expressions.As ∷ []) leaves_item_name refl needed refl refl (act_ends (action.Unit unitactions.Identifier) (does (action.Unit unitactions.Attribute) ∷ expression expressions.Operators ∷ expression expressions.As ∷ more) (act_ends (action.Unit unitactions.Attribute) (expression expressions.Operators ∷ expression expressions.As ∷ more) (operators_ends (expression expressions.As ∷ more) (is_there (behind more) needed) (as_ends more needed rest))))

item_part_rule : (wanted : Option DataType) → rule wanted (symbol.Expression expressions.ItemPart) (token.Sign sign.Star) ≡ Some (Some uses.Nothing, (does (action.Unit unitactions.StarOf) ∷ []))
unfolding passes is_same_word
item_part_rule wanted = refl

pub item_part_ends : (more : List Symbol) → Ends more → Ends ((symbol.Expression expressions.ItemPart) ∷ more)
item_part_ends more rest = taking (symbol.Expression expressions.ItemPart) more (does (action.Unit unitactions.StarOf) ∷ []) (token.Sign sign.Star) uses.Nothing item_part_rule refl (act_ends (action.Unit unitactions.StarOf) more rest)

pub argument_list_ends : (more : List Symbol) → needs (symbol.Unit units.ArgumentList) (behind more) ≡ true → Ends more → Ends ((symbol.Unit units.ArgumentList) ∷ more)
argument_list_ends more needed rest = leaving (symbol.Unit units.ArgumentList) more [] leaves_argument_list refl needed refl refl rest

-- ---- steps

pub assignments_ends : (more : List Symbol) → needs (symbol.Step steps.Assignments) (behind more) ≡ true → Ends more → Ends ((symbol.Step steps.Assignments) ∷ more)
assignments_ends more needed rest = leaving (symbol.Step steps.Assignments) more [] leaves_assignments refl needed refl refl rest

pub renamings_ends : (more : List Symbol) → needs (symbol.Step steps.Renamings) (behind more) ≡ true → Ends more → Ends ((symbol.Step steps.Renamings) ∷ more)
renamings_ends more needed rest = leaving (symbol.Step steps.Renamings) more [] leaves_renamings refl needed refl refl rest

pub keys_ends : (more : List Symbol) → needs (symbol.Step steps.Keys) (behind more) ≡ true → Ends more → Ends ((symbol.Step steps.Keys) ∷ more)
keys_ends more needed rest = leaving (symbol.Step steps.Keys) more [] leaves_keys refl needed refl refl rest

pub direction_ends : (more : List Symbol) → needs (symbol.Step steps.Direction) (behind more) ≡ true → Ends more → Ends ((symbol.Step steps.Direction) ∷ more)
direction_ends more needed rest = leaving (symbol.Step steps.Direction) more (does (action.Choice choices.Ascending) ∷ []) leaves_direction refl needed refl refl (act_ends (action.Choice choices.Ascending) more rest)

pub null_order_ends : (more : List Symbol) → needs (symbol.Step steps.NullOrder) (behind more) ≡ true → Ends more → Ends ((symbol.Step steps.NullOrder) ∷ more)
null_order_ends more needed rest = leaving (symbol.Step steps.NullOrder) more (does (action.Choice choices.NullsByDirection) ∷ []) leaves_null_order refl needed refl refl (act_ends (action.Choice choices.NullsByDirection) more rest)

pub distinct_names_ends : (more : List Symbol) → needs (symbol.Step steps.DistinctNames) (behind more) ≡ true → Ends more → Ends ((symbol.Step steps.DistinctNames) ∷ more)
distinct_names_ends more needed rest = leaving (symbol.Step steps.DistinctNames) more (does (action.Step stepactions.Deduplicate) ∷ []) leaves_distinct_names refl needed refl refl (act_ends (action.Step stepactions.Deduplicate) more rest)

pub join_end_ends : (more : List Symbol) → needs (symbol.Step steps.JoinEnd) (behind more) ≡ true → Ends more → Ends ((symbol.Step steps.JoinEnd) ∷ more)
join_end_ends more needed rest = leaving (symbol.Step steps.JoinEnd) more (does (action.Step stepactions.JoinAll) ∷ []) leaves_join_end refl needed refl refl (act_ends (action.Step stepactions.JoinAll) more rest)

pub group_keys_ends : (more : List Symbol) → needs (symbol.Step steps.GroupKeys) (behind more) ≡ true → Ends more → Ends ((symbol.Step steps.GroupKeys) ∷ more)
group_keys_ends more needed rest = leaving (symbol.Step steps.GroupKeys) more [] leaves_group_keys refl needed refl refl rest

step_rule : (wanted : Option DataType) → rule wanted (symbol.Step steps.Step) (token.Word word.Limit) ≡ Some (Some uses.Nothing, (pipeline pipelines.Integer ∷ does (action.Step stepactions.Limit) ∷ []))
unfolding passes is_same_word
step_rule wanted = refl

pub step_ends : (more : List Symbol) → Ends more → Ends ((symbol.Step steps.Step) ∷ more)
step_ends more rest = taking (symbol.Step steps.Step) more (pipeline pipelines.Integer ∷ does (action.Step stepactions.Limit) ∷ []) (token.Word word.Limit) uses.Nothing step_rule refl (integer_ends (does (action.Step stepactions.Limit) ∷ more) (act_ends (action.Step stepactions.Limit) more rest))

pub assignment_ends : (more : List Symbol) → needs (symbol.Step steps.Assignment) (behind more) ≡ true → Ends more → Ends ((symbol.Step steps.Assignment) ∷ more)
assignment_ends more needed rest = going (symbol.Step steps.Assignment) more (pipeline pipelines.Name ∷ need (test.Sign sign.Equal) ∷ expression expressions.Expr ∷ does (action.Part parts.Assign) ∷ []) (λ wanted token. refl) refl (name_ends (need (test.Sign sign.Equal) ∷ expression expressions.Expr ∷ does (action.Part parts.Assign) ∷ more) (need_ends (test.Sign sign.Equal) (expression expressions.Expr ∷ does (action.Part parts.Assign) ∷ more) (expr_ends (does (action.Part parts.Assign) ∷ more) needed (act_ends (action.Part parts.Assign) more rest))))

pub renaming_ends : (more : List Symbol) → Ends more → Ends ((symbol.Step steps.Renaming) ∷ more)
renaming_ends more rest = going (symbol.Step steps.Renaming) more (pipeline pipelines.Name ∷ need (test.Word word.As) ∷ pipeline pipelines.Name ∷ does (action.Part parts.Renaming) ∷ []) (λ wanted token. refl) refl (name_ends (need (test.Word word.As) ∷ pipeline pipelines.Name ∷ does (action.Part parts.Renaming) ∷ more) (need_ends (test.Word word.As) (pipeline pipelines.Name ∷ does (action.Part parts.Renaming) ∷ more) (name_ends (does (action.Part parts.Renaming) ∷ more) (act_ends (action.Part parts.Renaming) more rest))))

pub key_ends : (more : List Symbol) → needs (symbol.Step steps.Key) (behind more) ≡ true → Ends more → Ends ((symbol.Step steps.Key) ∷ more)
key_ends more needed rest = going (symbol.Step steps.Key) more (expression expressions.Expr ∷ step steps.Direction ∷ step steps.NullOrder ∷ does (action.Part parts.Order) ∷ []) (λ wanted token. refl) refl (expr_ends (step steps.Direction ∷ step steps.NullOrder ∷ does (action.Part parts.Order) ∷ more) needed (direction_ends (step steps.NullOrder ∷ does (action.Part parts.Order) ∷ more) needed (null_order_ends (does (action.Part parts.Order) ∷ more) needed (act_ends (action.Part parts.Order) more rest))))

null_place_rule : (wanted : Option DataType) → rule wanted (symbol.Step steps.NullPlace) (token.Word word.First) ≡ Some (Some uses.Nothing, (does (action.Choice choices.NullsFirst) ∷ []))
unfolding passes is_same_word
null_place_rule wanted = refl

pub null_place_ends : (more : List Symbol) → Ends more → Ends ((symbol.Step steps.NullPlace) ∷ more)
null_place_ends more rest = taking (symbol.Step steps.NullPlace) more (does (action.Choice choices.NullsFirst) ∷ []) (token.Word word.First) uses.Nothing null_place_rule refl (act_ends (action.Choice choices.NullsFirst) more rest)

join_kind_rule : (wanted : Option DataType) → rule wanted (symbol.Step steps.JoinKind) (token.Word word.Inner) ≡ Some (Some uses.Nothing, (does (action.Choice choices.InnerJoin) ∷ []))
unfolding passes is_same_word
join_kind_rule wanted = refl

pub join_kind_ends : (more : List Symbol) → Ends more → Ends ((symbol.Step steps.JoinKind) ∷ more)
join_kind_ends more rest = taking (symbol.Step steps.JoinKind) more (does (action.Choice choices.InnerJoin) ∷ []) (token.Word word.Inner) uses.Nothing join_kind_rule refl (act_ends (action.Choice choices.InnerJoin) more rest)

all_rule : (wanted : Option DataType) → rule wanted (symbol.Step steps.All) (token.Word word.All) ≡ Some (Some uses.Nothing, (does (action.Choice choices.All) ∷ []))
unfolding passes is_same_word
all_rule wanted = refl

pub all_ends : (more : List Symbol) → Ends more → Ends ((symbol.Step steps.All) ∷ more)
all_ends more rest = taking (symbol.Step steps.All) more (does (action.Choice choices.All) ∷ []) (token.Word word.All) uses.Nothing all_rule refl (act_ends (action.Choice choices.All) more rest)
