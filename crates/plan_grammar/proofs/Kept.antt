-- Each production of the grammar keeps what a reader's stack needs.
use Rattle.std.proofs.Common.{◌≡◌, Bool, true, false, cond, refl, rules}
use Rattle.std.specs.Prelude.{Option, Some, None}
use Rattle.cn_types.specs.declared.value.DataType.{DataType}
use Rattle.cn_types.specs.declared.value.DataType.TheVariants as kind
use Rattle.plan_tokens.specs.declared.token.Token.{Token}
use Rattle.plan_grammar.specs.declared.symbol.Symbol.{Symbol}
use Rattle.plan_grammar.specs.declared.symbol.Symbol.TheVariants as symbol
use Rattle.plan_grammar.specs.declared.symbol.PipelineSymbol.{PipelineSymbol}
use Rattle.plan_grammar.specs.declared.symbol.PipelineSymbol.TheVariants as pipelines
use Rattle.plan_grammar.specs.declared.symbol.StepSymbol.{StepSymbol}
use Rattle.plan_grammar.specs.declared.symbol.StepSymbol.TheVariants as steps
use Rattle.plan_grammar.specs.declared.symbol.ExpressionSymbol.{ExpressionSymbol}
use Rattle.plan_grammar.specs.declared.symbol.ExpressionSymbol.TheVariants as expressions
use Rattle.plan_grammar.specs.declared.symbol.UnitSymbol.{UnitSymbol}
use Rattle.plan_grammar.specs.declared.symbol.UnitSymbol.TheVariants as units
use Rattle.plan_grammar.specs.declared.symbol.ValuesSymbol.{ValuesSymbol}
use Rattle.plan_grammar.specs.declared.symbol.ValuesSymbol.TheVariants as valuess
use Rattle.plan_grammar.specs.Productions.{Production, or_else}
use Rattle.plan_grammar.specs.PipelineRules.{pipeline_rule}
use Rattle.plan_grammar.specs.StepRules.{step_rule}
use Rattle.plan_grammar.specs.ExpressionRules.{expression_rule}
use Rattle.plan_grammar.specs.UnitRules.{unit_rule}
use Rattle.plan_grammar.specs.ValuesRules.{values_rule, kind_rule, minus_cell_rule}
use Rattle.plan_grammar.specs.Grammar.{rule}
use Rattle.plan_grammar.proofs.Stacks.{keeps}

-- either of two productions
pick : (one : Symbol) (test : Bool) (x y : Option Production) → keeps one x ≡ true → keeps one y ≡ true → keeps one (cond test x y) ≡ true
pick one true x y e f = e
pick one false x y e f = f

either : (one : Symbol) (x y : Option Production) → keeps one x ≡ true → keeps one y ≡ true → keeps one (or_else x y) ≡ true
either one None y e f = f
either one (Some x) y e f = e

pipeline_keeps : (one : PipelineSymbol) (token : Token) → keeps (symbol.Pipeline one) (pipeline_rule one token) ≡ true
pipeline_keeps pipelines.Whole token = refl
pipeline_keeps pipelines.Source token = search (rules, pick)
pipeline_keeps pipelines.Finish token = search (rules, pick)
pipeline_keeps pipelines.StepOrWrite token = search (rules, pick)
pipeline_keeps pipelines.Mode token = search (rules, pick)
pipeline_keeps pipelines.Nested token = refl
pipeline_keeps pipelines.Steps token = search (rules, pick)
pipeline_keeps pipelines.Name token = search (rules, pick)
pipeline_keeps pipelines.Names token = search (rules, pick)
pipeline_keeps pipelines.Integer token = search (rules, pick)
pipeline_keeps pipelines.NegativeInteger token = search (rules, pick)
pipeline_keeps pipelines.Long token = search (rules, pick)
pipeline_keeps pipelines.NegativeLong token = search (rules, pick)

step_keeps : (one : StepSymbol) (token : Token) → keeps (symbol.Step one) (step_rule one token) ≡ true
step_keeps steps.Step token = search (rules, pick, either)
step_keeps steps.Assignment token = refl
step_keeps steps.Assignments token = search (rules, pick)
step_keeps steps.Renaming token = refl
step_keeps steps.Renamings token = search (rules, pick)
step_keeps steps.Key token = refl
step_keeps steps.Keys token = search (rules, pick)
step_keeps steps.Direction token = search (rules, pick)
step_keeps steps.NullOrder token = search (rules, pick)
step_keeps steps.NullPlace token = search (rules, pick)
step_keeps steps.DistinctNames token = search (rules, pick)
step_keeps steps.GroupKeys token = search (rules, pick)
step_keeps steps.JoinKind token = search (rules, pick)
step_keeps steps.JoinEnd token = search (rules, pick)
step_keeps steps.All token = search (rules, pick)

expression_keeps : (one : ExpressionSymbol) (token : Token) → keeps (symbol.Expression one) (expression_rule one token) ≡ true
expression_keeps expressions.Item token = search (rules, pick)
expression_keeps expressions.ItemName token = search (rules, pick)
expression_keeps expressions.ItemPart token = search (rules, pick)
expression_keeps expressions.Items token = search (rules, pick)
expression_keeps expressions.As token = search (rules, pick)
expression_keeps expressions.Operators token = refl
expression_keeps expressions.Expr token = refl
expression_keeps expressions.Ors token = search (rules, pick)
expression_keeps expressions.Conj token = refl
expression_keeps expressions.Ands token = search (rules, pick)
expression_keeps expressions.Neg token = search (rules, pick)
expression_keeps expressions.Comparison token = search (rules, pick)
expression_keeps expressions.IsNull token = search (rules, pick)
expression_keeps expressions.Sum token = refl
expression_keeps expressions.Sums token = search (rules, pick)
expression_keeps expressions.Prod token = refl
expression_keeps expressions.Products token = search (rules, pick)
expression_keeps expressions.Exprs token = search (rules, pick)

unit_keeps : (one : UnitSymbol) (token : Token) → keeps (symbol.Unit one) (unit_rule one token) ≡ true
unit_keeps units.Unit token = search (rules, pick, either)
unit_keeps units.NegativeLiteral token = search (rules, pick)
unit_keeps units.DateText token = search (rules, pick)
unit_keeps units.PlanNumber token = search (rules, pick)
unit_keeps units.UnitName token = search (rules, pick)
unit_keeps units.Part token = search (rules, pick)
unit_keeps units.Parts token = search (rules, pick)
unit_keeps units.Arguments token = search (rules, pick)
unit_keeps units.ArgumentList token = search (rules, pick)
unit_keeps units.Kind token = search (rules, pick)

minus_keeps : (kind : DataType) (token : Token) → keeps (symbol.Values valuess.MinusCell) (minus_cell_rule kind token) ≡ true
minus_keeps kind.Integer token = search (rules, pick)
minus_keeps kind.Long token = search (rules, pick)
minus_keeps kind.Text token = refl
minus_keeps kind.Boolean token = refl
minus_keeps kind.Date token = refl

kind_keeps : (kind : DataType) (token : Token) → keeps (symbol.Values valuess.Cell) (kind_rule kind token) ≡ true
kind_keeps kind.Integer token = search (rules, pick)
kind_keeps kind.Long token = search (rules, pick)
kind_keeps kind.Text token = search (rules, pick)
kind_keeps kind.Boolean token = search (rules, pick)
kind_keeps kind.Date token = search (rules, pick)

values_keeps : (wanted : Option DataType) (one : ValuesSymbol) (token : Token) → keeps (symbol.Values one) (values_rule wanted one token) ≡ true
values_keeps wanted valuess.Column token = refl
values_keeps wanted valuess.Columns token = search (rules, pick)
values_keeps wanted valuess.ColumnKind token = search (rules, pick)
values_keeps wanted valuess.Rows token = search (rules, pick)
values_keeps None valuess.Cell token = refl
values_keeps (Some kind) valuess.Cell token = search (rules, pick, kind_keeps)
values_keeps None valuess.MinusCell token = refl
values_keeps (Some kind) valuess.MinusCell token = minus_keeps kind token
values_keeps wanted valuess.DateCell token = search (rules, pick)
values_keeps None valuess.CellEnd token = search (rules, pick)
values_keeps (Some kind) valuess.CellEnd token = search (rules, pick)

-- each production keeps it
pub rule_keeps : (wanted : Option DataType) (one : Symbol) (token : Token) → keeps one (rule wanted one token) ≡ true
rule_keeps wanted (symbol.Pipeline one) token = pipeline_keeps one token
rule_keeps wanted (symbol.Step one) token = step_keeps one token
rule_keeps wanted (symbol.Expression one) token = expression_keeps one token
rule_keeps wanted (symbol.Unit one) token = unit_keeps one token
rule_keeps wanted (symbol.Values one) token = values_keeps wanted one token
rule_keeps wanted (symbol.Need test) token = search (rules, pick)
rule_keeps wanted (symbol.Act action) token = refl
rule_keeps wanted (symbol.Column kind) token = refl
rule_keeps wanted symbol.Row token = refl
