-- The grammar of units of expressions, a line a production.
use Rattle.std.specs.Prelude.{if◌then◌else◌, [], ◌∷◌, Option, None}
use Rattle.cn_types.specs.declared.value.DataType.TheVariants as kind
use Rattle.plan_tokens.specs.declared.keyword.Keyword.TheVariants as word
use Rattle.plan_tokens.specs.declared.token.Sign.TheVariants as sign
use Rattle.plan_tokens.specs.declared.token.Token.{Token}
use Rattle.plan_grammar.specs.declared.symbol.Action.TheVariants as action
use Rattle.plan_grammar.specs.declared.symbol.Use.TheVariants as uses
use Rattle.plan_grammar.specs.declared.symbol.Unary.TheVariants as unarys
use Rattle.plan_grammar.specs.declared.symbol.UnitAction.TheVariants as unitactions
use Rattle.plan_grammar.specs.declared.symbol.Test.TheVariants as test
use Rattle.plan_grammar.specs.declared.symbol.PipelineSymbol.TheVariants as pipelines
use Rattle.plan_grammar.specs.declared.symbol.ExpressionSymbol.TheVariants as expressions
use Rattle.plan_grammar.specs.declared.symbol.UnitSymbol.{UnitSymbol}
use Rattle.plan_grammar.specs.declared.symbol.UnitSymbol.TheVariants as units
use Rattle.plan_grammar.specs.Tests.{passes}
use Rattle.plan_grammar.specs.Productions.{Production, takes, goes, or_else, does, need, pipeline, expression, unit}

-- literals
abbrev pub literal_rule : Token → Option Production
literal_rule token =
    if passes test.MinusBeforeLiteral token then takes uses.Nothing (unit units.NegativeLiteral ∷ [])
    else (if passes test.IntegerLiteral token then takes uses.IntegerLiteral []
    else (if passes test.LongLiteral token then takes uses.LongLiteral (need test.Mark ∷ [])
    else (if passes test.Quotation token then takes uses.Text []
    else (if passes (test.Word word.True) token then takes uses.Nothing (does (action.Unit unitactions.True) ∷ [])
    else (if passes (test.Word word.False) token then takes uses.Nothing (does (action.Unit unitactions.False) ∷ [])
    else (if passes (test.Word word.Null) token then takes uses.Nothing (unit units.Kind ∷ does (action.Unit unitactions.Null) ∷ [])
    else (if passes (test.Word word.Date) token then takes uses.Nothing (unit units.DateText ∷ [])
    else None)))))))

-- "-" unit, calls, columns and brackets
abbrev pub other_unit_rule : Token → Option Production
other_unit_rule token =
    if passes test.MinusApart token then takes uses.Nothing (unit units.Unit ∷ does (action.Unary unarys.Negative) ∷ [])
    else (if passes (test.Word word.Cast) token then takes uses.Nothing (need (test.Sign sign.Open) ∷ expression expressions.Expr ∷ need (test.Word word.As) ∷ unit units.Kind ∷ need (test.Sign sign.Close) ∷ does (action.Unit unitactions.Cast) ∷ [])
    else (if passes (test.Sign sign.At) token then takes uses.Nothing (unit units.PlanNumber ∷ need (test.Sign sign.Dot) ∷ pipeline pipelines.Name ∷ does (action.Unit unitactions.AttributeOfPlan) ∷ [])
    else (if passes test.Name token then takes uses.Name (unit units.UnitName ∷ [])
    else (if passes (test.Sign sign.Open) token then takes uses.Nothing (expression expressions.Expr ∷ need (test.Sign sign.Close) ∷ [])
    else None))))

-- unit
abbrev pub any_unit_rule : Token → Option Production
any_unit_rule token = or_else (literal_rule token) (other_unit_rule token)

-- the digits behind `-`
abbrev pub negative_literal_rule : Token → Option Production
negative_literal_rule token =
    if passes test.NegativeIntegerLiteral token then takes uses.NegativeIntegerLiteral []
    else (if passes test.NegativeLongLiteral token then takes uses.NegativeLongLiteral (need test.Mark ∷ [])
    else None)

-- a text that is a date
abbrev pub date_text_rule : Token → Option Production
date_text_rule token =
    if passes test.DateText token then takes uses.Date []
    else None

-- int without `-`
abbrev pub plan_number_rule : Token → Option Production
plan_number_rule token =
    if passes test.Long token then takes uses.Long []
    else None

-- a unit behind its first name
abbrev pub unit_name_rule : Token → Option Production
unit_name_rule token =
    if passes (test.Sign sign.Open) token then takes uses.Nothing (does (action.Unit unitactions.Mark) ∷ unit units.Arguments ∷ [])
    else (if passes (test.Sign sign.Dot) token then takes uses.Nothing (does (action.Unit unitactions.Identifier) ∷ unit units.Part ∷ unit units.Parts ∷ does (action.Unit unitactions.Attribute) ∷ [])
    else goes (does (action.Unit unitactions.Identifier) ∷ does (action.Unit unitactions.Attribute) ∷ []))

-- name
abbrev pub part_rule : Token → Option Production
part_rule token =
    if passes test.Name token then takes uses.Part []
    else None

-- { "." name }
abbrev pub parts_rule : Token → Option Production
parts_rule token =
    if passes (test.Sign sign.Dot) token then takes uses.Nothing (unit units.Part ∷ unit units.Parts ∷ [])
    else goes []

-- ( "*" | [ "distinct" ] [ expr { "," expr } ] ) ")"
abbrev pub arguments_rule : Token → Option Production
arguments_rule token =
    if passes (test.Sign sign.Star) token then takes uses.Nothing (need (test.Sign sign.Close) ∷ does (action.Unit unitactions.Star) ∷ does (action.Unit unitactions.Call) ∷ [])
    else (if passes (test.Word word.Distinct) token then takes uses.Nothing (unit units.ArgumentList ∷ need (test.Sign sign.Close) ∷ does (action.Unit unitactions.CallDistinct) ∷ [])
    else goes (unit units.ArgumentList ∷ need (test.Sign sign.Close) ∷ does (action.Unit unitactions.Call) ∷ []))

-- [ expr { "," expr } ], before ")"
abbrev pub argument_list_rule : Token → Option Production
argument_list_rule token =
    if passes (test.Sign sign.Close) token then goes []
    else goes (expression expressions.Expr ∷ expression expressions.Exprs ∷ [])

-- type
abbrev pub kind_rule : Token → Option Production
kind_rule token =
    if passes (test.Word word.Integer) token then takes uses.Nothing (does (action.Kind kind.Integer) ∷ [])
    else (if passes (test.Word word.Long) token then takes uses.Nothing (does (action.Kind kind.Long) ∷ [])
    else (if passes (test.Word word.String) token then takes uses.Nothing (does (action.Kind kind.Text) ∷ [])
    else (if passes (test.Word word.Boolean) token then takes uses.Nothing (does (action.Kind kind.Boolean) ∷ [])
    else (if passes (test.Word word.Date) token then takes uses.Nothing (does (action.Kind kind.Date) ∷ [])
    else None))))

abbrev pub unit_rule : UnitSymbol → Token → Option Production
unit_rule units.Unit token = any_unit_rule token
unit_rule units.NegativeLiteral token = negative_literal_rule token
unit_rule units.DateText token = date_text_rule token
unit_rule units.PlanNumber token = plan_number_rule token
unit_rule units.UnitName token = unit_name_rule token
unit_rule units.Part token = part_rule token
unit_rule units.Parts token = parts_rule token
unit_rule units.Arguments token = arguments_rule token
unit_rule units.ArgumentList token = argument_list_rule token
unit_rule units.Kind token = kind_rule token
