-- The grammar of items and operators, a line a production: what binds looser stands above.
use Rattle.std.specs.Prelude.{if◌then◌else◌, [], ◌∷◌, Option, None}
use Rattle.plan_tokens.specs.declared.keyword.Keyword.TheVariants as word
use Rattle.plan_tokens.specs.declared.token.Sign.TheVariants as sign
use Rattle.plan_tokens.specs.declared.token.Token.{Token}
use Rattle.plan_grammar.specs.declared.symbol.Action.TheVariants as action
use Rattle.plan_grammar.specs.declared.symbol.Use.TheVariants as uses
use Rattle.plan_grammar.specs.declared.symbol.Binary.TheVariants as binarys
use Rattle.plan_grammar.specs.declared.symbol.Unary.TheVariants as unarys
use Rattle.plan_grammar.specs.declared.symbol.UnitAction.TheVariants as unitactions
use Rattle.plan_grammar.specs.declared.symbol.Test.TheVariants as test
use Rattle.plan_grammar.specs.declared.symbol.PipelineSymbol.TheVariants as pipelines
use Rattle.plan_grammar.specs.declared.symbol.ExpressionSymbol.{ExpressionSymbol}
use Rattle.plan_grammar.specs.declared.symbol.ExpressionSymbol.TheVariants as expressions
use Rattle.plan_grammar.specs.declared.symbol.UnitSymbol.TheVariants as units
use Rattle.plan_grammar.specs.Tests.{passes}
use Rattle.plan_grammar.specs.Productions.{Production, takes, goes, does, need, pipeline, expression, unit}

-- "*" | name "." "*" | expr [ "as" name ]
abbrev pub item_rule : Token → Option Production
item_rule token =
    if passes (test.Sign sign.Star) token then takes uses.Nothing (does (action.Unit unitactions.Star) ∷ [])
    else (if passes test.Name token then takes uses.Name (expression expressions.ItemName ∷ [])
    else goes (expression expressions.Expr ∷ expression expressions.As ∷ []))

-- an item behind its first name
abbrev pub item_name_rule : Token → Option Production
item_name_rule token =
    if passes (test.Sign sign.Open) token then takes uses.Nothing (does (action.Unit unitactions.Mark) ∷ unit units.Arguments ∷ expression expressions.Operators ∷ expression expressions.As ∷ [])
    else (if passes (test.Sign sign.Dot) token then takes uses.Nothing (does (action.Unit unitactions.Identifier) ∷ expression expressions.ItemPart ∷ [])
    else goes (does (action.Unit unitactions.Identifier) ∷ does (action.Unit unitactions.Attribute) ∷ expression expressions.Operators ∷ expression expressions.As ∷ []))

-- an item behind its first name and `.`
abbrev pub item_part_rule : Token → Option Production
item_part_rule token =
    if passes (test.Sign sign.Star) token then takes uses.Nothing (does (action.Unit unitactions.StarOf) ∷ [])
    else (if passes test.Name token then takes uses.Part (unit units.Parts ∷ does (action.Unit unitactions.Attribute) ∷ expression expressions.Operators ∷ expression expressions.As ∷ [])
    else None)

-- { "," item }
abbrev pub items_rule : Token → Option Production
items_rule token =
    if passes (test.Sign sign.Comma) token then takes uses.Nothing (expression expressions.Item ∷ expression expressions.Items ∷ [])
    else goes []

-- [ "as" name ]
abbrev pub as_rule : Token → Option Production
as_rule token =
    if passes (test.Word word.As) token then takes uses.Nothing (pipeline pipelines.Name ∷ does (action.Unit unitactions.Alias) ∷ [])
    else goes []

-- { "or" conj }
abbrev pub ors_rule : Token → Option Production
ors_rule token =
    if passes (test.Word word.Or) token then takes uses.Nothing (expression expressions.Conj ∷ does (action.Binary binarys.Or) ∷ expression expressions.Ors ∷ [])
    else goes []

-- { "and" neg }
abbrev pub ands_rule : Token → Option Production
ands_rule token =
    if passes (test.Word word.And) token then takes uses.Nothing (expression expressions.Neg ∷ does (action.Binary binarys.And) ∷ expression expressions.Ands ∷ [])
    else goes []

-- "not" neg | comp
abbrev pub neg_rule : Token → Option Production
neg_rule token =
    if passes (test.Word word.Not) token then takes uses.Nothing (expression expressions.Neg ∷ does (action.Unary unarys.Not) ∷ [])
    else goes (expression expressions.Sum ∷ expression expressions.Comparison ∷ [])

-- [ ("=" | "!=" | "<" | "<=" | ">" | ">=" | "<=>") sum | "is" [ "not" ] "null" ]
abbrev pub comparison_rule : Token → Option Production
comparison_rule token =
    if passes (test.Sign sign.Equal) token then takes uses.Nothing (expression expressions.Sum ∷ does (action.Binary binarys.Equal) ∷ [])
    else (if passes (test.Sign sign.NotEqual) token then takes uses.Nothing (expression expressions.Sum ∷ does (action.Binary binarys.NotEqual) ∷ [])
    else (if passes (test.Sign sign.Less) token then takes uses.Nothing (expression expressions.Sum ∷ does (action.Binary binarys.Less) ∷ [])
    else (if passes (test.Sign sign.LessEqual) token then takes uses.Nothing (expression expressions.Sum ∷ does (action.Binary binarys.LessEqual) ∷ [])
    else (if passes (test.Sign sign.Greater) token then takes uses.Nothing (expression expressions.Sum ∷ does (action.Binary binarys.Greater) ∷ [])
    else (if passes (test.Sign sign.GreaterEqual) token then takes uses.Nothing (expression expressions.Sum ∷ does (action.Binary binarys.GreaterEqual) ∷ [])
    else (if passes (test.Sign sign.SameOrNull) token then takes uses.Nothing (expression expressions.Sum ∷ does (action.Binary binarys.SameOrNull) ∷ [])
    else (if passes (test.Word word.Is) token then takes uses.Nothing (expression expressions.IsNull ∷ [])
    else goes [])))))))

-- [ "not" ] "null"
abbrev pub is_null_rule : Token → Option Production
is_null_rule token =
    if passes (test.Word word.Not) token then takes uses.Nothing (need (test.Word word.Null) ∷ does (action.Unary unarys.IsNotNull) ∷ [])
    else (if passes (test.Word word.Null) token then takes uses.Nothing (does (action.Unary unarys.IsNull) ∷ [])
    else None)

-- { ("+" | "-") prod }
abbrev pub sums_rule : Token → Option Production
sums_rule token =
    if passes (test.Sign sign.Plus) token then takes uses.Nothing (expression expressions.Prod ∷ does (action.Binary binarys.Plus) ∷ expression expressions.Sums ∷ [])
    else (if passes test.Minus token then takes uses.Nothing (expression expressions.Prod ∷ does (action.Binary binarys.Minus) ∷ expression expressions.Sums ∷ [])
    else goes [])

-- { ("*" | "%" | "div") unit }
abbrev pub products_rule : Token → Option Production
products_rule token =
    if passes (test.Sign sign.Star) token then takes uses.Nothing (unit units.Unit ∷ does (action.Binary binarys.Times) ∷ expression expressions.Products ∷ [])
    else (if passes (test.Sign sign.Percent) token then takes uses.Nothing (unit units.Unit ∷ does (action.Binary binarys.Remainder) ∷ expression expressions.Products ∷ [])
    else (if passes (test.Word word.Div) token then takes uses.Nothing (unit units.Unit ∷ does (action.Binary binarys.Div) ∷ expression expressions.Products ∷ [])
    else goes []))

-- { "," expr }
abbrev pub exprs_rule : Token → Option Production
exprs_rule token =
    if passes (test.Sign sign.Comma) token then takes uses.Nothing (expression expressions.Expr ∷ expression expressions.Exprs ∷ [])
    else goes []

abbrev pub expression_rule : ExpressionSymbol → Token → Option Production
expression_rule expressions.Item token = item_rule token
expression_rule expressions.ItemName token = item_name_rule token
expression_rule expressions.ItemPart token = item_part_rule token
expression_rule expressions.Items token = items_rule token
expression_rule expressions.As token = as_rule token
-- what may follow a unit
expression_rule expressions.Operators token = goes (expression expressions.Products ∷ expression expressions.Sums ∷ expression expressions.Comparison ∷ expression expressions.Ands ∷ expression expressions.Ors ∷ [])
-- conj { "or" conj }
expression_rule expressions.Expr token = goes (expression expressions.Conj ∷ expression expressions.Ors ∷ [])
expression_rule expressions.Ors token = ors_rule token
-- neg { "and" neg }
expression_rule expressions.Conj token = goes (expression expressions.Neg ∷ expression expressions.Ands ∷ [])
expression_rule expressions.Ands token = ands_rule token
expression_rule expressions.Neg token = neg_rule token
expression_rule expressions.Comparison token = comparison_rule token
expression_rule expressions.IsNull token = is_null_rule token
-- prod { ("+" | "-") prod }
expression_rule expressions.Sum token = goes (expression expressions.Prod ∷ expression expressions.Sums ∷ [])
expression_rule expressions.Sums token = sums_rule token
-- unit { ("*" | "%" | "div") unit }
expression_rule expressions.Prod token = goes (unit units.Unit ∷ expression expressions.Products ∷ [])
expression_rule expressions.Products token = products_rule token
expression_rule expressions.Exprs token = exprs_rule token
