-- The grammar of pipelines, names and numbers, a line a production.
use Rattle.std.specs.Prelude.{if◌then◌else◌, [], ◌∷◌, Option, None}
use Rattle.plan_tokens.specs.declared.keyword.Keyword.TheVariants as word
use Rattle.plan_tokens.specs.declared.token.Sign.TheVariants as sign
use Rattle.plan_tokens.specs.declared.token.Token.{Token}
use Rattle.plan_grammar.specs.declared.symbol.Action.TheVariants as action
use Rattle.plan_grammar.specs.declared.symbol.Use.TheVariants as uses
use Rattle.plan_grammar.specs.declared.symbol.Choice.TheVariants as choices
use Rattle.plan_grammar.specs.declared.symbol.StepAction.TheVariants as stepactions
use Rattle.plan_grammar.specs.declared.symbol.Test.TheVariants as test
use Rattle.plan_grammar.specs.declared.symbol.PipelineSymbol.{PipelineSymbol}
use Rattle.plan_grammar.specs.declared.symbol.PipelineSymbol.TheVariants as pipelines
use Rattle.plan_grammar.specs.declared.symbol.StepSymbol.TheVariants as steps
use Rattle.plan_grammar.specs.declared.symbol.ValuesSymbol.TheVariants as valuess
use Rattle.plan_grammar.specs.Tests.{passes}
use Rattle.plan_grammar.specs.Productions.{Production, takes, goes, does, need, pipeline, step, values}

-- "range" int int int | "table" name | "values" "(" column { "," column } ")" { row }
abbrev pub source_rule : Token → Option Production
source_rule token =
    if passes (test.Word word.Range) token then takes uses.Nothing (pipeline pipelines.Long ∷ pipeline pipelines.Long ∷ pipeline pipelines.Long ∷ does (action.Step stepactions.Range) ∷ [])
    else (if passes (test.Word word.Table) token then takes uses.Nothing (pipeline pipelines.Name ∷ does (action.Step stepactions.Read) ∷ [])
    else (if passes (test.Word word.Values) token then takes uses.NewColumns (need (test.Sign sign.Open) ∷ values valuess.Column ∷ values valuess.Columns ∷ need (test.Sign sign.Close) ∷ values valuess.Rows ∷ does (action.Step stepactions.Values) ∷ [])
    else None))

-- { "|" step } [ "|" ("write" | "insert") name [ mode ] ]
abbrev pub finish_rule : Token → Option Production
finish_rule token =
    if passes (test.Sign sign.Bar) token then takes uses.Nothing (pipeline pipelines.StepOrWrite ∷ [])
    else goes []

-- ("write" | "insert") name [ mode ] | step ..
abbrev pub step_or_write_rule : Token → Option Production
step_or_write_rule token =
    if passes (test.Word word.Write) token then takes uses.Nothing (pipeline pipelines.Name ∷ pipeline pipelines.Mode ∷ does (action.Step stepactions.Write) ∷ [])
    else (if passes (test.Word word.Insert) token then takes uses.Nothing (pipeline pipelines.Name ∷ pipeline pipelines.Mode ∷ does (action.Step stepactions.Insert) ∷ [])
    else goes (step steps.Step ∷ pipeline pipelines.Finish ∷ []))

-- [ "append" | "overwrite" | "error" | "ignore" ]
abbrev pub mode_rule : Token → Option Production
mode_rule token =
    if passes (test.Word word.Append) token then takes uses.Nothing (does (action.Choice choices.Append) ∷ [])
    else (if passes (test.Word word.Overwrite) token then takes uses.Nothing (does (action.Choice choices.Overwrite) ∷ [])
    else (if passes (test.Word word.Error) token then takes uses.Nothing (does (action.Choice choices.ErrorIfExists) ∷ [])
    else (if passes (test.Word word.Ignore) token then takes uses.Nothing (does (action.Choice choices.Ignore) ∷ [])
    else goes (does (action.Choice choices.NoMode) ∷ []))))

-- { "|" step }
abbrev pub steps_rule : Token → Option Production
steps_rule token =
    if passes (test.Sign sign.Bar) token then takes uses.Nothing (step steps.Step ∷ pipeline pipelines.Steps ∷ [])
    else goes []

-- name
abbrev pub name_rule : Token → Option Production
name_rule token =
    if passes test.Name token then takes uses.Name []
    else None

-- { "," name }
abbrev pub names_rule : Token → Option Production
names_rule token =
    if passes (test.Sign sign.Comma) token then takes uses.Nothing (pipeline pipelines.Name ∷ pipeline pipelines.Names ∷ [])
    else goes []

-- int, of 32 bits
abbrev pub integer_rule : Token → Option Production
integer_rule token =
    if passes test.Integer token then takes uses.Integer []
    else (if passes test.MinusBeforeDigits token then takes uses.Nothing (pipeline pipelines.NegativeInteger ∷ [])
    else None)

-- the digits behind `-`
abbrev pub negative_integer_rule : Token → Option Production
negative_integer_rule token =
    if passes test.NegativeInteger token then takes uses.NegativeInteger []
    else None

-- int, of 64 bits
abbrev pub long_rule : Token → Option Production
long_rule token =
    if passes test.Long token then takes uses.Long []
    else (if passes test.MinusBeforeDigits token then takes uses.Nothing (pipeline pipelines.NegativeLong ∷ [])
    else None)

-- the digits behind `-`
abbrev pub negative_long_rule : Token → Option Production
negative_long_rule token =
    if passes test.NegativeLong token then takes uses.NegativeLong []
    else None

abbrev pub pipeline_rule : PipelineSymbol → Token → Option Production
-- source { "|" step } [ "|" finish ]
pipeline_rule pipelines.Whole token = goes (pipeline pipelines.Source ∷ pipeline pipelines.Finish ∷ [])
pipeline_rule pipelines.Source token = source_rule token
pipeline_rule pipelines.Finish token = finish_rule token
pipeline_rule pipelines.StepOrWrite token = step_or_write_rule token
pipeline_rule pipelines.Mode token = mode_rule token
-- "(" source { "|" step } ")"
pipeline_rule pipelines.Nested token = goes (need (test.Sign sign.Open) ∷ pipeline pipelines.Source ∷ pipeline pipelines.Steps ∷ need (test.Sign sign.Close) ∷ [])
pipeline_rule pipelines.Steps token = steps_rule token
pipeline_rule pipelines.Name token = name_rule token
pipeline_rule pipelines.Names token = names_rule token
pipeline_rule pipelines.Integer token = integer_rule token
pipeline_rule pipelines.NegativeInteger token = negative_integer_rule token
pipeline_rule pipelines.Long token = long_rule token
pipeline_rule pipelines.NegativeLong token = negative_long_rule token
