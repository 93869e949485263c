-- The grammar of pipelines: what stands for each symbol.
use Rattle.std.specs.Prelude.{if◌then◌else◌, [], Option, None}
use Rattle.cn_types.specs.declared.value.DataType.{DataType}
use Rattle.plan_tokens.specs.declared.token.Token.{Token}
use Rattle.plan_grammar.specs.declared.symbol.Use.TheVariants as uses
use Rattle.plan_grammar.specs.declared.symbol.Symbol.{Symbol}
use Rattle.plan_grammar.specs.declared.symbol.Symbol.TheVariants as symbol
use Rattle.plan_grammar.specs.Tests.{passes}
use Rattle.plan_grammar.specs.Productions.{Production, takes}
use Rattle.plan_grammar.specs.PipelineRules.{pipeline_rule}
use Rattle.plan_grammar.specs.StepRules.{step_rule}
use Rattle.plan_grammar.specs.ExpressionRules.{expression_rule}
use Rattle.plan_grammar.specs.UnitRules.{unit_rule}
use Rattle.plan_grammar.specs.ValuesRules.{values_rule}

-- what stands for a symbol before a token, where a cell of the wanted type comes next
abbrev pub rule : Option DataType → Symbol → Token → Option Production
rule wanted (symbol.Pipeline one) token = pipeline_rule one token
rule wanted (symbol.Step one) token = step_rule one token
rule wanted (symbol.Expression one) token = expression_rule one token
rule wanted (symbol.Unit one) token = unit_rule one token
rule wanted (symbol.Values one) token = values_rule wanted one token
rule wanted (symbol.Need test) token = if passes test token then takes uses.Nothing [] else None
rule wanted (symbol.Act action) token = None
rule wanted (symbol.Column kind) token = None
rule wanted symbol.Row token = None
