-- Productions of the grammar. Each symbol has at most one production that may stand before a token: `takes` takes the token for a use, and
-- symbols follow; `goes` leaves it to the symbols that follow. `does` is no token, but something that is done.
use Rattle.std.specs.Prelude.{List, Option, Some, None}
use Rattle.plan_grammar.specs.declared.symbol.Action.{Action}
use Rattle.plan_grammar.specs.declared.symbol.Use.{Use}
use Rattle.plan_grammar.specs.declared.symbol.Test.{Test}
use Rattle.plan_grammar.specs.declared.symbol.Symbol.{Symbol}
use Rattle.plan_grammar.specs.declared.symbol.Symbol.TheVariants as symbol
use Rattle.plan_grammar.specs.declared.symbol.PipelineSymbol.{PipelineSymbol}
use Rattle.plan_grammar.specs.declared.symbol.StepSymbol.{StepSymbol}
use Rattle.plan_grammar.specs.declared.symbol.ExpressionSymbol.{ExpressionSymbol}
use Rattle.plan_grammar.specs.declared.symbol.UnitSymbol.{UnitSymbol}
use Rattle.plan_grammar.specs.declared.symbol.ValuesSymbol.{ValuesSymbol}

-- the use that a token is taken for, where it is taken, and the symbols that follow
abbrev pub Production : Type 0
Production = Option Use × List Symbol

abbrev pub takes : Use → List Symbol → Option Production
takes used symbols = Some (Some used, symbols)

abbrev pub goes : List Symbol → Option Production
goes symbols = Some (None, symbols)

-- the first of two that is there
abbrev pub or_else : Option Production → Option Production → Option Production
or_else None other = other
or_else (Some one) other = Some one

abbrev pub does : Action → Symbol
does action = symbol.Act action

abbrev pub need : Test → Symbol
need test = symbol.Need test

abbrev pub pipeline : PipelineSymbol → Symbol
pipeline one = symbol.Pipeline one

abbrev pub step : StepSymbol → Symbol
step one = symbol.Step one

abbrev pub expression : ExpressionSymbol → Symbol
expression one = symbol.Expression one

abbrev pub unit : UnitSymbol → Symbol
unit one = symbol.Unit one

abbrev pub values : ValuesSymbol → Symbol
values one = symbol.Values one
