-- What was typed, before what the rest gives, is all of it.
use Rattle.std.proofs.Common.{◌≡◌, drop}
use Rattle.resolve_expressions.specs.Named.{arguments_in}
use Rattle.resolve_expressions.proofs.Arguments.{with}
use Rattle.resolve_expressions.proofs.typings.+typings.Given as goal

abbrev pub invariant-arguments_over-loop-argument : goal.invariant-arguments_over-loop-argument
invariant-arguments_over-loop-argument l =
    with l.exprs.items (arguments_in l.names l.allowed (drop l.argument-index l.call.arguments) l.calls) ≡ arguments_in l.names l.allowed l.call.arguments l.initial.calls
