use Rattle.std.proofs.Common.{◌≡◌, drop}
use Rattle.std.specs.List.{list_any}
use Rattle.resolve_expressions.specs.Grouping.{has_aggregate}
use Rattle.resolve_expressions.proofs.grouping.+aggregates.Given as goal

abbrev pub invariant-any_aggregate-loop-argument : goal.invariant-any_aggregate-loop-argument
invariant-any_aggregate-loop-argument l = list_any has_aggregate (drop l.argument-index l.call.arguments) ≡ list_any has_aggregate l.call.arguments
