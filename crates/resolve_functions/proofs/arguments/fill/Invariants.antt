use Rattle.std.proofs.Common.{◌≡◌, map}
use Rattle.resolve_functions.specs.Arguments.{filled}
use Rattle.resolve_functions.proofs.arguments.fill.Given as goal

abbrev pub invariant-loop-typing : goal.invariant-loop-typing
invariant-loop-typing l = l.exprs ≡ map (filled l.kind) l.yielded
