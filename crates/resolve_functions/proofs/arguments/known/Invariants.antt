use Rattle.std.proofs.Common.{◌≡◌}
use Rattle.resolve_functions.specs.Arguments.{known}
use Rattle.resolve_functions.proofs.arguments.known.Given as goal

abbrev pub invariant-loop-typing : goal.invariant-loop-typing
invariant-loop-typing l = l.exprs ≡ known l.yielded
