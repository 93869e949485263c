use Rattle.std.proofs.Common.{◌≡◌, ◌++◌, drop}
use Rattle.resolve_functions.specs.Arguments.{known_kinds}
use Rattle.resolve_functions.proofs.arguments.known_kinds.Given as goal

abbrev pub invariant-loop-typing : goal.invariant-loop-typing
invariant-loop-typing l = l.kinds ++ known_kinds (drop l.typing-index l.typings) ≡ known_kinds l.typings
