use Rattle.std.proofs.Common.{◌≡◌, drop}
use Rattle.resolve_functions.specs.Arguments.{each_meets}
use Rattle.resolve_functions.proofs.arguments.check_each.Given as goal

abbrev pub invariant-loop-typing : goal.invariant-loop-typing
invariant-loop-typing l = each_meets l.name l.asked l.later (drop l.typing-index l.typings) ≡ each_meets l.name l.fn.first l.later l.typings
