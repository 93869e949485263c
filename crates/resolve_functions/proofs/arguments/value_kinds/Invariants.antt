use Rattle.std.proofs.Common.{◌≡◌, ◌≤◌, ◌-◌, ◌++◌, length, drop}
use Rattle.resolve_functions.specs.Arguments.{known_kinds, values}
use Rattle.resolve_functions.proofs.arguments.value_kinds.Given as goal

abbrev pub invariant-loop-at : goal.invariant-loop-at
invariant-loop-at l = (l.at ≤ length l.typings) × (l.kinds ++ known_kinds (values (drop l.at l.typings)) ≡ known_kinds (values l.typings))

abbrev pub decreases-loop-at : goal.decreases-loop-at
decreases-loop-at l = length l.typings - l.at
