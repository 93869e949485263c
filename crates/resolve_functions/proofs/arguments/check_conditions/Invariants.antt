use Rattle.std.proofs.Common.{◌≡◌, ◌≤◌, ◌-◌, length, drop}
use Rattle.cn_types.specs.declared.value.DataType.TheVariants.{Boolean}
use Rattle.resolve_functions.specs.declared.asked.Asked.TheVariants.{Only}
use Rattle.resolve_functions.specs.Arguments.{conditions, each_meets}
use Rattle.resolve_functions.proofs.arguments.check_conditions.Given as goal

abbrev pub invariant-loop-at : goal.invariant-loop-at
invariant-loop-at l =
    (l.at ≤ length l.typings)
    × (each_meets l.name (Only Boolean) (Only Boolean) (conditions (drop l.at l.typings)) ≡ each_meets l.name (Only Boolean) (Only Boolean) (conditions l.typings))

abbrev pub decreases-loop-at : goal.decreases-loop-at
decreases-loop-at l = length l.typings - l.at
