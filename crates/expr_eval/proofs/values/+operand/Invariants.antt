use Rattle.std.proofs.Common.{◌-◌, ◌≡◌, map, ◌≤◌, length, take, drop}
use Rattle.plan_model.specs.Conditionals.{coalesce, when}
use Rattle.expr_eval.specs.Operands.{operand_value, vals}
use Rattle.expr_eval.proofs.values.+operand.Given as goal

abbrev pub invariant-first_present-loop-argument : goal.invariant-first_present-loop-argument
invariant-first_present-loop-argument l = coalesce (vals l.arguments l.row) ≡ coalesce (vals (drop l.argument-index l.arguments) l.row)

abbrev pub invariant-first_true-loop-place : goal.invariant-first_true-loop-place
invariant-first_true-loop-place l = (l.place ≤ l.count) × (l.count ≡ length l.arguments) × (when (vals l.arguments l.row) ≡ when (vals (drop l.place l.arguments) l.row))

abbrev pub decreases-first_true-loop-place : goal.decreases-first_true-loop-place
decreases-first_true-loop-place l = l.count - l.place

abbrev pub invariant-operands_of-loop-argument : goal.invariant-operands_of-loop-argument
invariant-operands_of-loop-argument l = map operand_value l.operands ≡ vals (take l.argument-index l.arguments) l.row
