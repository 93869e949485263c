use Rattle.std.proofs.Common.{◌≡◌, map, drop}
use Rattle.plan_model.specs.Comparisons.{member_of}
use Rattle.plan_model.specs.Truth.{or_value}
use Rattle.expr_eval.specs.Operands.{operand_value}
use Rattle.expr_eval.proofs.ListSteps.{so_far}
use Rattle.expr_eval.proofs.lists.member_among.Given as goal

abbrev pub invariant-loop-other : goal.invariant-loop-other
invariant-loop-other l = member_of l.sought (map operand_value l.others) ≡ or_value (so_far l.unknown) (member_of l.sought (map operand_value (drop l.other-index l.others)))
