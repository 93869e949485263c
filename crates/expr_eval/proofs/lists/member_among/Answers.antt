use Rattle.std.proofs.Common.{map}
use Rattle.plan_model.specs.Comparisons.{equal_to}
use Rattle.expr_eval.specs.Operands.{operand_value}
use Rattle.expr_eval.proofs.ListSteps.{or_all-nothing}
use Rattle.expr_eval.proofs.lists.member_among.Goals as goal

pub loop-other-init : goal.loop-other-init
loop-other-init c = or_all-nothing (map (λ other. equal_to c.args.sought.now other) (map operand_value c.args.others.now))
