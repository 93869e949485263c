use Rattle.std.proofs.Common.{map}
use Rattle.expr_eval.specs.Operands.{operand_value}
use Rattle.expr_eval.proofs.ListSteps.{concat-nothing}
use Rattle.expr_eval.proofs.lists.joined_texts.Goals as goal

pub loop-operand-init : goal.loop-operand-init
loop-operand-init c = rw c.new-joined.ensures (concat-nothing (map operand_value c.args.operands.now))
