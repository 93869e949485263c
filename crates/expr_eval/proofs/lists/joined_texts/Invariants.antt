use Rattle.std.proofs.Common.{◌≡◌, map, drop}
use Rattle.cn_types.specs.declared.value.Value.TheVariants.{Text}
use Rattle.plan_model.specs.Texts.{concat, joined}
use Rattle.expr_eval.specs.Operands.{operand_value}
use Rattle.expr_eval.proofs.lists.joined_texts.Given as goal

abbrev pub invariant-loop-operand : goal.invariant-loop-operand
invariant-loop-operand l = concat (map operand_value l.operands) ≡ joined (Text l.joined) (concat (map operand_value (drop l.operand-index l.operands)))
