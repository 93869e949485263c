use Rattle.std.proofs.Common.{◌≡◌, take}
use Rattle.std.specs.Prelude.{option_map, IfSome}
use Rattle.cn_types.specs.Fit.{HasDateInRange}
use Rattle.expr_eval.specs.Operands.{operand_value}
use Rattle.relation_eval.specs.Calls.{best_there}
use Rattle.relation_eval.specs.Members.{values_at}
use Rattle.relation_eval.proofs.calls.extreme.Given as goal

abbrev pub invariant-loop-place : goal.invariant-loop-place
invariant-loop-place l =
    record {
      best : option_map operand_value l.best ≡ best_there l.greatest (values_at l.argument l.rows (take l.place-index l.places));
      dated : IfSome l.best (λ held. HasDateInRange (operand_value held));
    }
