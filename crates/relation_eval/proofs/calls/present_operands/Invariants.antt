use Rattle.std.proofs.Common.{◌≡◌, ◌≤◌, length, map, take}
use Rattle.plan_model.specs.Aggregates.{present}
use Rattle.expr_eval.specs.Operands.{operand_value}
use Rattle.relation_eval.specs.Members.{values_at}
use Rattle.relation_eval.proofs.calls.present_operands.Given as goal

abbrev pub invariant-loop-place : goal.invariant-loop-place
invariant-loop-place l =
    record {
      present : map operand_value l.operands.items ≡ present (values_at l.argument l.rows (take l.place-index l.places));
      bound : length l.operands.items ≤ l.place-index;
    }
