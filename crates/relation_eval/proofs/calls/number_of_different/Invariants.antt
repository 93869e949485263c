use Rattle.std.proofs.Common.{◌≡◌, ◌≤◌, ◌+◌, length, map, drop}
use Rattle.plan_model.specs.Aggregates.{different}
use Rattle.expr_eval.specs.Operands.{operand_value}
use Rattle.relation_eval.proofs.calls.number_of_different.Given as goal

abbrev pub invariant-loop-place : goal.invariant-loop-place
invariant-loop-place l =
    record {
      number : l.number + length (different (drop l.place (map operand_value l.operands))) ≡ length (different (map operand_value l.operands));
      bound : l.number ≤ l.place;
    }
