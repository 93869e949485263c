use Rattle.std.proofs.Common.{◌≡◌, ◌≤◌, length, take}
use Rattle.plan_model.specs.Aggregates.{present}
use Rattle.relation_eval.specs.Members.{values_at}
use Rattle.relation_eval.proofs.calls.count_present.Given as goal

abbrev pub invariant-loop-place : goal.invariant-loop-place
invariant-loop-place l =
    record {
      number : l.number ≡ length (present (values_at l.argument l.rows (take l.place-index l.places)));
      bound : l.number ≤ l.place-index;
    }
