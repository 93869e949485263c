use Rattle.std.proofs.Common.{◌≡◌, ◌++◌, map, take}
use Rattle.std.specs.Prelude.{All}
use Rattle.cn_types.specs.Fit.{HasDateInRange}
use Rattle.plan_model.specs.Aggregates.{call_value}
use Rattle.relation_eval.specs.Members.{rows_at}
use Rattle.relation_eval.proofs.aggregates.group_row.Given as goal

abbrev pub invariant-loop-call : goal.invariant-loop-call
invariant-loop-call l =
    record {
      values : l.values ≡ l.key.0 ++ map (λ c. call_value c (rows_at l.rows l.places)) (take l.call-index l.calls);
      dates : All HasDateInRange l.values;
    }
