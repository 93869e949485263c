use Rattle.std.proofs.Common.{◌≡◌, ◌++◌, ◌∷◌, [], List, sym, subst, arith}
use Rattle.std.specs.Prelude.{All}
use Rattle.std.proofs.lemmas.List.Elements.{All-push}
use Rattle.cn_types.specs.Fit.{HasDateInRange}
use Rattle.cn_types.specs.declared.value.Value.{Value}
use Rattle.relation_eval.specs.Members.{rows_at}
use Rattle.relation_eval.proofs.GroupFacts.{calls_next}
use Rattle.relation_eval.proofs.aggregates.group_row.Goals as goal

pub loop-call-preserved : goal.loop-call-preserved
loop-call-preserved c =
    let so_far = c.loop-call.values in
    let value = c.in_ok-call_over.field-0 in
    let pushed : c.push.new.self ≡ so_far ++ value ∷ [] = c.in_ok-push.ensures.ok in
    record {
      values = calls_next c.as_slice-call-items.result.now c.args.calls.now (rows_at c.args.rows.now c.args.places.now) c.args.key.now.0 so_far c.push.new.self c.loop-call.call-index c.call-item.result value
          c.as_slice-call-items.ensures (omega arith) c.call-item.is c.in_ok-call_over.ensures.value pushed c.loop-call.invariant.values;
      dates = subst (λ (values : List Value). All HasDateInRange values) (sym pushed) (All-push HasDateInRange so_far value c.loop-call.invariant.dates c.in_ok-call_over.ensures.dated);
    }
