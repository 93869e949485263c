use Rattle.std.proofs.Common.{◌+◌, take, arith}
use Rattle.plan_model.specs.Val.{val}
use Rattle.relation_eval.specs.Members.{values_at}
use Rattle.relation_eval.proofs.CallFacts.{values_next, sum_step}
use Rattle.relation_eval.proofs.calls.sum.Goals as goal

pub loop-place-preserved : goal.loop-place-preserved
loop-place-preserved c =
    let argument = c.args.argument.now in
    let rows = c.args.rows.now in
    let places = c.args.places.now in
    let i = c.loop-place.place-index in
    let row = c.index-rows-place.result in
    sum_step (values_at argument rows (take i places)) (values_at argument rows (take (i + 1) places)) (val argument row) c.loop-place.sum c.with_term-sum.result c.in_ok-term.term
    (values_next argument rows places i row (omega arith) (c.requires.within i 0 (omega arith)) c.index-rows-place.is) c.loop-place.invariant c.in_ok-term.ensures c.with_term-sum.ensures
