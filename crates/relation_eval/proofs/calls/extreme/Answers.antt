use Rattle.std.proofs.Common.{◌+◌, take, arith}
use Rattle.std.specs.Prelude.{option_map}
use Rattle.plan_model.specs.Val.{val}
use Rattle.expr_eval.specs.Operands.{operand_value}
use Rattle.relation_eval.specs.Members.{values_at}
use Rattle.relation_eval.proofs.CallFacts.{values_next, best_step}
use Rattle.relation_eval.proofs.calls.extreme.Goals as goal

pub loop-place-preserved : goal.loop-place-preserved
loop-place-preserved c =
    let argument = c.args.argument.now in
    let rows = c.args.rows.now in
    let places = c.args.places.now in
    let i = c.loop-place.place-index in
    let row = c.index-rows-place.result in
    record {
      best = best_step c.args.greatest (values_at argument rows (take i places)) (values_at argument rows (take (i + 1) places)) (val argument row) (operand_value c.in_ok-found.found)
          (option_map operand_value c.loop-place.best) (option_map operand_value c.with_operand-best.result)
          (values_next argument rows places i row (omega arith) (c.requires.within i 0 (omega arith)) c.index-rows-place.is) c.loop-place.invariant.best c.in_ok-found.ensures.value c.with_operand-best.ensures.value;
      dated = c.with_operand-best.ensures.dated;
    }
