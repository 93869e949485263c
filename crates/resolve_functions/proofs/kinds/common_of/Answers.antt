use Rattle.std.proofs.Common.{arith, sym, ap, ◌∙◌}
use Rattle.std.specs.Prelude.{option_and_then}
use Rattle.plan_model.specs.FunctionTypes.{common}
use Rattle.resolve_functions.proofs.Commons.{common_step}
use Rattle.resolve_functions.proofs.kinds.common_of.Goals as goal

pub loop-at-preserved : goal.loop-at-preserved
loop-at-preserved c = (
  omega arith,
  c.with_common-found.ensures ∙ ap (option_and_then (common _)) c.loop-at.invariant.1
      ∙ sym (common_step c.args.kinds.now c.loop-at.at _ c.loop-at-test.true c.loop-at.invariant.0),
)
