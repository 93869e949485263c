use Rattle.std.proofs.Common.{arith, sym, ◌∙◌}
use Rattle.resolve_functions.proofs.Whens.{gather_more, gather_stop}
use Rattle.resolve_functions.proofs.call.when_values.Goals as goal

pub returns-then-not-is_boolean : goal.returns-then-not-is_boolean
returns-then-not-is_boolean c =
    sym (gather_stop c.args.kinds.now c.loop-at.values c.loop-at.at _ c.loop-at.invariant.1 c.loop-at-test.true (sym c.is_boolean.ensures ∙ c.if-not-is_boolean.true))

pub loop-at-preserved : goal.loop-at-preserved
loop-at-preserved c = (
  omega arith,
  rw c.in_ok-push.ensures.ok
      (gather_more c.args.kinds.now c.loop-at.values c.loop-at.at _ _ c.loop-at.invariant.1 c.loop-at-test.true (sym c.is_boolean.ensures ∙ c.if-not-is_boolean.false)),
)
