use Rattle.std.proofs.Common.{arith, ◌∙◌, []}
use Rattle.resolve_functions.proofs.Each.{value_more}
use Rattle.resolve_functions.specs.declared.asked.Asked.TheVariants.{AnyKind}
use Rattle.resolve_functions.proofs.arguments.value_kinds.Goals as goal

pub loop-at-preserved : goal.loop-at-preserved
loop-at-preserved c = (
  omega arith,
  value_more [] AnyKind c.args.typings.now c.loop-at.at _ c.loop-at.kinds _ c.loop-at-test.true c.index-typings-at.is c.in_ok-push_kind.ensures ∙ c.loop-at.invariant.1,
)
