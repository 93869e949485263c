use Rattle.std.proofs.Common.{arith, sym, ap, ◌∙◌, length-drop}
use Rattle.cn_types.specs.declared.value.DataType.TheVariants.{Boolean}
use Rattle.resolve_functions.specs.declared.asked.Asked.TheVariants.{Only}
use Rattle.resolve_functions.specs.Arguments.{each_meets}
use Rattle.resolve_functions.proofs.Each.{condition_fails, condition_goes_on, no_condition}
use Rattle.resolve_functions.proofs.arguments.check_conditions.Goals as goal

pub returns-in-Err-clause-refused : goal.returns-in-Err-clause-refused
returns-in-Err-clause-refused c =
    λ other. sym c.loop-at.invariant.1
    ∙ condition_fails c.args.name.now (Only Boolean) c.args.typings.now c.loop-at.at _ _ c.loop-at-test.true c.index-typings-at.is (c.in-Err.ensures.refused other)

pub loop-at-preserved : goal.loop-at-preserved
loop-at-preserved c = (
  omega arith,
  sym (condition_goes_on c.args.name.now (Only Boolean) c.args.typings.now c.loop-at.at _ _ c.loop-at-test.true c.index-typings-at.is c.in-Ok.ensures.ok)
      ∙ c.loop-at.invariant.1,
)

pub returns-clause-ok : goal.returns-clause-ok
returns-clause-ok c =
    sym c.loop-at.invariant.1
    ∙ ap (each_meets c.args.name.now (Only Boolean) (Only Boolean)) (no_condition _ (omega (arith, length-drop c.loop-at.at c.args.typings.now)))
