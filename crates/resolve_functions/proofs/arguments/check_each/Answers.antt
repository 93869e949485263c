use Rattle.std.proofs.Common.{sym, ◌∙◌}
use Rattle.resolve_functions.proofs.Each.{each_fails, each_goes_on}
use Rattle.resolve_functions.proofs.arguments.check_each.Goals as goal

pub returns-in-Err-clause-refused : goal.returns-in-Err-clause-refused
returns-in-Err-clause-refused c =
    λ other. sym c.loop-typing.invariant
    ∙ each_fails c.args.name.now c.loop-typing.asked c.args.later c.args.typings.now c.loop-typing.typing-index _ _ c.loop-typing-test.true c.typing-item.is
    (c.in-Err.ensures.refused other)

pub loop-typing-preserved : goal.loop-typing-preserved
loop-typing-preserved c =
    sym (each_goes_on c.args.name.now c.loop-typing.asked c.args.later c.args.typings.now c.loop-typing.typing-index _ _ c.loop-typing-test.true c.typing-item.is c.in-Ok.ensures.ok)
    ∙ c.loop-typing.invariant
