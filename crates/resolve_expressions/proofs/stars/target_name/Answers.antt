use Rattle.resolve_expressions.proofs.StarSteps.{target_whole}
use Rattle.resolve_expressions.proofs.stars.target_name.Goals as goal

pub returns-in-None : goal.returns-in-None
returns-in-None c = target_whole c.args.target.now c.in-None.ensures.cases
