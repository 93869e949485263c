use Rattle.plan_model.proofs.CallFacts.{coalesce_takes_the_first}
use Rattle.plan_model.proofs.laws.coalesce_takes_the_first.Goals as goal

pub returns : goal.returns
returns c = coalesce_takes_the_first
