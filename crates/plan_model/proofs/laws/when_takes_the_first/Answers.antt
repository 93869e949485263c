use Rattle.plan_model.proofs.CallFacts.{when_takes_the_first}
use Rattle.plan_model.proofs.laws.when_takes_the_first.Goals as goal

pub returns : goal.returns
returns c = when_takes_the_first
