use Rattle.plan_model.proofs.LimitFacts.{plans_are_limited}
use Rattle.plan_model.proofs.plan_laws.plans_are_limited.Goals as goal

pub returns : goal.returns
returns c = plans_are_limited
