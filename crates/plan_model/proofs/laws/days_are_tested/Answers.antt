use Rattle.plan_model.proofs.CastFacts.{days_tested}
use Rattle.plan_model.proofs.laws.days_are_tested.Goals as goal

pub returns : goal.returns
returns c = days_tested
