use Rattle.plan_model.proofs.CastFacts.{casts_typed}
use Rattle.plan_model.proofs.laws.casts_give_the_type.Goals as goal

pub returns : goal.returns
returns c = casts_typed
