use Rattle.plan_model.proofs.Determined.{determined_outcomes_alike}
use Rattle.plan_model.proofs.plan_laws.determined_outcomes_are_alike.Goals as goal

pub returns : goal.returns
returns c = determined_outcomes_alike
