use Rattle.plan_model.proofs.StepFacts.{joins_grow}
use Rattle.plan_model.proofs.step_laws.joins_grow.Goals as goal

pub returns : goal.returns
returns c = joins_grow
