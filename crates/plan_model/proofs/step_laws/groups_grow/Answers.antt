use Rattle.plan_model.proofs.StepFacts.{groups_grow}
use Rattle.plan_model.proofs.step_laws.groups_grow.Goals as goal

pub returns : goal.returns
returns c = groups_grow
