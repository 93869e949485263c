use Rattle.plan_model.proofs.StepFacts.{rows_once_grow}
use Rattle.plan_model.proofs.step_laws.rows_once_grow.Goals as goal

pub returns : goal.returns
returns c = rows_once_grow
