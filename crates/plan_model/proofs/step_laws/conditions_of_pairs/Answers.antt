use Rattle.plan_model.proofs.StepFacts.{conditions_of_pairs}
use Rattle.plan_model.proofs.step_laws.conditions_of_pairs.Goals as goal

pub returns : goal.returns
returns c = conditions_of_pairs
