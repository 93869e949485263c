use Rattle.plan_messages.proofs.PlanValid.{plan_valid}
use Rattle.plan_messages.proofs.laws.plans_are_valid.Goals as goal

pub returns : goal.returns
returns c = plan_valid
