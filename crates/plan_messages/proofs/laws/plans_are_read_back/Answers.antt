use Rattle.plan_messages.proofs.PlanBack.{plan_read_back}
use Rattle.plan_messages.proofs.laws.plans_are_read_back.Goals as goal

pub returns : goal.returns
returns c = plan_read_back
