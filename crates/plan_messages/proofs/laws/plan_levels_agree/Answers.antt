use Rattle.plan_messages.proofs.PlanAgree.{plan_agrees}
use Rattle.plan_messages.proofs.laws.plan_levels_agree.Goals as goal

pub returns : goal.returns
returns c = plan_agrees
