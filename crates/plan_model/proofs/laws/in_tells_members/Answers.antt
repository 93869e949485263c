use Rattle.plan_model.proofs.CallFacts.{in_tells_members}
use Rattle.plan_model.proofs.laws.in_tells_members.Goals as goal

pub returns : goal.returns
returns c = in_tells_members
