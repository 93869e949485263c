use Rattle.plan_model.proofs.CallFacts.{arithmetic_wraps}
use Rattle.plan_model.proofs.laws.arithmetic_wraps.Goals as goal

pub returns : goal.returns
returns c = arithmetic_wraps
