use Rattle.plan_model.proofs.CallFacts.{comparisons_follow_the_order}
use Rattle.plan_model.proofs.laws.comparisons_follow_the_order.Goals as goal

pub returns : goal.returns
returns c = comparisons_follow_the_order
