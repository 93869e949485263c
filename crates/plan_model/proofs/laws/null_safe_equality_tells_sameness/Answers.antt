use Rattle.plan_model.proofs.ComparisonFacts.{null_safe_equality}
use Rattle.plan_model.proofs.laws.null_safe_equality_tells_sameness.Goals as goal

pub returns : goal.returns
returns c = null_safe_equality c.equal_values_are_the_same.ensures
