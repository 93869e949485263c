use Rattle.plan_model.proofs.ComparisonFacts.{equality}
use Rattle.plan_model.proofs.laws.equality_tells_sameness.Goals as goal

pub returns : goal.returns
returns c = equality c.equal_values_are_the_same.ensures
