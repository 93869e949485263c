use Rattle.plan_model.proofs.AggregateOrder.{distinct_values_counted}
use Rattle.plan_model.proofs.laws.distinct_values_are_counted.Goals as goal

pub returns : goal.returns
returns c = distinct_values_counted
