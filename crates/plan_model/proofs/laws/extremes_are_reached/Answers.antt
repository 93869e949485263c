use Rattle.plan_model.proofs.AggregateFacts.{extremes_reached}
use Rattle.plan_model.proofs.laws.extremes_are_reached.Goals as goal

pub returns : goal.returns
returns c = extremes_reached c.values_are_ordered.ensures
