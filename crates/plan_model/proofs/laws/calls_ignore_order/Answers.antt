use Rattle.plan_model.proofs.AggregateOrder.{calls_ignore_order}
use Rattle.plan_model.proofs.laws.calls_ignore_order.Goals as goal

pub returns : goal.returns
returns c = calls_ignore_order
