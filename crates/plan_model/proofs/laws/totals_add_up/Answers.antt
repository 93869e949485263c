use Rattle.plan_model.proofs.AggregateFacts.{total-append}
use Rattle.plan_model.proofs.laws.totals_add_up.Goals as goal

pub returns : goal.returns
returns c = total-append
