use Rattle.plan_model.proofs.TypedValues.{values_typed}
use Rattle.plan_model.proofs.laws.values_have_their_type.Goals as goal

pub returns : goal.returns
returns c = values_typed
