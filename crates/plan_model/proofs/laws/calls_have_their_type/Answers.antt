use Rattle.plan_model.proofs.TypedValues.{calls_typed}
use Rattle.plan_model.proofs.laws.calls_have_their_type.Goals as goal

pub returns : goal.returns
returns c = calls_typed
