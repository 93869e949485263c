use Rattle.plan_model.proofs.NullFacts.{nulls_are_told}
use Rattle.plan_model.proofs.laws.nulls_are_told.Goals as goal

pub returns : goal.returns
returns c = nulls_are_told
