use Rattle.plan_model.proofs.RelationFacts.{one_row_without_keys}
use Rattle.plan_model.proofs.plan_laws.one_row_without_keys.Goals as goal

pub returns : goal.returns
returns c = one_row_without_keys
