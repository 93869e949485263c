use Rattle.plan_model.proofs.LimitFacts.{rows_are_limited}
use Rattle.plan_model.proofs.plan_laws.rows_are_limited.Goals as goal

pub returns : goal.returns
returns c = rows_are_limited
