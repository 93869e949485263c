use Rattle.plan_model.proofs.RelationFacts.{rows_within_limits}
use Rattle.plan_model.proofs.plan_laws.rows_are_within_limits.Goals as goal

pub returns : goal.returns
returns c = rows_within_limits
