use Rattle.plan_model.proofs.JoinCountFacts.{joins_go_by_conditions}
use Rattle.plan_model.proofs.plan_laws.joins_go_by_conditions.Goals as goal

pub returns : goal.returns
returns c = joins_go_by_conditions
