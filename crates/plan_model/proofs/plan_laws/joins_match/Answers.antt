use Rattle.plan_model.proofs.JoinMatchFacts.{joins_match}
use Rattle.plan_model.proofs.plan_laws.joins_match.Goals as goal

pub returns : goal.returns
returns c = joins_match
