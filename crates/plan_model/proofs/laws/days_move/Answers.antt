use Rattle.plan_model.proofs.CallFacts.{days_move}
use Rattle.plan_model.proofs.laws.days_move.Goals as goal

pub returns : goal.returns
returns c = days_move
