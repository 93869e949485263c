use Rattle.plan_model.proofs.JoinFacts.{joins_hold_their_rows}
use Rattle.plan_model.proofs.plan_laws.joins_hold_their_rows.Goals as goal

pub returns : goal.returns
returns c = joins_hold_their_rows
