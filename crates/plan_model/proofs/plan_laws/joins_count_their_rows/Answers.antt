use Rattle.plan_model.proofs.JoinCountFacts.{joins_count_their_rows}
use Rattle.plan_model.proofs.plan_laws.joins_count_their_rows.Goals as goal

pub returns : goal.returns
returns c = joins_count_their_rows
