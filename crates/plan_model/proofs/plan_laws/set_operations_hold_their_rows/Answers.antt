use Rattle.plan_model.proofs.SelectionFacts.{set_operations_hold_their_rows}
use Rattle.plan_model.proofs.plan_laws.set_operations_hold_their_rows.Goals as goal

pub returns : goal.returns
returns c = set_operations_hold_their_rows
