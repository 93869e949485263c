use Rattle.plan_model.proofs.RangedRows.{rows_are_in_range}
use Rattle.plan_model.proofs.plan_laws.rows_are_in_range.Goals as goal

pub returns : goal.returns
returns c = rows_are_in_range
