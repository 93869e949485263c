use Rattle.expr_eval.proofs.ConditionFacts.{well_formed_in_range}
use Rattle.expr_eval.proofs.condition_laws.well_formed_is_in_range.Goals as goal

pub returns : goal.returns
returns c = well_formed_in_range
