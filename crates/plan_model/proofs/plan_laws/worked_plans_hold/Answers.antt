use Rattle.plan_model.proofs.WorkedJoinFacts.{worked_joins}
use Rattle.plan_model.proofs.WorkedRelationFacts.{worked_plans}
use Rattle.plan_model.proofs.WorkedSortFacts.{worked_sorts, worked_slices}
use Rattle.plan_model.proofs.plan_laws.worked_plans_hold.Goals as goal

pub returns : goal.returns
returns c = record { plans = worked_plans; joins = worked_joins; sorts = worked_sorts; slices = worked_slices }
