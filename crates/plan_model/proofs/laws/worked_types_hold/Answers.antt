use Rattle.plan_model.proofs.WorkedFacts.{worked_call_types, worked_aggregate_types, casts_of_types}
use Rattle.plan_model.proofs.laws.worked_types_hold.Goals as goal

pub returns : goal.returns
returns c = record { calls = worked_call_types; aggregates = worked_aggregate_types; casts = casts_of_types }
