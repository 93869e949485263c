use Rattle.plan_model.proofs.ValueRangeFacts.{values_are_in_range, calls_are_in_range}
use Rattle.plan_model.proofs.laws.values_are_in_range.Goals as goal

pub returns : goal.returns
returns c = record { expressions = values_are_in_range; aggregates = calls_are_in_range }
