use Rattle.plan_model.proofs.FunctionFacts.{date_parts}
use Rattle.plan_model.proofs.laws.date_parts_are_of_the_calendar.Goals as goal

pub returns : goal.returns
returns c = date_parts
