use Rattle.plan_model.proofs.ChosenFacts.{chosen_allowed, plans_have_outcomes}
use Rattle.plan_model.proofs.plan_laws.plans_have_outcomes.Goals as goal

pub returns : goal.returns
returns c = record { relation = chosen_allowed; plan = plans_have_outcomes }
