use Rattle.plan_model.proofs.LimitFacts.{first_errors_are_of_the_left}
use Rattle.plan_model.proofs.plan_laws.first_errors_are_of_the_left.Goals as goal

pub returns : goal.returns
returns c = first_errors_are_of_the_left
