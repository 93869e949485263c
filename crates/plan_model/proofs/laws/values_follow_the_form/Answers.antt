use Rattle.plan_model.proofs.ValueFacts.{values_of_forms}
use Rattle.plan_model.proofs.laws.values_follow_the_form.Goals as goal

pub returns : goal.returns
returns c = values_of_forms
