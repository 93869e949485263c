use Rattle.plan_model.proofs.CallFacts.{texts_are_made_of_parts}
use Rattle.plan_model.proofs.laws.texts_are_made_of_parts.Goals as goal

pub returns : goal.returns
returns c = texts_are_made_of_parts
