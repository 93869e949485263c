use Rattle.plan_model.proofs.FunctionFacts.{texts_start_and_end}
use Rattle.plan_model.proofs.laws.texts_start_and_end.Goals as goal

pub returns : goal.returns
returns c = texts_start_and_end
