use Rattle.plan_model.proofs.SelectionFacts.{selections_keep_places}
use Rattle.plan_model.proofs.plan_laws.selections_keep_places.Goals as goal

pub returns : goal.returns
returns c = selections_keep_places
