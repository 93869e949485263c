use Rattle.plan_model.proofs.SelectionFacts.{sorts_go_by_the_first_key}
use Rattle.plan_model.proofs.plan_laws.sorts_go_by_the_first_key.Goals as goal

pub returns : goal.returns
returns c = sorts_go_by_the_first_key
