use Rattle.plan_model.proofs.Sorted.{sorts_without_ties_are_unique}
use Rattle.plan_model.proofs.plan_laws.sorts_without_ties_are_unique.Goals as goal

pub returns : goal.returns
returns c = sorts_without_ties_are_unique
