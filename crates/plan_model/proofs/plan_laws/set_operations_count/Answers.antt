use Rattle.plan_model.proofs.RelationFacts.{set_operations_count}
use Rattle.plan_model.proofs.plan_laws.set_operations_count.Goals as goal

pub returns : goal.returns
returns c = set_operations_count
