use Rattle.cn_types.proofs.OrderFacts.{values_ordered}
use Rattle.cn_types.proofs.ordering.values_are_ordered.Goals as goal

pub returns : goal.returns
returns c = values_ordered
