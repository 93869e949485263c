use Rattle.cn_types.proofs.OrderFacts.{rows_ordered}
use Rattle.cn_types.proofs.ordering.rows_are_ordered.Goals as goal

pub returns : goal.returns
returns c = rows_ordered
