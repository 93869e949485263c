use Rattle.cn_types.proofs.OrderFacts.{rows_exact}
use Rattle.cn_types.proofs.ordering.equal_rows_are_the_same.Goals as goal

pub returns : goal.returns
returns c = rows_exact
