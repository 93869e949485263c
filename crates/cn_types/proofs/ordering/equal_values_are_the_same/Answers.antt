use Rattle.cn_types.proofs.OrderFacts.{values_exact}
use Rattle.cn_types.proofs.ordering.equal_values_are_the_same.Goals as goal

pub returns : goal.returns
returns c = values_exact
