use Rattle.relation_eval.proofs.GroupFacts.{aggregate_is}
use Rattle.relation_eval.proofs.order_laws.grouped_is_an_aggregate.Goals as goal

pub returns : goal.returns
returns c = aggregate_is
