use Rattle.expression_messages.proofs.ExprBack.{sort_order_read_back}
use Rattle.expression_messages.proofs.laws.sort_orders_are_read_back.Goals as goal

pub returns : goal.returns
returns c = sort_order_read_back
