-- One more sort order.
use Rattle.std.proofs.Common.{arith}
use Rattle.expression_messages.specs.Spelled.{sort_order_fields}
use Rattle.expression_messages.proofs.Measured.{size_of_nil, messages_sized}
use Rattle.expression_relations.proofs.sort_orders.sort_orders_size.Goals as goal

pub loop-order-init : goal.loop-order-init
loop-order-init c = size_of_nil

pub loop-order-preserved : goal.loop-order-preserved
loop-order-preserved c =
    let order = c.order-item.result in
    messages_sized sort_order_fields c.args.number c.args.orders.now c.loop-order.order-index order c.loop-order.total c.message_size.result c.saturating_add-total.result
    (omega arith) c.order-item.is c.loop-order.invariant (c.message_size.ensures (sort_order_fields order) c.sort_order_size.ensures) c.saturating_add-total.ensures
