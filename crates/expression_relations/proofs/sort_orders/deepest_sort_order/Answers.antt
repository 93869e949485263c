-- One more sort order.
use Rattle.std.proofs.Common.{arith}
use Rattle.expression_messages.specs.Depths.{sort_order_depth}
use Rattle.expression_messages.proofs.Measured.{deeper}
use Rattle.expression_relations.proofs.sort_orders.deepest_sort_order.Goals as goal

pub loop-order-preserved : goal.loop-order-preserved
loop-order-preserved c =
    deeper sort_order_depth c.args.orders.now c.loop-order.order-index c.order-item.result c.loop-order.deepest c.sort_order_depth.result c.max-deepest.result
    (omega arith) c.order-item.is c.loop-order.invariant c.sort_order_depth.ensures c.max-deepest.ensures
