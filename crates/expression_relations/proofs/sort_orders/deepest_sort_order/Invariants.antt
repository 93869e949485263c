-- The deepest of the sort orders so far.
use Rattle.std.proofs.Common.{◌≡◌, take, map}
use Rattle.expression_messages.specs.Depths.{told, largest, sort_order_depth}
use Rattle.expression_relations.proofs.sort_orders.deepest_sort_order.Given as goal

abbrev pub invariant-loop-order : goal.invariant-loop-order
invariant-loop-order l = l.deepest ≡ told (largest (map sort_order_depth (take l.order-index l.orders)))
