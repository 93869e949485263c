-- The sort orders so far are known.
use Rattle.std.proofs.Common.{◌≡◌, true, take}
use Rattle.std.specs.List.{list_all}
use Rattle.expression_messages.specs.Known.{is_known_expr}
use Rattle.expression_relations.proofs.sort_orders.are_known_sort_orders.Given as goal

abbrev pub invariant-loop-order : goal.invariant-loop-order
invariant-loop-order l = list_all (λ order. is_known_expr order.child) (take l.order-index l.orders) ≡ true
