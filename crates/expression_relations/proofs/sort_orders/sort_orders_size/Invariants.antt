-- The total is the size of the sort orders so far.
use Rattle.std.proofs.Common.{◌≡◌, take}
use Rattle.proto_fields.specs.Sizes.{size_of}
use Rattle.expression_messages.specs.Messages.{messages_fields}
use Rattle.expression_messages.specs.Spelled.{sort_order_fields}
use Rattle.expression_relations.proofs.sort_orders.sort_orders_size.Given as goal

abbrev pub invariant-loop-order : goal.invariant-loop-order
invariant-loop-order l = l.total ≡ size_of (messages_fields sort_order_fields l.number (take l.order-index l.orders))
