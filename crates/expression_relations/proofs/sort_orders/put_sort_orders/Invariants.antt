-- The sort orders that are left, spelled before what stands, are all of them before what stood.
use Rattle.std.proofs.Common.{◌≡◌, ◌++◌, take}
use Rattle.proto_fields.specs.Spelling.{spell}
use Rattle.expression_messages.specs.Messages.{messages_fields}
use Rattle.expression_messages.specs.Spelled.{sort_order_fields}
use Rattle.expression_relations.proofs.sort_orders.put_sort_orders.Given as goal

abbrev pub invariant-loop-index : goal.invariant-loop-index
invariant-loop-index l =
    spell (messages_fields sort_order_fields l.number (take l.index l.orders)) ++ l.out ≡ spell (messages_fields sort_order_fields l.number l.orders) ++ l.initial.out
