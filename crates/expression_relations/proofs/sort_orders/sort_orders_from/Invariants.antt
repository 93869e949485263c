-- The sort orders so far are those of the payloads so far.
use Rattle.std.proofs.Common.{◌≡◌, take, map}
use Rattle.proto_fields.specs.Fields.{fields_of}
use Rattle.expression_messages.specs.Expressions.{sort_order_at}
use Rattle.expression_relations.proofs.sort_orders.sort_orders_from.Given as goal

abbrev pub invariant-loop-payload : goal.invariant-loop-payload
invariant-loop-payload l =
    l.orders ≡ map (λ payload. sort_order_at l.level (fields_of payload)) (map (λ payload. payload.now) (take l.payload-index l.payload-items))
