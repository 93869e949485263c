-- One more sort order before those that stand.
use Rattle.std.proofs.Common.{ℕ, ◌-◌, ◌++◌, List, take, sym, ap, ◌∙◌, arith}
use Rattle.proto_fields.specs.Spelling.{spell}
use Rattle.expression_messages.specs.Messages.{messages_fields}
use Rattle.expression_messages.specs.Spelled.{sort_order_fields}
use Rattle.expression_messages.proofs.Written.{messages_more, messages_none}
use Rattle.expression_relations.proofs.sort_orders.put_sort_orders.Goals as goal

pub returns : goal.returns
returns c = sym (messages_none sort_order_fields c.args.number c.args.orders.now c.loop-index.index c.loop-index.out (omega arith)) ∙ c.loop-index.invariant

pub loop-index-preserved : goal.loop-index-preserved
loop-index-preserved c =
    let order = c.index-orders-index.result in
    let left = messages_fields sort_order_fields c.args.number (take (c.loop-index.index - 1) c.args.orders.now) in
    let head = c.in_ok-put_message_head.ensures.ok (spell (sort_order_fields order)) c.loop-index.out c.in_ok-put_sort_order.ensures (sym c.len-end.ensures) in
    ap (λ (bytes : List ℕ). spell left ++ bytes) head
    ∙ messages_more sort_order_fields c.args.number c.args.orders.now c.loop-index.index order c.loop-index.out (omega arith) (omega arith) c.index-orders-index.is
    ∙ c.loop-index.invariant
