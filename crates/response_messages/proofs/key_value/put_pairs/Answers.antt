-- One more pair before those that stand.
use Rattle.std.proofs.Common.{ℕ, ◌-◌, ◌++◌, List, take, sym, ap, ◌∙◌, arith}
use Rattle.proto_fields.specs.Spelling.{spell}
use Rattle.expression_messages.specs.Messages.{messages_fields}
use Rattle.expression_messages.proofs.Written.{messages_more, messages_none}
use Rattle.response_messages.specs.KeyValues.{key_value_fields}
use Rattle.response_messages.proofs.key_value.put_pairs.Goals as goal

pub returns : goal.returns
returns c = sym (messages_none key_value_fields c.args.number c.args.pairs.now c.loop-index.index c.loop-index.out (omega arith)) ∙ c.loop-index.invariant

pub loop-index-preserved : goal.loop-index-preserved
loop-index-preserved c =
    let pair = c.index-pairs-index.result in
    let left = messages_fields key_value_fields c.args.number (take (c.loop-index.index - 1) c.args.pairs.now) in
    let head = c.in_ok-put_message_head.ensures.ok (spell (key_value_fields pair)) c.loop-index.out c.in_ok-put_key_value.ensures (sym c.len-end.ensures) in
    ap (λ (bytes : List ℕ). spell left ++ bytes) head
    ∙ messages_more key_value_fields c.args.number c.args.pairs.now c.loop-index.index pair c.loop-index.out (omega arith) (omega arith) c.index-pairs-index.is
    ∙ c.loop-index.invariant
