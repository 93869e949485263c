-- One more alias before those that stand.
use Rattle.std.proofs.Common.{ℕ, ◌-◌, ◌++◌, List, take, sym, ap, ◌∙◌, arith}
use Rattle.proto_fields.specs.Spelling.{spell}
use Rattle.expression_messages.specs.Messages.{messages_fields}
use Rattle.expression_messages.specs.Spelled.{alias_fields}
use Rattle.expression_messages.proofs.Written.{messages_more, messages_none}
use Rattle.expression_relations.proofs.aliases.put_aliases.Goals as goal

pub returns : goal.returns
returns c = sym (messages_none alias_fields c.args.number c.args.aliases.now c.loop-index.index c.loop-index.out (omega arith)) ∙ c.loop-index.invariant

pub loop-index-preserved : goal.loop-index-preserved
loop-index-preserved c =
    let alias = c.index-aliases-index.result in
    let left = messages_fields alias_fields c.args.number (take (c.loop-index.index - 1) c.args.aliases.now) in
    let head = c.in_ok-put_message_head.ensures.ok (spell (alias_fields alias)) c.loop-index.out c.in_ok-put_alias.ensures (sym c.len-end.ensures) in
    ap (λ (bytes : List ℕ). spell left ++ bytes) head
    ∙ messages_more alias_fields c.args.number c.args.aliases.now c.loop-index.index alias c.loop-index.out (omega arith) (omega arith) c.index-aliases-index.is
    ∙ c.loop-index.invariant
