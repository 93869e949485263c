-- One more entry before those that stand.
use Rattle.std.proofs.Common.{ℕ, ◌-◌, ◌++◌, List, take, sym, ap, ◌∙◌, arith}
use Rattle.proto_fields.specs.Spelling.{spell}
use Rattle.expression_messages.specs.Messages.{messages_fields}
use Rattle.expression_messages.proofs.Written.{messages_more, messages_none}
use Rattle.plain_relations.specs.Spelled.{entry_fields}
use Rattle.plain_relations.proofs.renamed_writing.put_entries.Goals as goal

pub returns : goal.returns
returns c = sym (messages_none entry_fields 2 c.args.entries.now c.loop-index.index c.loop-index.out (omega arith)) ∙ c.loop-index.invariant

pub loop-index-preserved : goal.loop-index-preserved
loop-index-preserved c =
    let entry = c.index-entries-index.result in
    let left = messages_fields entry_fields 2 (take (c.loop-index.index - 1) c.args.entries.now) in
    let head = c.in_ok-put_message_head.ensures.ok (spell (entry_fields entry)) c.loop-index.out c.in_ok-put_entry.ensures (sym c.len-end.ensures) in
    ap (λ (bytes : List ℕ). spell left ++ bytes) head
    ∙ messages_more entry_fields 2 c.args.entries.now c.loop-index.index entry c.loop-index.out (omega arith) (omega arith) c.index-entries-index.is
    ∙ c.loop-index.invariant
