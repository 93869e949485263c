-- One more entry.
use Rattle.std.proofs.Common.{arith}
use Rattle.expression_messages.proofs.Measured.{size_of_nil, messages_sized}
use Rattle.plain_relations.specs.Spelled.{entry_fields}
use Rattle.plain_relations.proofs.renamed_writing.entries_size.Goals as goal

pub loop-entry-init : goal.loop-entry-init
loop-entry-init c = size_of_nil

pub loop-entry-preserved : goal.loop-entry-preserved
loop-entry-preserved c =
    let entry = c.entry-item.result in
    messages_sized entry_fields 2 c.args.entries.now c.loop-entry.entry-index entry c.loop-entry.total c.message_size.result c.saturating_add-total.result
    (omega arith) c.entry-item.is c.loop-entry.invariant (c.message_size.ensures (entry_fields entry) c.entry_size.ensures) c.saturating_add-total.ensures
