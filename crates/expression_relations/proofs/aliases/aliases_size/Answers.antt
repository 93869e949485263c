-- One more alias.
use Rattle.std.proofs.Common.{arith}
use Rattle.expression_messages.specs.Spelled.{alias_fields}
use Rattle.expression_messages.proofs.Measured.{size_of_nil, messages_sized}
use Rattle.expression_relations.proofs.aliases.aliases_size.Goals as goal

pub loop-alias-init : goal.loop-alias-init
loop-alias-init c = size_of_nil

pub loop-alias-preserved : goal.loop-alias-preserved
loop-alias-preserved c =
    let alias = c.alias-item.result in
    messages_sized alias_fields c.args.number c.args.aliases.now c.loop-alias.alias-index alias c.loop-alias.total c.message_size.result c.saturating_add-total.result
    (omega arith) c.alias-item.is c.loop-alias.invariant (c.message_size.ensures (alias_fields alias) c.alias_size.ensures) c.saturating_add-total.ensures
