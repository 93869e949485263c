-- One more pair.
use Rattle.std.proofs.Common.{arith}
use Rattle.expression_messages.proofs.Measured.{size_of_nil, messages_sized}
use Rattle.response_messages.specs.KeyValues.{key_value_fields}
use Rattle.response_messages.proofs.key_value.pairs_size.Goals as goal

pub loop-pair-init : goal.loop-pair-init
loop-pair-init c = size_of_nil

pub loop-pair-preserved : goal.loop-pair-preserved
loop-pair-preserved c =
    let pair = c.pair-item.result in
    messages_sized key_value_fields c.args.number c.args.pairs.now c.loop-pair.pair-index pair c.loop-pair.total c.message_size.result c.saturating_add-total.result
    (omega arith) c.pair-item.is c.loop-pair.invariant (c.message_size.ensures (key_value_fields pair) c.key_value_size.ensures) c.saturating_add-total.ensures
