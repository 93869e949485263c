-- One more text.
use Rattle.std.proofs.Common.{◌≡◌, ℕ, List, length, ap, sym, ◌∙◌, arith}
use Rattle.expression_messages.proofs.Measured.{size_of_nil, repeated_sized}
use Rattle.expression_messages.proofs.texts.texts_size.Goals as goal

pub loop-text-init : goal.loop-text-init
loop-text-init c = size_of_nil

pub loop-text-preserved : goal.loop-text-preserved
loop-text-preserved c =
    let text = c.text-item.result in
    let one = c.payload_size.ensures text (ap (length {A = ℕ}) (sym c.as_str.ensures)) in
    repeated_sized c.args.number c.args.texts.now c.loop-text.text-index text c.loop-text.total c.payload_size.result c.saturating_add-total.result
    (omega arith) c.text-item.is c.loop-text.invariant one c.saturating_add-total.ensures
