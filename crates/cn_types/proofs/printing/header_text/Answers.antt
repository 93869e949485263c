use Rattle.std.proofs.Common.{arith}
use Rattle.cn_types.proofs.Lines.{join-take-more}
use Rattle.cn_types.specs.Printed.{escaped}
use Rattle.cn_types.proofs.printing.header_text.Goals as goal

pub loop-place-preserved : goal.loop-place-preserved
loop-place-preserved c =
    let more = join-take-more (λ field. escaped field.name) c.as_slice-field-items.result.now c.loop-place.place c.field-item.result (omega arith) c.field-item.is in
    cc (c.in_ok-push_escaped.ensures, c.in_ok-push_separator.ensures)
