use Rattle.std.proofs.Common.{arith}
use Rattle.cn_types.proofs.Lines.{join-take-more}
use Rattle.cn_types.specs.Printed.{printed}
use Rattle.cn_types.proofs.printing.row_text.Goals as goal

pub loop-place-preserved : goal.loop-place-preserved
loop-place-preserved c =
    let more = join-take-more printed c.as_slice-value-items.result.now c.loop-place.place c.value-item.result (omega arith) c.value-item.is in
    cc (c.in_ok-push_value.ensures, c.in_ok-push_separator.ensures)
