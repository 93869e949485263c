-- a row without its text is one that the test misses
use Rattle.std.proofs.Common.{◌≡◌, ◌<◌, false, arith, ap, sym}
use Rattle.std.specs.Prelude.{is_some}
use Rattle.arrow_read.specs.Columns.{is_text_place}
use Rattle.arrow_read.proofs.Below.{all_below_miss}
use Rattle.arrow_read.proofs.column.has_texts.Goals as goal

pub returns-in_default : goal.returns-in_default
returns-in_default c =
    let below : c.loop-row.row < c.args.count = omega arith in
    let miss : is_text_place c.args.offsets.now c.args.texts.now c.loop-row.row ≡ false = ap is_some (sym c.in_default.ensures) in
    sym (all_below_miss c.args.count (is_text_place c.args.offsets.now c.args.texts.now) c.loop-row.row below miss)
