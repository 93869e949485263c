-- the rows so far have texts
use Rattle.std.proofs.Common.{◌≡◌, true}
use Rattle.arrow_read.specs.Columns.{all_below, is_text_place}
use Rattle.arrow_read.proofs.column.has_texts.Given as goal

abbrev pub invariant-loop-row : goal.invariant-loop-row
invariant-loop-row l = all_below l.row (is_text_place l.offsets l.texts) ≡ true
