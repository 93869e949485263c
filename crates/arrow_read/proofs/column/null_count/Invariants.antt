-- the nulls of the rows so far
use Rattle.std.proofs.Common.{◌≡◌, ◌≤◌}
use Rattle.arrow_read.specs.Columns.{misses_below, is_present}
use Rattle.arrow_read.proofs.column.null_count.Given as goal

abbrev pub invariant-loop-row : goal.invariant-loop-row
invariant-loop-row l = record {
  count : l.nulls ≡ misses_below l.row (is_present l.validity);
  few : l.nulls ≤ l.row;
}
