-- the nulls of the rows so far
use Rattle.std.proofs.Common.{◌≡◌, ◌≤◌, take}
use Rattle.arrow_ipc.specs.Columns.{cells, null_count}
use Rattle.arrow_ipc.proofs.columns.null_count.Given as goal

abbrev pub invariant-loop-row : goal.invariant-loop-row
invariant-loop-row l = record {
  count : l.count ≡ null_count (cells l.column (take l.row-index l.rows));
  few : l.count ≤ l.row-index;
}
