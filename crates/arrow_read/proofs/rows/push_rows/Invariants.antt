-- what was there, and the rows so far
use Rattle.std.proofs.Common.{◌≡◌, ◌+◌, ◌++◌}
use Rattle.arrow_read.specs.Room.{texts_size}
use Rattle.arrow_read.specs.Columns.{rows_of}
use Rattle.arrow_read.proofs.rows.push_rows.Given as goal

abbrev pub invariant-loop-row : goal.invariant-loop-row
invariant-loop-row l = record {
  rows : l.rows ≡ l.fn.rows ++ rows_of l.columns l.row;
  texts : l.texts + texts_size l.rows ≡ l.room + texts_size l.fn.rows;
}
