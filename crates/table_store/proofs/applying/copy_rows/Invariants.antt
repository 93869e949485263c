-- The copied rows are the rows so far.
use Rattle.std.proofs.Common.{◌≡◌, take}
use Rattle.table_store.proofs.applying.copy_rows.Given as goal

abbrev pub invariant-loop-row : goal.invariant-loop-row
invariant-loop-row l = l.copied ≡ take l.row-index l.rows
