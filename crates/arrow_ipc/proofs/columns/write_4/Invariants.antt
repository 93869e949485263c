-- what was there, and the bytes of the rows so far
use Rattle.std.proofs.Common.{◌≡◌, ◌++◌, take}
use Rattle.std.specs.List.{flat_map}
use Rattle.arrow_ipc.specs.Columns.{cells, bytes_of_4}
use Rattle.arrow_ipc.proofs.columns.write_4.Given as goal

abbrev pub invariant-loop-row : goal.invariant-loop-row
invariant-loop-row l = l.out.items ≡ l.fn.out.items ++ flat_map bytes_of_4 (cells l.column (take l.row-index l.rows))
