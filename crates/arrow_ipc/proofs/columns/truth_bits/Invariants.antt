-- the bits of the rows so far
use Rattle.std.proofs.Common.{◌≡◌, take, map}
use Rattle.arrow_ipc.specs.Columns.{cells, truth}
use Rattle.arrow_ipc.proofs.columns.truth_bits.Given as goal

abbrev pub invariant-loop-row : goal.invariant-loop-row
invariant-loop-row l = l.bits.items ≡ map truth (cells l.column (take l.row-index l.rows))
