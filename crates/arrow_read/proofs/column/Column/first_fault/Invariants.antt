-- the rows so far have no fault
use Rattle.std.proofs.Common.{◌≡◌, None}
use Rattle.arrow_read.specs.Columns.{first_fault, row_fault}
use Rattle.arrow_read.proofs.column.Column.first_fault.Given as goal

abbrev pub invariant-loop-row : goal.invariant-loop-row
invariant-loop-row l = first_fault l.row (row_fault l.place l.self) ≡ None
