-- the first row with a fault
use Rattle.std.proofs.Common.{◌<◌, arith, sym}
use Rattle.arrow_read.specs.Columns.{row_fault}
use Rattle.arrow_read.proofs.Below.{fault_at}
use Rattle.arrow_read.proofs.column.Column.first_fault.Goals as goal

pub returns-in-Some : goal.returns-in-Some
returns-in-Some c =
    let below : c.loop-row.row < c.args.count = omega arith in
    sym (fault_at c.args.count (row_fault c.args.place c.args.self.now) c.loop-row.row c.in-Some.fault below c.loop-row.invariant (sym c.in-Some.ensures))
