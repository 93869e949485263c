use Rattle.std.proofs.Common.{◌-◌, ◌-ℤ◌, unsigned_abs, length}
use Rattle.relation_eval.proofs.RangeSteps.{RangeSoFar}
use Rattle.relation_eval.proofs.ranges.rows_of_range.Given as goal

abbrev pub invariant-numbers : goal.invariant-numbers
invariant-numbers l = RangeSoFar l.start l.end l.step l.rows.items l.number

abbrev pub decreases-numbers : goal.decreases-numbers
decreases-numbers l = unsigned_abs (l.end -ℤ l.start) - length l.rows.items
