use Rattle.std.proofs.Common.{◌-◌, ◌≤◌, length}
use Rattle.web_head_reader.proofs.tests.read.Given as goal

abbrev pub invariant-pieces : goal.invariant-pieces
invariant-pieces l = (l.start ≤ l.end) × (l.end ≤ length l.bytes)

abbrev pub decreases-pieces : goal.decreases-pieces
decreases-pieces l = length l.bytes - l.end
