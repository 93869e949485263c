use Rattle.std.proofs.Common.{◌-ℤ◌, pos, cond}
use lib.Signed.{lt_z}
use borrow.Author.Differences.{up}
use Rattle.connect_replay.proofs.Walk.{IsWalked}
use Rattle.connect_replay.proofs.range.range_numbers.Given as goal

abbrev pub invariant-loop-numbers : goal.invariant-loop-numbers
invariant-loop-numbers l = IsWalked l.start l.end l.step l.number l.numbers

-- how far the next number is from the end
abbrev pub decreases-loop-numbers : goal.decreases-loop-numbers
decreases-loop-numbers l = cond (lt_z (pos 0) l.step) (up (l.end -ℤ l.number)) (up (l.number -ℤ l.end))
