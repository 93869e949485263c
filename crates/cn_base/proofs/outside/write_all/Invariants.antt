-- What was written so far is the beginning of the bytes up to the place, and no write has failed.
use Rattle.std.proofs.Common.{length, ◌-◌, ◌≡◌, ◌≤◌, take}
use Rattle.cn_base.specs.Outside.{Adds}
use Rattle.cn_base.proofs.outside.write_all.Given as goal

abbrev pub invariant-loop-at : goal.invariant-loop-at
invariant-loop-at g l = (l.at ≤ length l.bytes) × Adds (g.K.Sink.told l.initial.sink) (g.K.Sink.told l.sink) (take l.at l.bytes) × (g.K.Sink.faults l.sink ≡ g.K.Sink.faults l.initial.sink)

abbrev pub decreases-loop-at : goal.decreases-loop-at
decreases-loop-at g l = length l.bytes - l.at
