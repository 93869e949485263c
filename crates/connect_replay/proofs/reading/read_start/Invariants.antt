-- The buffer's front has the bytes that the source gave so far, and no read has failed.
use Rattle.std.proofs.Common.{length, take, ◌-◌, ◌≡◌, ◌≤◌}
use Rattle.std.specs.Io.KnownBytes.{Consumes}
use Rattle.connect_replay.proofs.reading.read_start.Given as goal

abbrev pub invariant-loop-count : goal.invariant-loop-count
invariant-loop-count g l =
    record {
      room : l.count ≤ length l.buffer;
      read : Consumes (g.S.Source.left l.initial.input) (g.S.Source.left l.input) (take l.count l.buffer);
      faultless : g.S.Source.faults l.input ≡ g.S.Source.faults l.initial.input;
    }

abbrev pub decreases-loop-count : goal.decreases-loop-count
decreases-loop-count g l = length l.buffer - l.count
