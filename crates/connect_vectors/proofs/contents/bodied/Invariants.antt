use Rattle.std.proofs.Common.{◌+◌, ◌-◌, ◌<◌, ◌≤◌, ◌^◌, length}
use Rattle.connect_vectors.proofs.contents.bodied.Given as goal

abbrev pub invariant-loop-call : goal.invariant-loop-call
invariant-loop-call l = record {
  within : l.start ≤ length l.bytes;
  room : l.reader.count + (length l.bytes - l.start) < 2 ^ 63;
}
