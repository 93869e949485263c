use Rattle.std.proofs.Common.{◌≡◌, ◌≤◌, length}
use Rattle.connect_vectors.proofs.web.read.Given as goal

abbrev pub invariant-loop-call : goal.invariant-loop-call
invariant-loop-call l = record {
  within : l.start ≤ length l.bytes;
  counted : l.reader.count ≡ l.start;
}
