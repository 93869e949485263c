use Rattle.std.proofs.Common.{◌≤◌, length}
use Rattle.grpc_web.proofs.tests.trailers_told.Given as goal

abbrev pub invariant-loop-turn : goal.invariant-loop-turn
invariant-loop-turn l = record {
  within : l.start ≤ length l.bytes;
  counted : l.reader.count ≤ l.start;
}
