use Rattle.std.proofs.Common.{◌≡◌, ◌≤◌, length}
use Rattle.web_responses.proofs.tests.read.Given as goal

abbrev pub invariant-loop-turn : goal.invariant-loop-turn
invariant-loop-turn l = record {
  ordered : l.start ≤ l.end;
  within : l.end ≤ length l.bytes;
  counted : l.reader.count ≡ l.start;
}
