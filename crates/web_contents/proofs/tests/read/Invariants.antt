use Rattle.std.proofs.Common.{◌≡◌, ◌+◌, ◌≤◌, length}
use Rattle.web_contents.proofs.tests.read.Given as goal

abbrev pub invariant-loop-turn : goal.invariant-loop-turn
invariant-loop-turn l = record {
  ordered : l.start ≤ l.end;
  within : l.end ≤ length l.bytes;
  counted : l.reader.body.count ≡ 100 + l.start;
}
