use Rattle.std.proofs.Common.{◌-◌, length}
use Rattle.web_requests.proofs.Pieces.{TakenSoFar}
use Rattle.web_requests.proofs.reader.RequestReader.feed_body.Given as goal

abbrev pub invariant-loop-taken : goal.invariant-loop-taken
invariant-loop-taken l = TakenSoFar l.fn.self l.fn.piece l.self l.taken

abbrev pub decreases-loop-taken : goal.decreases-loop-taken
decreases-loop-taken l = length l.piece - l.taken
