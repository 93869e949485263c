use Rattle.std.proofs.Common.{◌-◌, length}
use Rattle.web_frames.proofs.ReaderLemmas.{TakenSoFar}
use Rattle.web_frames.proofs.reader.FrameReader.take.Given as goal

abbrev pub invariant-loop-taken : goal.invariant-loop-taken
invariant-loop-taken l = TakenSoFar l.fn.self l.piece l.taken l.self

abbrev pub decreases-loop-taken : goal.decreases-loop-taken
decreases-loop-taken l = length l.piece - l.taken
