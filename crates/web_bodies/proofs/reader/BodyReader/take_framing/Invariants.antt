use Rattle.web_bodies.proofs.Framing.{TakenSoFar}
use Rattle.web_bodies.proofs.reader.BodyReader.take_framing.Given as goal

abbrev pub invariant-loop-index : goal.invariant-loop-index
invariant-loop-index l = TakenSoFar l.fn.self l.fn.piece l.self l.index
