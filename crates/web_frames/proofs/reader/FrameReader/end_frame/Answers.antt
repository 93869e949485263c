use Rattle.web_frames.proofs.CallLemmas.{HoldsFrame-empty}
use Rattle.web_frames.proofs.reader.FrameReader.end_frame.Goals as goal

pub invariant_of-self : goal.invariant_of-self
invariant_of-self c = HoldsFrame-empty _ _ _ _ c.self.invariant.room c.new.ensures
