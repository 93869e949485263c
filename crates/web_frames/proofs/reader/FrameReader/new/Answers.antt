use Rattle.std.proofs.Common.{refl}
use Rattle.web_frames.proofs.CallLemmas.{HoldsFrame-empty}
use Rattle.web_frames.proofs.reader.FrameReader.new.Goals as goal

pub invariant_of-result : goal.invariant_of-result
invariant_of-result c = HoldsFrame-empty _ _ _ _ refl c.new.ensures
