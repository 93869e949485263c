use Rattle.web_frames.proofs.LawLemmas.{frames_are_read}
use Rattle.web_frames.proofs.laws.frames_are_read.Goals as goal

pub returns : goal.returns
returns c = frames_are_read
