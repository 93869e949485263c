use Rattle.web_frames.proofs.LawLemmas.{whole_frames_are_read}
use Rattle.web_frames.proofs.laws.whole_frames_are_read.Goals as goal

pub returns : goal.returns
returns c = whole_frames_are_read
