use Rattle.web_frames.proofs.LawLemmas.{written_frames_are_read}
use Rattle.web_frames.proofs.laws.written_frames_are_read.Goals as goal

pub returns : goal.returns
returns c = written_frames_are_read
