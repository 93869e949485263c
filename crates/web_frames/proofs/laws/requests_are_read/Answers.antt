use Rattle.web_frames.proofs.LawLemmas.{requests_are_read}
use Rattle.web_frames.proofs.laws.requests_are_read.Goals as goal

pub returns : goal.returns
returns c = requests_are_read
