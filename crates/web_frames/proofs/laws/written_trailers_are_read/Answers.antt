use Rattle.web_frames.proofs.WrittenLemmas.{written_trailers}
use Rattle.web_frames.proofs.laws.written_trailers_are_read.Goals as goal

pub returns : goal.returns
returns c = written_trailers
