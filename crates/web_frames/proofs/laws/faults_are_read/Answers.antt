use Rattle.web_frames.proofs.LawLemmas.{faults_are_read}
use Rattle.web_frames.proofs.laws.faults_are_read.Goals as goal

pub returns : goal.returns
returns c = faults_are_read
