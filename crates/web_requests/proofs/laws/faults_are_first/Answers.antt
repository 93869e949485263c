use Rattle.web_contents.proofs.Read as contents
use Rattle.web_requests.proofs.Read.{faults_are_first}
use Rattle.web_requests.proofs.laws.faults_are_first.Goals as goal

pub returns : goal.returns
returns c = faults_are_first (record { pieces = contents.pieces_join; read = contents.contents_are_read; one = contents.contents_are_one; first = contents.ends_are_first })
