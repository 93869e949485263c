use Rattle.web_contents.proofs.Read as contents
use Rattle.web_requests.proofs.Read.{requests_are_read}
use Rattle.web_requests.proofs.laws.requests_are_read.Goals as goal

pub returns : goal.returns
returns c = requests_are_read (record { pieces = contents.pieces_join; read = contents.contents_are_read; one = contents.contents_are_one; first = contents.ends_are_first })
