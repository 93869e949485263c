use Rattle.web_requests.proofs.Read.{pieces_join}
use Rattle.web_requests.proofs.laws.pieces_join.Goals as goal

pub returns : goal.returns
returns c = pieces_join
