use Rattle.web_responses.proofs.Read as proved
use Rattle.web_responses.proofs.laws.pieces_join.Goals as goal

pub returns : goal.returns
returns c = proved.pieces_join
