use Rattle.web_contents.proofs.Read as proved
use Rattle.web_contents.proofs.laws.pieces_join.Goals as goal

pub returns : goal.returns
returns c = proved.pieces_join
