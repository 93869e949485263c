use Rattle.web_bodies.proofs.Read as read
use Rattle.web_bodies.proofs.laws.pieces_join.Goals as goal

pub returns : goal.returns
returns c = read.pieces_join
