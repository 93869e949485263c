use Rattle.web_bodies.proofs.Read as read
use Rattle.web_bodies.proofs.laws.ends_are_first.Goals as goal

pub returns : goal.returns
returns c = read.ends_are_first
