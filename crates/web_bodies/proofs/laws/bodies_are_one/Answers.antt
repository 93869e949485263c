use Rattle.web_bodies.proofs.Read as read
use Rattle.web_bodies.proofs.laws.bodies_are_one.Goals as goal

pub returns : goal.returns
returns c = read.bodies_are_one
