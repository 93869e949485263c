use Rattle.web_bodies.proofs.Read as read
use Rattle.web_bodies.proofs.laws.places_are_counted.Goals as goal

pub returns : goal.returns
returns c = read.places_are_counted
