use Rattle.arrow_read.proofs.StreamLaws.{streams_hold_one}
use Rattle.arrow_read.proofs.laws.streams_hold_one.Goals as goal

pub returns : goal.returns
returns c = streams_hold_one
