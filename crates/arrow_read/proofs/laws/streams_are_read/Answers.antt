use Rattle.arrow_read.proofs.StreamLaws.{streams_are_read}
use Rattle.arrow_read.proofs.laws.streams_are_read.Goals as goal

pub returns : goal.returns
returns c = streams_are_read
