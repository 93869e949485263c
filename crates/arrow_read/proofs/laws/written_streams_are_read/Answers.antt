use Rattle.arrow_read.proofs.StreamLaws.{written_streams_are_read}
use Rattle.arrow_read.proofs.laws.written_streams_are_read.Goals as goal

pub returns : goal.returns
returns c = written_streams_are_read c.written_streams_hold.ensures
