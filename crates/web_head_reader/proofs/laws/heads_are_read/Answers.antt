use Rattle.web_head_reader.proofs.Read.{heads_are_read}
use Rattle.web_head_reader.proofs.laws.heads_are_read.Goals as goal

pub returns : goal.returns
returns c = heads_are_read
