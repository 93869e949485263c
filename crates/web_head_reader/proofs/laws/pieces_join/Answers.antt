use Rattle.web_head_reader.proofs.Read.{pieces_join}
use Rattle.web_head_reader.proofs.laws.pieces_join.Goals as goal

pub returns : goal.returns
returns c = pieces_join
