use Rattle.web_frames.proofs.MachineLemmas.{pieces_join}
use Rattle.web_frames.proofs.laws.pieces_join.Goals as goal

pub returns : goal.returns
returns c = pieces_join
