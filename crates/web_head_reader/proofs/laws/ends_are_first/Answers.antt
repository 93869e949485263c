use Rattle.web_head_reader.proofs.Read.{ends_are_first}
use Rattle.web_head_reader.proofs.laws.ends_are_first.Goals as goal

pub returns : goal.returns
returns c = ends_are_first
