use Rattle.web_contents.proofs.Finish as proved
use Rattle.web_contents.proofs.laws.connections_end.Goals as goal

pub returns : goal.returns
returns c = proved.connections_end
