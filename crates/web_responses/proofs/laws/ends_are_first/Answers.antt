use Rattle.web_responses.proofs.Read as proved
use Rattle.web_responses.proofs.laws.ends_are_first.Goals as goal

pub returns : goal.returns
returns c = proved.ends_are_first
