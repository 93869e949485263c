use Rattle.web_responses.proofs.Read as proved
use Rattle.web_responses.proofs.laws.answers_are_one.Goals as goal

pub returns : goal.returns
returns c = proved.answers_are_one
