use Rattle.web_responses.proofs.Fed as proved
use Rattle.web_responses.proofs.laws.answers_are_fed.Goals as goal

pub returns : goal.returns
returns c = proved.answers_are_fed
