use Rattle.response_messages.proofs.ResponseBack.{response_read_back}
use Rattle.response_messages.proofs.laws.responses_are_read_back.Goals as goal

pub returns : goal.returns
returns c = response_read_back
