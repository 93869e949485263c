use Rattle.connect_messages.proofs.AskedValid.{request_valid}
use Rattle.connect_messages.proofs.laws.asked_are_valid.Goals as goal

pub returns : goal.returns
returns c = request_valid
