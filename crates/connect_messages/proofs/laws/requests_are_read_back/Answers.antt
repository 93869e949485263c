use Rattle.connect_messages.proofs.RequestBack.{request_read_back}
use Rattle.connect_messages.proofs.laws.requests_are_read_back.Goals as goal

pub returns : goal.returns
returns c = request_read_back
