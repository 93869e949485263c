use Rattle.request_messages.proofs.RequestsBack.{reattach_back}
use Rattle.request_messages.proofs.laws.reattach_requests_are_read_back.Goals as goal

pub returns : goal.returns
returns c = reattach_back
