use Rattle.request_messages.proofs.RequestsBack.{interrupt_back}
use Rattle.request_messages.proofs.laws.interrupt_requests_are_read_back.Goals as goal

pub returns : goal.returns
returns c = interrupt_back
