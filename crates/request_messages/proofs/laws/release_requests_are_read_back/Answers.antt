use Rattle.request_messages.proofs.RequestsBack.{release_back}
use Rattle.request_messages.proofs.laws.release_requests_are_read_back.Goals as goal

pub returns : goal.returns
returns c = release_back
