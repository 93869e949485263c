use Rattle.request_messages.proofs.ConfigBack.{config_back}
use Rattle.request_messages.proofs.laws.config_requests_are_read_back.Goals as goal

pub returns : goal.returns
returns c = config_back
