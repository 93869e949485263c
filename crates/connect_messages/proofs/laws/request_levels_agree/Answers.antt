use Rattle.connect_messages.proofs.SameRequests.{request_agrees}
use Rattle.connect_messages.proofs.laws.request_levels_agree.Goals as goal

pub returns : goal.returns
returns c = request_agrees
