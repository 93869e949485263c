use Rattle.response_messages.proofs.SameResponses.{response_agrees}
use Rattle.response_messages.proofs.laws.response_levels_agree.Goals as goal

pub returns : goal.returns
returns c = response_agrees
