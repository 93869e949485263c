use Rattle.web_writers.proofs.Responses.{responses_are_said}
use Rattle.web_writers.proofs.laws.responses_are_said.Goals as goal

pub returns : goal.returns
returns c = responses_are_said
