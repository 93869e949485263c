use Rattle.web_writers.proofs.ReadBack.{requests_are_read_back}
use Rattle.web_writers.proofs.laws.requests_are_read_back.Goals as goal

pub returns : goal.returns
returns c = requests_are_read_back
