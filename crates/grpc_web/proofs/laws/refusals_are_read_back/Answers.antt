use Rattle.grpc_web.proofs.Refusals.{refusals_are_read_back}
use Rattle.grpc_web.proofs.laws.refusals_are_read_back.Goals as goal

pub returns : goal.returns
returns c = refusals_are_read_back
