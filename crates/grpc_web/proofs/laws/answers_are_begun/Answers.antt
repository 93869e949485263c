use Rattle.grpc_web.proofs.Begun.{answers_are_begun}
use Rattle.grpc_web.proofs.laws.answers_are_begun.Goals as goal

pub returns : goal.returns
returns c = answers_are_begun
