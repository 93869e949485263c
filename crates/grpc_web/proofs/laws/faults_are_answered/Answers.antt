use Rattle.grpc_web.proofs.FaultLists.{faults_are_answered}
use Rattle.grpc_web.proofs.laws.faults_are_answered.Goals as goal

pub returns : goal.returns
returns c = faults_are_answered
