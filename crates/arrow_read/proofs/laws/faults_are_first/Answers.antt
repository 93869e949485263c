use Rattle.arrow_read.proofs.FaultLaws.{faults_are_first}
use Rattle.arrow_read.proofs.laws.faults_are_first.Goals as goal

pub returns : goal.returns
returns c = faults_are_first
