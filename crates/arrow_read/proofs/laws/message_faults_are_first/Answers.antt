use Rattle.arrow_read.proofs.MessageFaultLaws.{message_faults_are_first}
use Rattle.arrow_read.proofs.laws.message_faults_are_first.Goals as goal

pub returns : goal.returns
returns c = message_faults_are_first
