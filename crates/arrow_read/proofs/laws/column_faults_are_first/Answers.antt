use Rattle.arrow_read.proofs.ColumnFaultLaws.{column_faults_are_first}
use Rattle.arrow_read.proofs.laws.column_faults_are_first.Goals as goal

pub returns : goal.returns
returns c = column_faults_are_first
