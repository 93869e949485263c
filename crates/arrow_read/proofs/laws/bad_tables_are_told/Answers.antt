use Rattle.arrow_read.proofs.BadTableLaws.{bad_tables_are_told}
use Rattle.arrow_read.proofs.laws.bad_tables_are_told.Goals as goal

pub returns : goal.returns
returns c = bad_tables_are_told
