use Rattle.arrow_read.proofs.RowsFit.{rows_fit}
use Rattle.arrow_read.proofs.laws.read_rows_fit.Goals as goal

pub returns : goal.returns
returns c = rows_fit
