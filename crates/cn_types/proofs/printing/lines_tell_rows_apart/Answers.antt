use Rattle.cn_types.proofs.LineFacts.{lines_tell_apart}
use Rattle.cn_types.proofs.printing.lines_tell_rows_apart.Goals as goal

pub returns : goal.returns
returns c = lines_tell_apart
