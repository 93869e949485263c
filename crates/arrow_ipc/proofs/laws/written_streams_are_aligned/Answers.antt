use Rattle.arrow_ipc.proofs.Aligned.{written_streams_are_aligned}
use Rattle.arrow_ipc.proofs.laws.written_streams_are_aligned.Goals as goal

pub returns : goal.returns
returns c = written_streams_are_aligned c.layouts_are_aligned.ensures
