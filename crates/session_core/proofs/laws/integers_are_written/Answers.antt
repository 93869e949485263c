use Rattle.session_core.proofs.IntegerLemmas.{written_texts}
use Rattle.session_core.proofs.laws.integers_are_written.Goals as goal

pub returns : goal.returns
returns c = written_texts
