use Rattle.response_buffer.proofs.WindowLemmas.{kept-IsLeast}
use Rattle.response_buffer.proofs.retained.kept_is_least.Goals as goal

pub returns : goal.returns
returns c = kept-IsLeast
