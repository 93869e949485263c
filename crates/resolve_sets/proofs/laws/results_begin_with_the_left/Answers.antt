use Rattle.resolve_sets.proofs.Told.{results_begin_with_the_left}
use Rattle.resolve_sets.proofs.laws.results_begin_with_the_left.Goals as goal

pub returns : goal.returns
returns c = results_begin_with_the_left
