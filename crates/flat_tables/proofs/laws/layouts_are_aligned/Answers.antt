use Rattle.flat_tables.proofs.Aligned.{layouts_are_aligned}
use Rattle.flat_tables.proofs.laws.layouts_are_aligned.Goals as goal

pub returns : goal.returns
returns c = layouts_are_aligned
