use Rattle.flat_tables.proofs.Bounds.{sizes_add_up}
use Rattle.flat_tables.proofs.laws.object_sizes_add_up.Goals as goal

pub returns : goal.returns
returns c = sizes_add_up
