use Rattle.flat_tables.proofs.ReadBack.{reads_back}
use Rattle.flat_tables.proofs.laws.built_objects_are_read.Goals as goal

pub returns : goal.returns
returns c = reads_back
