use Rattle.resolve_types.proofs.WellFormed.{literals_are_well_formed}
use Rattle.resolve_types.proofs.laws.typed_literals_are_well_formed.Goals as goal

pub returns : goal.returns
returns c = literals_are_well_formed
