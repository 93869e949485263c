use Rattle.resolve_types.proofs.WellFormed.{attributes_are_well_formed}
use Rattle.resolve_types.proofs.laws.typed_attributes_are_well_formed.Goals as goal

pub returns : goal.returns
returns c = attributes_are_well_formed
