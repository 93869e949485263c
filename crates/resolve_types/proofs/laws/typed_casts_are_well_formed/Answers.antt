use Rattle.resolve_types.proofs.WellFormed.{casts_are_well_formed}
use Rattle.resolve_types.proofs.laws.typed_casts_are_well_formed.Goals as goal

pub returns : goal.returns
returns c = casts_are_well_formed
