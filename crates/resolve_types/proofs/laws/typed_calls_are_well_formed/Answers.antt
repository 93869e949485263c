use Rattle.resolve_types.proofs.WellFormed.{calls_are_well_formed}
use Rattle.resolve_types.proofs.laws.typed_calls_are_well_formed.Goals as goal

pub returns : goal.returns
returns c = calls_are_well_formed
