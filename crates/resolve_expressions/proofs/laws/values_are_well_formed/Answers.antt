use Rattle.resolve_expressions.proofs.TypedFacts.{values_are_well_formed}
use Rattle.resolve_expressions.proofs.laws.values_are_well_formed.Goals as goal

pub returns : goal.returns
returns c = values_are_well_formed
