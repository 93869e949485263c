use Rattle.resolve_expressions.proofs.TypedFacts.{conditions_are_well_formed}
use Rattle.resolve_expressions.proofs.laws.conditions_are_well_formed.Goals as goal

pub returns : goal.returns
returns c = conditions_are_well_formed
