use Rattle.resolve_expressions.proofs.GroupFacts.{regrouped_is_well_formed}
use Rattle.resolve_expressions.proofs.laws.regrouped_expressions_are_well_formed.Goals as goal

pub returns : goal.returns
returns c = regrouped_is_well_formed
