use Rattle.resolve_expressions.proofs.TypedFacts.{typed_is_well_formed}
use Rattle.resolve_expressions.proofs.laws.typed_expressions_are_well_formed.Goals as goal

pub returns : goal.returns
returns c = typed_is_well_formed
