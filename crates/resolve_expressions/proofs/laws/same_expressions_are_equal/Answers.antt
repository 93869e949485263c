use Rattle.resolve_expressions.proofs.SameFacts.{same_is_equal}
use Rattle.resolve_expressions.proofs.laws.same_expressions_are_equal.Goals as goal

pub returns : goal.returns
returns c = same_is_equal
