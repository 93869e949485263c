use Rattle.expression_messages.proofs.TypeBack.{type_read_back}
use Rattle.expression_messages.proofs.laws.types_are_read_back.Goals as goal

pub returns : goal.returns
returns c = type_read_back
