use Rattle.expression_messages.proofs.ExprBack.{alias_read_back}
use Rattle.expression_messages.proofs.laws.aliases_are_read_back.Goals as goal

pub returns : goal.returns
returns c = alias_read_back
