use Rattle.expression_messages.proofs.ExprBack.{expr_read_back}
use Rattle.expression_messages.proofs.laws.exprs_are_read_back.Goals as goal

pub returns : goal.returns
returns c = expr_read_back
