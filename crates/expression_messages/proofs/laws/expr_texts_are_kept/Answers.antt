use Rattle.expression_messages.proofs.TextsKept.{expr_texts}
use Rattle.expression_messages.proofs.laws.expr_texts_are_kept.Goals as goal

pub returns : goal.returns
returns c = expr_texts
