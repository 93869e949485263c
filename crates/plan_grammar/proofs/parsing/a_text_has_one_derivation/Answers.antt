use Rattle.plan_grammar.proofs.Steps.{one_derivation}
use Rattle.plan_grammar.proofs.parsing.a_text_has_one_derivation.Goals as goal

pub returns : goal.returns
returns c = one_derivation
