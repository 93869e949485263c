use Rattle.plan_grammar.proofs.Steps.{HasRead}
use Rattle.plan_grammar.proofs.Weighed.{weigh}
use Rattle.plan_grammar.proofs.parsing.derivation.Given as goal

abbrev pub invariant-loop-reader : goal.invariant-loop-reader
invariant-loop-reader l = HasRead l.text l.reader

abbrev pub decreases-loop-reader : goal.decreases-loop-reader
decreases-loop-reader l = weigh l.reader
