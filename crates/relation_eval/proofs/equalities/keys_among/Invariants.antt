use Rattle.relation_eval.specs.Equalities.{CandidatesShare}
use Rattle.relation_eval.proofs.equalities.keys_among.Given as goal

abbrev pub invariant-loop-equality : goal.invariant-loop-equality
invariant-loop-equality l = CandidatesShare l.equalities l.lefts.items l.rights.items l.left l.right
