use Rattle.relation_eval.proofs.sets.set_operation.Goals as goal

pub returns-in-Union : goal.returns-in-Union
returns-in-Union c = rw c.in-Union.is c.union.ensures
