use Rattle.relation_eval.proofs.sets.union.Goals as goal

pub returns-then-all : goal.returns-then-all
returns-then-all c = rw c.if-all.true c.union_all.ensures

pub returns-else-all : goal.returns-else-all
returns-else-all c = rw c.if-all.false c.union_distinct.ensures
