-- A relation is deeper than each of its inputs.
use Rattle.std.proofs.Common.{◌+◌, ◌*◌, max}
use Rattle.plan_model.specs.declared.node.Node.TheViews.{size-Node}
use Rattle.relation_eval.proofs.evaluation.+given.Given as goal

abbrev pub decreases-given_of : goal.decreases-given_of
decreases-given_of l = 3 * size-Node l.node.now + 1

abbrev pub decreases-given_by_kind : goal.decreases-given_by_kind
decreases-given_by_kind l = 3 * size-Node l.node.now

abbrev pub decreases-join_of : goal.decreases-join_of
decreases-join_of l = 3 * max (size-Node l.left.now) (size-Node l.right.now) + 2

abbrev pub decreases-set_of : goal.decreases-set_of
decreases-set_of l = 3 * max (size-Node l.left.now) (size-Node l.right.now) + 2
