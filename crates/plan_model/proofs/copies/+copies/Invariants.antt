-- A relation is deeper than each of its inputs.
use Rattle.std.proofs.Common.{◌+◌, ◌*◌, max}
use Rattle.plan_model.specs.declared.node.Node.TheViews.{size-Node}
use Rattle.plan_model.proofs.copies.+copies.Given as goal

abbrev pub decreases-copy_node : goal.decreases-copy_node
decreases-copy_node l = 2 * size-Node l.node.now

abbrev pub decreases-copy_join : goal.decreases-copy_join
decreases-copy_join l = 2 * max (size-Node l.left.now) (size-Node l.right.now) + 1

abbrev pub decreases-copy_set_op : goal.decreases-copy_set_op
decreases-copy_set_op l = 2 * max (size-Node l.left.now) (size-Node l.right.now) + 1
