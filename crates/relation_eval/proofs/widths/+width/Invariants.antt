-- A relation is deeper than each of its inputs.
use Rattle.std.proofs.Common.{◌+◌, ◌*◌, max}
use Rattle.plan_model.specs.declared.node.Node.TheViews.{size-Node}
use Rattle.relation_eval.proofs.widths.+width.Given as goal

abbrev pub decreases-width_of : goal.decreases-width_of
decreases-width_of l = 3 * size-Node l.node.now

abbrev pub decreases-join_width : goal.decreases-join_width
decreases-join_width l = 3 * max (size-Node l.left.now) (size-Node l.right.now) + 2

abbrev pub decreases-both_widths : goal.decreases-both_widths
decreases-both_widths l = 3 * max (size-Node l.left.now) (size-Node l.right.now) + 1
