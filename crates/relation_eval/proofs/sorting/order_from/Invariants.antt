use Rattle.std.proofs.Common.{◌≡◌, drop}
use Rattle.relation_eval.specs.SortKeys.{found_order}
use Rattle.relation_eval.proofs.sorting.order_from.Given as goal

abbrev pub invariant-loop-place : goal.invariant-loop-place
invariant-loop-place l = found_order l.keys 0 l.left l.right ≡ found_order (drop l.place l.keys) l.place l.left l.right
