use Rattle.std.proofs.Common.{◌≡◌, ◌++◌, take, drop}
use Rattle.std.specs.Prelude.{None}
use Rattle.relation_eval.specs.Copies.{all_repeated}
use Rattle.relation_eval.specs.Firsts.{flags_after, flagged, firsts}
use Rattle.relation_eval.proofs.sets.copied_so_often.Given as goal

abbrev pub invariant-loop-place : goal.invariant-loop-place
invariant-loop-place l =
    all_repeated l.kind l.all l.left l.right (firsts None l.left) ≡ l.list.items ++ all_repeated l.kind l.all l.left l.right (flagged (flags_after None (take l.place l.left) (drop l.place l.left)) (drop l.place l.left))
