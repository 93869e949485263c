use Rattle.std.proofs.Common.{◌≡◌, ◌++◌, drop}
use Rattle.relation_eval.specs.Joined.{unflagged, behind_nulls}
use Rattle.relation_eval.proofs.joins.push_right_alone.Given as goal

abbrev pub invariant-loop-place : goal.invariant-loop-place
invariant-loop-place l =
    l.initial.list.items ++ behind_nulls l.width (unflagged l.flags l.rows) ≡ l.list.items ++ behind_nulls l.width (unflagged (drop l.place l.flags) (drop l.place l.rows))
