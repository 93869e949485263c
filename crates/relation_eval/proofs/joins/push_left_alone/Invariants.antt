use Rattle.std.proofs.Common.{◌≡◌, ◌++◌, drop}
use Rattle.relation_eval.specs.Joined.{unflagged, before_nulls}
use Rattle.relation_eval.proofs.joins.push_left_alone.Given as goal

abbrev pub invariant-loop-place : goal.invariant-loop-place
invariant-loop-place l =
    l.initial.list.items ++ before_nulls l.width (unflagged l.flags l.rows) ≡ l.list.items ++ before_nulls l.width (unflagged (drop l.place l.flags) (drop l.place l.rows))
