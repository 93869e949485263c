use Rattle.std.proofs.Common.{◌≡◌, ◌++◌, drop}
use Rattle.relation_eval.specs.Firsts.{flagged}
use Rattle.relation_eval.proofs.joins.copies_of_flagged.Given as goal

abbrev pub invariant-loop-place : goal.invariant-loop-place
invariant-loop-place l = flagged l.flags l.rows ≡ l.kept.items ++ flagged (drop l.place l.flags) (drop l.place l.rows)
