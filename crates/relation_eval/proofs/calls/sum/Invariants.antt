use Rattle.std.proofs.Common.{◌≡◌, take}
use Rattle.relation_eval.specs.Calls.{sum_there}
use Rattle.relation_eval.specs.Members.{values_at}
use Rattle.relation_eval.proofs.calls.sum.Given as goal

abbrev pub invariant-loop-place : goal.invariant-loop-place
invariant-loop-place l = l.sum ≡ sum_there (values_at l.argument l.rows (take l.place-index l.places))
