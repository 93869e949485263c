use Rattle.std.proofs.Common.{◌≡◌, ◌++◌, take}
use Rattle.relation_eval.proofs.matches.joined_row.Given as goal

abbrev pub invariant-loop-value : goal.invariant-loop-value
invariant-loop-value l = l.values ≡ l.left.0 ++ take l.value-index l.right.0
