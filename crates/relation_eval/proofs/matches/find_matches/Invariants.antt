use Rattle.std.proofs.Common.{take}
use Rattle.std.specs.Option.{option_copied}
use Rattle.relation_eval.specs.Matches.{FindsMatches}
use Rattle.relation_eval.proofs.matches.find_matches.Given as goal

abbrev pub invariant-loop-row : goal.invariant-loop-row
invariant-loop-row l = FindsMatches (option_copied l.condition) (take l.row-index l.left) l.right (record { rows = l.rows; left_flags = l.left_flags; right_flags = l.right_flags })
