use Rattle.std.proofs.Common.{◌≡◌, map, take}
use Rattle.std.specs.Option.{option_copied}
use Rattle.relation_eval.specs.Matches.{matches_some}
use Rattle.relation_eval.proofs.matches.match_flags.Given as goal

abbrev pub invariant-loop-row : goal.invariant-loop-row
invariant-loop-row l = l.flags.items ≡ map (matches_some (option_copied l.condition) l.right) (take l.row-index l.left)
