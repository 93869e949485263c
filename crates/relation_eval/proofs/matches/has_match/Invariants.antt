use Rattle.std.proofs.Common.{◌≡◌, drop}
use Rattle.std.specs.Option.{option_copied}
use Rattle.relation_eval.specs.Matches.{rows_at, matches_some}
use Rattle.relation_eval.proofs.matches.has_match.Given as goal

abbrev pub invariant-loop-place : goal.invariant-loop-place
invariant-loop-place l =
    matches_some (option_copied l.condition) (rows_at l.right l.places) l.left ≡ matches_some (option_copied l.condition) (rows_at l.right (drop l.place-index l.places)) l.left
