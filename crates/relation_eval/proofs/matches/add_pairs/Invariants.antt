use Rattle.std.proofs.Common.{◌≡◌, ◌++◌, length, drop}
use Rattle.std.specs.Option.{option_copied}
use Rattle.relation_eval.specs.Joined.{pairs_with}
use Rattle.relation_eval.specs.Matches.{rows_at, match_places, marked}
use Rattle.relation_eval.proofs.matches.add_pairs.Given as goal

abbrev pub invariant-loop-place : goal.invariant-loop-place
invariant-loop-place l =
    (length l.flags.items ≡ length l.right)
    × (l.rows.items ++ pairs_with (option_copied l.condition) l.left (rows_at l.right (drop l.place-index l.places)) ≡ l.initial.rows.items ++ pairs_with (option_copied l.condition) l.left (rows_at l.right l.places))
    × (marked l.flags.items (match_places (option_copied l.condition) l.left l.right (drop l.place-index l.places)) ≡ marked l.initial.flags.items (match_places (option_copied l.condition) l.left l.right l.places))
