use Rattle.std.proofs.Common.{◌≡◌, ◌≤◌, length, take, drop}
use Rattle.std.specs.Prelude.{vec_len, reverse}
use Rattle.relation_eval.specs.Firsts.{flagged}
use Rattle.relation_eval.proofs.firsts.flagged_rows.Given as goal

abbrev pub invariant-loop-row : goal.invariant-loop-row
invariant-loop-row l =
    (vec_len l.rows ≤ length l.initial.rows.items) × (l.rows.items ≡ take (vec_len l.rows) l.initial.rows.items)
    × (l.kept.items ≡ reverse (flagged (drop (vec_len l.rows) l.flags) (drop (vec_len l.rows) l.initial.rows.items)))

abbrev pub decreases-loop-row : goal.decreases-loop-row
decreases-loop-row l = vec_len l.rows
