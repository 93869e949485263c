use Rattle.std.proofs.Common.{◌≡◌, ◌++◌, [], length, take, drop}
use Rattle.relation_eval.specs.Firsts.{flags_after}
use Rattle.relation_eval.proofs.firsts.first_flags.Given as goal

abbrev pub invariant-loop-place : goal.invariant-loop-place
invariant-loop-place l = (length l.flags.items ≡ l.place) × (flags_after l.columns [] l.rows ≡ l.flags.items ++ flags_after l.columns (take l.place l.rows) (drop l.place l.rows))
