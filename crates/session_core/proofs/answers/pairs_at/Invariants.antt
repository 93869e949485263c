use Rattle.std.proofs.Common.{◌≡◌, ◌++◌, drop, map}
use Rattle.session_core.specs.Config.{pair_at}
use Rattle.session_core.specs.Shown.{told}
use Rattle.session_core.proofs.answers.pairs_at.Given as goal

abbrev pub invariant-loop-key : goal.invariant-loop-key
invariant-loop-key l = map told l.shown.items ++ map (pair_at l.settings) (drop l.key-index l.keys) ≡ map (pair_at l.settings) l.keys
