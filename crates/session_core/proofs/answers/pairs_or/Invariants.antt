use Rattle.std.proofs.Common.{◌≡◌, ◌++◌, drop, map}
use Rattle.session_core.specs.Config.{pair_or}
use Rattle.session_core.specs.Shown.{told}
use Rattle.session_core.proofs.answers.pairs_or.Given as goal

abbrev pub invariant-loop-pair : goal.invariant-loop-pair
invariant-loop-pair l = map told l.shown.items ++ map (pair_or l.settings) (drop l.pair-index l.defaults) ≡ map (pair_or l.settings) l.defaults
