use Rattle.std.proofs.Common.{◌≡◌, ◌++◌, drop, map}
use Rattle.session_core.specs.Shown.{told}
use Rattle.session_core.proofs.shown.pairs_of.Given as goal

abbrev pub invariant-loop-pair : goal.invariant-loop-pair
invariant-loop-pair l = l.pairs ++ map told (drop l.pair-index l.shown) ≡ map told l.shown
