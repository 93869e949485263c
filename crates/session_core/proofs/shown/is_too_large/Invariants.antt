use Rattle.std.proofs.Common.{◌≡◌, ◌≤◌, ◌+◌, drop, map, sum_by}
use Rattle.session_core.specs.Config.{pair_weight}
use Rattle.session_core.specs.Shown.{told}
use Rattle.session_core.proofs.shown.is_too_large.Given as goal

abbrev pub invariant-loop-pair : goal.invariant-loop-pair
invariant-loop-pair l = record { sum : l.total + sum_by pair_weight (map told (drop l.pair-index l.shown)) ≡ sum_by pair_weight (map told l.shown); few : l.total ≤ 8388608 }
