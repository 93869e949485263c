use Rattle.std.proofs.Common.{◌≡◌, drop, map, is_none}
use Rattle.std.specs.List.{find}
use Rattle.session_core.specs.Shown.{told}
use Rattle.session_core.proofs.answers.first_missing.Given as goal

abbrev pub invariant-loop-pair : goal.invariant-loop-pair
invariant-loop-pair l = find (λ pair. is_none pair.value) (map told l.shown) ≡ find (λ pair. is_none pair.value) (map told (drop l.pair-index l.shown))
