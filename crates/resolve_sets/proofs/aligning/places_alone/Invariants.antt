use Rattle.std.proofs.Common.{◌≡◌, ◌++◌, map, drop}
use Rattle.resolve_sets.specs.Aligning.{alone}
use Rattle.resolve_sets.proofs.aligning.places_alone.Given as goal

abbrev pub invariant-loop-place : goal.invariant-loop-place
invariant-loop-place l =
    l.places ++ map alone (drop l.place-index l.surplus) ≡ map alone l.surplus
