use Rattle.std.proofs.Common.{◌≡◌, ◌++◌, drop}
use Rattle.resolve_sets.specs.Flags.{free_from}
use Rattle.resolve_sets.proofs.surplus.free_places.Given as goal

abbrev pub invariant-loop-place : goal.invariant-loop-place
invariant-loop-place l =
    l.places ++ free_from l.place (drop l.place l.flags) ≡ free_from 0 l.flags
