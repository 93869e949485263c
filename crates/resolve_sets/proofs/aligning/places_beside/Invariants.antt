use Rattle.std.proofs.Common.{◌≡◌, ◌++◌, drop}
use Rattle.resolve_relations.specs.Columns.{numbered_from}
use Rattle.resolve_sets.specs.Aligning.{beside}
use Rattle.resolve_sets.proofs.aligning.places_beside.Given as goal

abbrev pub invariant-loop-place : goal.invariant-loop-place
invariant-loop-place l =
    l.places ++ numbered_from beside l.place (drop l.place l.partners) ≡ numbered_from beside 0 l.partners
