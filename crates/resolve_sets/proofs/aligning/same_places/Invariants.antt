use Rattle.std.proofs.Common.{◌≡◌, ◌++◌, drop}
use Rattle.resolve_relations.specs.Columns.{numbered_from}
use Rattle.resolve_sets.specs.Aligning.{both_at}
use Rattle.resolve_sets.proofs.aligning.same_places.Given as goal

abbrev pub invariant-loop-place : goal.invariant-loop-place
invariant-loop-place l =
    l.places ++ numbered_from both_at l.place (drop l.place l.left) ≡ numbered_from both_at 0 l.left
