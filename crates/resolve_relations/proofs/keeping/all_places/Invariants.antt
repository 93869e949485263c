use Rattle.std.proofs.Common.{◌≡◌, ◌++◌, drop}
use Rattle.resolve_relations.specs.Columns.{numbered_from}
use Rattle.resolve_relations.specs.Keeping.{its_place}
use Rattle.resolve_relations.proofs.keeping.all_places.Given as goal

abbrev pub invariant-loop-place : goal.invariant-loop-place
invariant-loop-place l = l.places ++ numbered_from (its_place) l.place (drop l.place l.columns) ≡ numbered_from (its_place) 0 l.columns
