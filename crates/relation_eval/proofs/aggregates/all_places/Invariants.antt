use Rattle.std.proofs.Common.{◌≡◌}
use Rattle.relation_eval.specs.Grouped.{count_from}
use Rattle.relation_eval.proofs.aggregates.all_places.Given as goal

abbrev pub invariant-loop-place : goal.invariant-loop-place
invariant-loop-place l = l.places.items ≡ count_from 0 l.place
