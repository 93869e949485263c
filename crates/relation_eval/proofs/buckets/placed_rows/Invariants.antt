use Rattle.std.proofs.Common.{◌≡◌, map, take}
use Rattle.relation_eval.specs.Grouped.{row_of_placed, place_of, count_from}
use Rattle.relation_eval.proofs.buckets.placed_rows.Given as goal

abbrev pub invariant-loop-place : goal.invariant-loop-place
invariant-loop-place l = (map row_of_placed l.placed.items ≡ take l.place l.rows) × (map place_of l.placed.items ≡ count_from 0 l.place)
