-- What is found so far, and the map of what is left, is the whole map.
use Rattle.std.proofs.Common.{◌≡◌, ◌+◌, ◌++◌}
use Rattle.plain_relations.specs.Maps.{map_of, KeysRise}
use Rattle.plain_relations.proofs.map_merging.merged_maps.Given as goal

abbrev pub invariant-loop-entry : goal.invariant-loop-entry
invariant-loop-entry l = record {
  early_rises : KeysRise l.early.items;
  late_rises : KeysRise l.late.items;
  whole : l.found.items ++ map_of (l.early.items ++ l.late.items) ≡ map_of (l.fn.early.items ++ l.fn.late.items);
}

abbrev pub decreases-loop-entry : goal.decreases-loop-entry
decreases-loop-entry l = l.early.len + l.late.len
