-- The keys of a map of entries rise.
use Rattle.std.proofs.Common.{◌∙◌, ap}
use Rattle.plain_relations.specs.Maps.{map_of}
use Rattle.plain_relations.proofs.Merging.{rising_is, all_taken}
use Rattle.plain_relations.proofs.rename_map.RenameMap.of.Goals as goal

pub invariant_of-result : goal.invariant_of-result
invariant_of-result c = record {
  rising = rising_is c.from_vec.result c.args.entries
      (c.from_vec.ensures ∙ c.into_vec.ensures.items ∙ c.in_ok-found.ensures.map ∙ ap map_of (all_taken c.args.entries c.len-count.result c.len-count.ensures));
}
