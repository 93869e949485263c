use Rattle.std.proofs.Common.{◌≡◌, ◌++◌, drop}
use Rattle.std.specs.List.{flat_map}
use Rattle.flat_tables.specs.Layout.{pair_bytes}
use Rattle.flat_tables.proofs.vectors.write_pairs.Given as goal

-- the pairs so far and those that are left are all pairs
abbrev pub invariant-loop-pair : goal.invariant-loop-pair
invariant-loop-pair l = l.out.items ++ flat_map pair_bytes (drop l.pair-index l.pairs) ≡ l.initial.out.items ++ flat_map pair_bytes l.pairs
