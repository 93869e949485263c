use Rattle.std.proofs.Common.{ℕ, ◌+◌, ◌^◌, ◌<◌, List, length, arith}
use Rattle.std.specs.List.{flat_map}
use Rattle.flat_tables.specs.declared.object.FlatPair.{FlatPair}
use Rattle.flat_tables.specs.Layout.{pair_bytes, pairs_block}
use Rattle.flat_tables.proofs.Sizes.{length-vector, length-pairs}
use Rattle.flat_tables.proofs.vectors.write_pairs.Goals as goal

room_for : (base : ℕ) (ps : List FlatPair) → base + length (pairs_block ps).bytes < 2 ^ 31 → length ps < 2 ^ 32
unfolding pairs_block
room_for base ps h = omega (arith, h, length-vector (length ps) (flat_map pair_bytes ps), length-pairs ps)

pub write_head-requires : goal.write_head-requires
write_head-requires c = room_for (length c.args.out.now.items) c.args.pairs.now c.requires.short
