use Rattle.std.proofs.Common.{◌≡◌, ◌++◌, map, drop}
use Rattle.resolve_sets.specs.Sets.{left_value}
use Rattle.resolve_sets.proofs.sides.left_values.Given as goal

abbrev pub invariant-loop-one : goal.invariant-loop-one
invariant-loop-one l =
    l.values ++ map (left_value l.columns) (drop l.one-index l.aligned) ≡ map (left_value l.columns) l.aligned
