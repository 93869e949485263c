use Rattle.std.proofs.Common.{◌≡◌, ◌++◌, drop}
use Rattle.resolve_relations.specs.Columns.{ids_from, numbered_from}
use Rattle.resolve_sets.specs.Sets.{aligned_column}
use Rattle.resolve_sets.proofs.columns.set_columns.Given as goal

abbrev pub invariant-loop-number : goal.invariant-loop-number
invariant-loop-number l =
    l.made ++ numbered_from (aligned_column (ids_from l.base) l.left l.right) l.number (drop l.number l.aligned)
    ≡ numbered_from (aligned_column (ids_from l.base) l.left l.right) 0 l.aligned
