use Rattle.std.proofs.Common.{◌≡◌, ◌++◌, map, drop}
use Rattle.resolve_joins.specs.Joins.{perhaps_null}
use Rattle.resolve_joins.proofs.sides.side_columns.Given as goal

abbrev pub invariant-loop-column : goal.invariant-loop-column
invariant-loop-column l = l.made ++ map (perhaps_null l.nulls) (drop l.column-index l.columns) ≡ map (perhaps_null l.nulls) l.columns
