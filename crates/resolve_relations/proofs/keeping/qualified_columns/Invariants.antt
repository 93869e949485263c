use Rattle.std.proofs.Common.{◌≡◌, ◌++◌, map, drop}
use Rattle.resolve_relations.specs.Keeping.{qualified}
use Rattle.resolve_relations.proofs.keeping.qualified_columns.Given as goal

abbrev pub invariant-loop-column : goal.invariant-loop-column
invariant-loop-column l = l.qualified ++ map (qualified l.alias) (drop l.column-index l.columns) ≡ map (qualified l.alias) l.columns
