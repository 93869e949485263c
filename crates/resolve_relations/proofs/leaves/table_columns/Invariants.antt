use Rattle.std.proofs.Common.{◌≡◌, ◌++◌, drop}
use Rattle.resolve_relations.specs.Columns.{ids_from, numbered_from}
use Rattle.resolve_relations.specs.Making.{table_column}
use Rattle.resolve_relations.proofs.leaves.table_columns.Given as goal

abbrev pub invariant-loop-number : goal.invariant-loop-number
invariant-loop-number l = l.columns ++ numbered_from (table_column (ids_from l.base) l.name) l.number (drop l.number l.schema.0) ≡ numbered_from (table_column (ids_from l.base) l.name) 0 l.schema.0
