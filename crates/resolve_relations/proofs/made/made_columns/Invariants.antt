use Rattle.std.proofs.Common.{◌≡◌, ◌++◌, drop}
use Rattle.resolve_relations.specs.Columns.{ids_from, numbered_from}
use Rattle.resolve_relations.specs.Columns.{made_column}
use Rattle.resolve_relations.proofs.made.made_columns.Given as goal

abbrev pub invariant-loop-number : goal.invariant-loop-number
invariant-loop-number l = l.made ++ numbered_from (made_column (ids_from l.base) l.columns) l.number (drop l.number l.items) ≡ numbered_from (made_column (ids_from l.base) l.columns) 0 l.items
