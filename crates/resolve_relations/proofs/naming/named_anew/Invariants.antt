use Rattle.std.proofs.Common.{◌≡◌, ◌++◌, drop}
use Rattle.resolve_relations.specs.Columns.{ids_from, numbered_from}
use Rattle.resolve_relations.specs.Making.{new_column}
use Rattle.resolve_relations.proofs.naming.named_anew.Given as goal

abbrev pub invariant-loop-number : goal.invariant-loop-number
invariant-loop-number l =
    l.made ++ numbered_from (new_column (ids_from l.base) l.names) l.number (drop l.number l.columns) ≡ numbered_from (new_column (ids_from l.base) l.names) 0 l.columns
