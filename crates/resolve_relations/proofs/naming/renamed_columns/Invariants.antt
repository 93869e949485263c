use Rattle.std.proofs.Common.{◌≡◌, ◌++◌, drop}
use Rattle.resolve_relations.specs.Columns.{ids_from, numbered_from}
use Rattle.resolve_relations.specs.Making.{rename_column}
use Rattle.resolve_relations.proofs.naming.renamed_columns.Given as goal

abbrev pub invariant-loop-number : goal.invariant-loop-number
invariant-loop-number l = l.made ++ numbered_from (rename_column l.case_sensitive (ids_from l.base) l.entries) l.number (drop l.number l.columns) ≡ numbered_from (rename_column l.case_sensitive (ids_from l.base) l.entries) 0 l.columns
