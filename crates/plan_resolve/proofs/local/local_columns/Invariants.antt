use Rattle.std.proofs.Common.{◌≡◌, ◌++◌, drop}
use Rattle.resolve_relations.specs.Columns.{ids_from, numbered_from}
use Rattle.plan_resolve.specs.Local.{local_column}
use Rattle.plan_resolve.proofs.local.local_columns.Given as goal

abbrev pub invariant-loop-number : goal.invariant-loop-number
invariant-loop-number l = l.columns ++ numbered_from (local_column (ids_from l.base)) l.number (drop l.number l.schema.0) ≡ numbered_from (local_column (ids_from l.base)) 0 l.schema.0
