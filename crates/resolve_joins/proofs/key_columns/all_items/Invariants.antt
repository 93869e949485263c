use Rattle.std.proofs.Common.{◌≡◌, ◌++◌, drop}
use Rattle.resolve_expressions.specs.Stars.{any_column, items_where}
use Rattle.resolve_joins.proofs.key_columns.all_items.Given as goal

abbrev pub invariant-loop-place : goal.invariant-loop-place
invariant-loop-place l = l.items ++ items_where any_column l.place (drop l.place l.columns) ≡ items_where any_column 0 l.columns
