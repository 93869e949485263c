use Rattle.std.proofs.Common.{◌≡◌, ◌++◌, drop}
use Rattle.std.specs.Prelude.{filter}
use Rattle.resolve_joins.specs.Keys.{is_rest}
use Rattle.resolve_joins.proofs.key_columns.rest_items.Given as goal

abbrev pub invariant-loop-item : goal.invariant-loop-item
invariant-loop-item l = l.rest ++ filter (is_rest l.width l.keys) (drop l.item-index l.items) ≡ filter (is_rest l.width l.keys) l.items
