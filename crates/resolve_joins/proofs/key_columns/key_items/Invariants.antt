use Rattle.std.proofs.Common.{◌≡◌, ◌++◌, drop}
use Rattle.std.specs.Prelude.{filter_map}
use Rattle.resolve_joins.specs.Keys.{key_item}
use Rattle.resolve_joins.proofs.key_columns.key_items.Given as goal

abbrev pub invariant-loop-key : goal.invariant-loop-key
invariant-loop-key l =
    l.made ++ filter_map (key_item l.kind l.width l.items) (drop l.key-index l.keys) ≡ filter_map (key_item l.kind l.width l.items) l.keys
