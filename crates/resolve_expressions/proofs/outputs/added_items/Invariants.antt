use Rattle.std.proofs.Common.{◌≡◌, drop, map}
use Rattle.resolve_expressions.specs.Grouping.{all_checked}
use Rattle.resolve_expressions.specs.Named.{added_item_in}
use Rattle.resolve_expressions.proofs.Gathering.{behind}
use Rattle.resolve_expressions.proofs.outputs.added_items.Given as goal

abbrev pub invariant-loop-alias : goal.invariant-loop-alias
invariant-loop-alias l = behind l.items (all_checked (map (added_item_in l.names) (drop l.alias-index l.aliases))) ≡ all_checked (map (added_item_in l.names) l.aliases)
