use Rattle.std.proofs.Common.{◌≡◌, drop}
use Rattle.resolve_expressions.specs.Outputs.{regrouped_items}
use Rattle.resolve_expressions.proofs.Gathering.{behind}
use Rattle.resolve_expressions.proofs.outputs.regrouped_items.Given as goal

abbrev pub invariant-loop-item : goal.invariant-loop-item
invariant-loop-item l = behind l.made (regrouped_items l.columns l.keys (drop l.item-index l.items)) ≡ regrouped_items l.columns l.keys l.items
