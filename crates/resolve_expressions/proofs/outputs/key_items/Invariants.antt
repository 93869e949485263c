use Rattle.std.proofs.Common.{◌≡◌, drop, map}
use Rattle.resolve_expressions.specs.Grouping.{all_checked}
use Rattle.resolve_expressions.specs.Named.{plain_item_in}
use Rattle.resolve_expressions.proofs.Gathering.{behind}
use Rattle.resolve_expressions.proofs.outputs.key_items.Given as goal

abbrev pub invariant-loop-expr : goal.invariant-loop-expr
invariant-loop-expr l = behind l.items (all_checked (map (plain_item_in l.names) (drop l.expr-index l.exprs))) ≡ all_checked (map (plain_item_in l.names) l.exprs)
