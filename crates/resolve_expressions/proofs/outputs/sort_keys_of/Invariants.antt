use Rattle.std.proofs.Common.{◌≡◌, drop, map}
use Rattle.resolve_expressions.specs.Grouping.{all_checked}
use Rattle.resolve_expressions.specs.Named.{sort_key_in}
use Rattle.resolve_expressions.proofs.Gathering.{behind}
use Rattle.resolve_expressions.proofs.outputs.sort_keys_of.Given as goal

abbrev pub invariant-loop-order : goal.invariant-loop-order
invariant-loop-order l = behind l.keys (all_checked (map (sort_key_in l.names) (drop l.order-index l.orders))) ≡ all_checked (map (sort_key_in l.names) l.orders)
