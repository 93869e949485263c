use Rattle.std.proofs.Common.{◌≡◌, drop, map}
use Rattle.resolve_expressions.specs.Grouping.{all_checked}
use Rattle.resolve_expressions.proofs.Gathering.{behind}
use Rattle.resolve_joins.specs.Keys.{key_pair}
use Rattle.resolve_joins.proofs.keys.key_pairs.Given as goal

abbrev pub invariant-loop-name : goal.invariant-loop-name
invariant-loop-name l =
    behind l.keys (all_checked (map (key_pair l.case_sensitive l.left l.right) (drop l.name-index l.names)))
    ≡ all_checked (map (key_pair l.case_sensitive l.left l.right) l.names)
