use Rattle.std.proofs.Common.{◌≡◌, drop}
use Rattle.resolve_expressions.specs.Grouping.{all_checked}
use Rattle.resolve_expressions.proofs.Gathering.{behind}
use Rattle.resolve_relations.specs.Columns.{numbered_from}
use Rattle.resolve_sets.specs.Aligning.{aligned_at}
use Rattle.resolve_sets.proofs.typing.with_types.Given as goal

abbrev pub invariant-loop-number : goal.invariant-loop-number
invariant-loop-number l =
    behind l.columns (all_checked (numbered_from (aligned_at l.left l.right) l.number (drop l.number l.places)))
    ≡ all_checked (numbered_from (aligned_at l.left l.right) 0 l.places)
