use Rattle.std.proofs.Common.{◌≡◌, map, drop}
use Rattle.resolve_expressions.specs.Grouping.{all_checked}
use Rattle.resolve_expressions.proofs.Gathering.{behind}
use Rattle.resolve_sets.specs.Aligning.{partner}
use Rattle.resolve_sets.proofs.aligning.partners.Given as goal

abbrev pub invariant-loop-column : goal.invariant-loop-column
invariant-loop-column l =
    behind l.places (all_checked (map (partner l.case_sensitive l.missing l.right) (drop l.column-index l.left)))
    ≡ all_checked (map (partner l.case_sensitive l.missing l.right) l.left)
