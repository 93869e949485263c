use Rattle.std.proofs.Common.{◌≡◌, map, drop}
use Rattle.resolve_expressions.specs.Same.{all_same, same_expr}
use Rattle.resolve_relations.specs.Columns.{numbered, numbered_from}
use Rattle.resolve_sets.specs.Sets.{own_value}
use Rattle.resolve_sets.proofs.sides.is_whole.Given as goal

abbrev pub invariant-loop-place : goal.invariant-loop-place
invariant-loop-place l =
    all_same (map same_expr (drop l.place l.values)) (numbered_from own_value l.place (drop l.place l.columns))
    ≡ all_same (map same_expr l.values) (numbered own_value l.columns)
