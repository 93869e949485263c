use Rattle.std.proofs.Common.{◌≡◌, drop, map}
use Rattle.resolve_expressions.specs.Same.{all_same, same_expr}
use Rattle.resolve_expressions.proofs.same.+same.Given as goal

abbrev pub invariant-all_same-loop-place : goal.invariant-all_same-loop-place
invariant-all_same-loop-place l = all_same (map same_expr (drop l.place l.exprs)) (drop l.place l.others) ≡ all_same (map same_expr l.exprs) l.others
