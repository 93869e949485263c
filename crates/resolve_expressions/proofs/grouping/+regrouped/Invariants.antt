use Rattle.std.proofs.Common.{◌≡◌, drop, map}
use Rattle.resolve_expressions.specs.Grouping.{all_checked, regrouped}
use Rattle.resolve_expressions.specs.Same.{same_expr}
use Rattle.resolve_expressions.proofs.Gathering.{behind}
use Rattle.resolve_expressions.proofs.grouping.+regrouped.Given as goal

abbrev pub invariant-all_regrouped-loop-expr : goal.invariant-all_regrouped-loop-expr
invariant-all_regrouped-loop-expr l =
    behind l.made (all_checked (map (regrouped same_expr l.columns l.keys) (drop l.expr-index l.exprs))) ≡ all_checked (map (regrouped same_expr l.columns l.keys) l.exprs)
