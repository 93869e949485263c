-- The deepest of the expressions so far.
use Rattle.std.proofs.Common.{◌≡◌, take, map}
use Rattle.expression_messages.specs.Depths.{told, largest, expr_depth}
use Rattle.expression_messages.proofs.expression_depths.+expression_depths.Given as goal

abbrev pub invariant-deepest-loop-expr : goal.invariant-deepest-loop-expr
invariant-deepest-loop-expr l = l.deepest ≡ told (largest (map expr_depth (take l.expr-index l.exprs)))
