-- One more expression.
use Rattle.std.proofs.Common.{◌≡◌, ℕ, arith}
use Rattle.expression_messages.specs.Depths.{expr_depth}
use Rattle.expression_messages.proofs.Measured.{deeper}
use Rattle.expression_messages.proofs.expression_depths.+expression_depths.Goals as goal

pub deepest-loop-expr-preserved : goal.deepest-loop-expr-preserved
deepest-loop-expr-preserved t c =
    deeper expr_depth c.args.exprs.now c.loop-expr.expr-index c.expr-item.result c.loop-expr.deepest c.expr_depth.result c.max-deepest.result
    (omega arith) c.expr-item.is c.loop-expr.invariant c.expr_depth.ensures c.max-deepest.ensures
