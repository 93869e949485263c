use Rattle.std.proofs.Common.{arith}
use Rattle.resolve_joins.proofs.Backwards.{back_more}
use Rattle.resolve_joins.proofs.equalities.all_equal.Goals as goal

pub loop-index-preserved : goal.loop-index-preserved
loop-index-preserved c =
    back_more c.args.width c.args.keys.now c.loop-index.index _ c.in_ok-with_key.field-0 c.loop-index.test (omega arith) (omega arith)
    c.loop-index.invariant c.in_ok-with_key.ensures
