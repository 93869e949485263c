-- One more alias.
use Rattle.std.proofs.Common.{arith}
use Rattle.expression_messages.specs.Depths.{alias_depth}
use Rattle.expression_messages.proofs.Measured.{deeper}
use Rattle.expression_relations.proofs.aliases.deepest_alias.Goals as goal

pub loop-alias-preserved : goal.loop-alias-preserved
loop-alias-preserved c =
    deeper alias_depth c.args.aliases.now c.loop-alias.alias-index c.alias-item.result c.loop-alias.deepest c.alias_depth.result c.max-deepest.result
    (omega arith) c.alias-item.is c.loop-alias.invariant c.alias_depth.ensures c.max-deepest.ensures
