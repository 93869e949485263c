use Rattle.std.proofs.Common.{◌≡◌, max, drop}
use Rattle.expression_messages.specs.Depths.{largest}
use Rattle.plan_text.proofs.heights.largest.Given as goal

abbrev pub invariant-loop-height : goal.invariant-loop-height
invariant-loop-height l = max l.deepest (largest (drop l.height-index l.heights)) ≡ largest l.heights
