use Rattle.std.proofs.Common.{◌≡◌, drop}
use Rattle.plan_text.specs.Heights.{all_heights, no_heights}
use Rattle.plan_text.proofs.heights.heights_of.Given as goal

abbrev pub invariant-loop-deed : goal.invariant-loop-deed
invariant-loop-deed l = all_heights (drop l.deed-index l.deeds) l.found ≡ all_heights l.deeds no_heights
