-- The values so far, and those of the rest.
use Rattle.std.proofs.Common.{◌≤◌, length, ◌-◌}
use Rattle.resolve_functions.proofs.Whens.{IsGathered}
use Rattle.resolve_functions.proofs.call.when_values.Given as goal

abbrev pub invariant-loop-at : goal.invariant-loop-at
invariant-loop-at l = (l.at ≤ length l.kinds) × IsGathered l.kinds l.values l.at

abbrev pub decreases-loop-at : goal.decreases-loop-at
decreases-loop-at l = length l.kinds - l.at
