-- What was found is the common type of the types from here on, of which there is one.
use Rattle.std.proofs.Common.{◌≡◌, ◌<◌, length, drop}
use Rattle.plan_model.specs.FunctionTypes.{common_of}
use Rattle.resolve_functions.proofs.kinds.common_of.Given as goal

abbrev pub invariant-loop-at : goal.invariant-loop-at
invariant-loop-at l = (l.at < length l.kinds) × (l.found ≡ common_of (drop l.at l.kinds))

abbrev pub decreases-loop-at : goal.decreases-loop-at
decreases-loop-at l = l.at
