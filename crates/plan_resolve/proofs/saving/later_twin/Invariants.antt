use Rattle.std.proofs.Common.{◌≡◌, [], take, drop}
use Rattle.resolve_relations.specs.Making.{later_twin}
use Rattle.plan_resolve.specs.Saving.{folds_alike}
use Rattle.plan_resolve.proofs.saving.later_twin.Given as goal

abbrev pub invariant-loop-place : goal.invariant-loop-place
invariant-loop-place l =
    later_twin folds_alike (take l.place l.columns) (drop l.place l.columns) ≡ later_twin folds_alike [] l.columns
