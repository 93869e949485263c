use Rattle.std.proofs.Common.{◌≡◌}
use Rattle.plan_model.specs.Selections.{selected}
use Rattle.relation_eval.proofs.selections.moved_selected.Given as goal

abbrev pub invariant-loop-row : goal.invariant-loop-row
invariant-loop-row l = l.kept.items ≡ selected l.condition l.yielded
