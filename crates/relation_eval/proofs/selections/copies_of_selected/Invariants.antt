use Rattle.std.proofs.Common.{◌≡◌, take}
use Rattle.plan_model.specs.Selections.{selected}
use Rattle.relation_eval.proofs.selections.copies_of_selected.Given as goal

abbrev pub invariant-loop-row : goal.invariant-loop-row
invariant-loop-row l = l.kept.items ≡ selected l.condition (take l.row-index l.rows)
