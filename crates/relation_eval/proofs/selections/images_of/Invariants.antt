use Rattle.std.proofs.Common.{◌≡◌, take}
use Rattle.std.specs.Prelude.{All}
use Rattle.plan_model.specs.Selections.{projected}
use Rattle.expr_eval.specs.Dated.{HasDatesInRange}
use Rattle.relation_eval.proofs.selections.images_of.Given as goal

abbrev pub invariant-loop-row : goal.invariant-loop-row
invariant-loop-row l =
    record {
      images : l.images.items ≡ projected l.items (take l.row-index l.rows);
      dates : All HasDatesInRange l.images.items;
    }
