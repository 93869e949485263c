use Rattle.std.proofs.Common.{◌≡◌, map, take}
use Rattle.std.specs.Prelude.{All}
use Rattle.cn_types.specs.Fit.{HasDateInRange}
use Rattle.plan_model.specs.Val.{val}
use Rattle.relation_eval.proofs.selections.image_of.Given as goal

abbrev pub invariant-loop-item : goal.invariant-loop-item
invariant-loop-item l =
    record {
      image : l.values ≡ map (λ item. val item l.row) (take l.item-index l.items);
      dates : All HasDateInRange l.values;
    }
