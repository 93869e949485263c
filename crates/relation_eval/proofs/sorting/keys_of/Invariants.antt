use Rattle.std.proofs.Common.{◌≡◌, map, take}
use Rattle.plan_model.specs.Val.{val}
use Rattle.relation_eval.specs.SortKeys.{key_exprs}
use Rattle.relation_eval.proofs.sorting.keys_of.Given as goal

abbrev pub invariant-loop-key : goal.invariant-loop-key
invariant-loop-key l = l.values ≡ map (λ item. val item l.row) (key_exprs (take l.key-index l.keys))
