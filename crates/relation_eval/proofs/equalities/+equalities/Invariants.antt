use Rattle.std.proofs.Common.{◌≡◌, true}
use Rattle.std.specs.Prelude.{All}
use Rattle.cn_types.specs.declared.row.Row.{Row}
use Rattle.plan_model.specs.Truth.{is_true}
use Rattle.plan_model.specs.Val.{val}
use Rattle.relation_eval.specs.Equalities.{IsMet}
use Rattle.relation_eval.proofs.equalities.+equalities.Given as goal

abbrev pub invariant-add_of_all-loop-argument : goal.invariant-add_of_all-loop-argument
invariant-add_of_all-loop-argument l =
    (row : Row) → All (λ argument. is_true (val argument row) ≡ true) l.arguments → All (IsMet l.left_width row) l.initial.found.items → All (IsMet l.left_width row) l.found.items
