use Rattle.std.proofs.Common.{◌≡◌, true, map, arith, length}
use Rattle.cn_types.specs.declared.row.Row.{Row}
use Rattle.cn_types.specs.declared.value.DataType.{DataType}
use Rattle.cn_types.specs.Fit.{value_at}
use Rattle.plan_model.specs.declared.function.Function.{Function}
use Rattle.plan_model.specs.Functions.{call}
use Rattle.plan_model.specs.Truth.{is_true}
use Rattle.plan_model.specs.Val.{val}
use Rattle.relation_eval.specs.declared.equalities.Equality.{Equality}
use Rattle.relation_eval.specs.Equalities.{IsMet, AreSame}
use Rattle.relation_eval.proofs.EqualityFacts.{if_some_more, IsAcross, met_across, equal_columns}
use Rattle.relation_eval.proofs.equalities.equality_of.Goals as goal

pub returns : goal.returns
returns c =
    let two : length c.args.arguments.now ≡ 2 = omega arith in
    let same : (kind : DataType) (row : Row) → is_true (call Function.EqualTo kind (map (λ argument. val argument row) c.args.arguments.now)) ≡ true
    → AreSame (value_at c.in_ok-first.first row) (value_at c.in_ok-second.second row) = λ kind row h.
    equal_columns kind row c.args.arguments.now c.index-arguments-0.result c.index-arguments-1.result c.in_ok-first.first c.in_ok-second.second two
    (rw (← c.index-arguments-0.is) (c.in_ok-first.ensures row)) (rw (← c.index-arguments-1.is) (c.in_ok-second.ensures row)) h in
    if_some_more c.across.result
    (λ (equality : Equality). (kind : DataType) (row : Row) → is_true (call Function.EqualTo kind (map (λ argument. val argument row) c.args.arguments.now)) ≡ true → IsMet c.args.left_width row equality)
    (IsAcross c.args.left_width c.in_ok-first.first c.in_ok-second.second)
    (λ equality across kind row h. met_across c.args.left_width row equality c.in_ok-first.first c.in_ok-second.second across (same kind row h)) c.across.ensures
