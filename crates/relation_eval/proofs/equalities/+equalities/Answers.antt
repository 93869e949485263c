use Rattle.std.proofs.Common.{◌≡◌, ◌<◌, true, List, length, get_or, map, sym, ap, ◌∙◌, subst}
use Rattle.std.specs.Prelude.{All}
use Rattle.cn_types.specs.declared.row.Row.{Row}
use Rattle.cn_types.specs.declared.value.DataType.{DataType}
use Rattle.plan_model.specs.declared.expression.TypedExpr.{TypedExpr}
use Rattle.plan_model.specs.Functions.{call}
use Rattle.plan_model.specs.Truth.{is_true}
use Rattle.plan_model.specs.Val.{val}
use Rattle.plan_model.proofs.ValueFacts.{values_of_forms}
use Rattle.relation_eval.specs.Equalities.{IsMet}
use Rattle.relation_eval.proofs.EqualityFacts.{on_ok_more, arguments_true}
use Rattle.relation_eval.proofs.equalities.+equalities.Goals as goal

pub add_equalities-returns-in-Call : goal.add_equalities-returns-in-Call
add_equalities-returns-in-Call t c =
    let value : (row : Row) → val c.args.condition.now row ≡ call c.in-Call.function c.in-Call.kind (map (λ argument. val argument row) c.in-Call.arguments) = λ row.
    ap (λ x. val x row) c.in-Call.is ∙ values_of_forms.call_form c.in-Call.function c.in-Call.arguments c.in-Call.kind row in
    on_ok_more c.add_of_call.result
    ((row : Row) → is_true (val c.args.condition.now row) ≡ true → All (IsMet c.args.left_width row) c.args.found.now.items → All (IsMet c.args.left_width row) c.add_of_call.new.found.items)
    ((kind : DataType) (row : Row) → is_true (call c.in-Call.function kind (map (λ argument. val argument row) c.in-Call.arguments)) ≡ true → All (IsMet c.args.left_width row) c.args.found.now.items
    → All (IsMet c.args.left_width row) c.add_of_call.new.found.items)
    (λ f row h. f c.in-Call.kind row (ap is_true (sym (value row)) ∙ h)) c.add_of_call.ensures

pub add_of_all-loop-argument-preserved : goal.add_of_all-loop-argument-preserved
add_of_all-loop-argument-preserved t c = λ row all met.
    let items : c.as_slice-argument-items.result.now ≡ c.args.arguments.now = c.as_slice-argument-items.ensures in
    let there : c.loop-argument.argument-index < length c.args.arguments.now = subst (λ (es : List TypedExpr). c.loop-argument.argument-index < length es) items c.loop-argument-test.true in
    let is : c.argument-item.result ≡ get_or c.args.arguments.now c.loop-argument.argument-index c.argument-item.result =
    c.argument-item.is ∙ ap (λ (es : List TypedExpr). get_or es c.loop-argument.argument-index c.argument-item.result) items in
    c.in_ok-add_equalities.ensures row
    (ap (λ argument. is_true (val argument row)) is ∙ all c.loop-argument.argument-index c.argument-item.result there) (c.loop-argument.invariant row all met)

pub add_of_call-returns-in-And : goal.add_of_call-returns-in-And
add_of_call-returns-in-And t c =
    on_ok_more c.add_of_all.result
    ((kind : DataType) (row : Row) → is_true (call c.args.function kind (map (λ argument. val argument row) c.args.arguments.now)) ≡ true → All (IsMet c.args.left_width row) c.args.found.now.items
    → All (IsMet c.args.left_width row) c.add_of_all.new.found.items)
    ((row : Row) → All (λ argument. is_true (val argument row) ≡ true) c.args.arguments.now → All (IsMet c.args.left_width row) c.args.found.now.items → All (IsMet c.args.left_width row) c.add_of_all.new.found.items)
    (λ f kind row h. f row (arguments_true kind row c.args.arguments.now (ap (λ function. is_true (call function kind (map (λ argument. val argument row) c.args.arguments.now))) (sym c.in-And.is) ∙ h)))
    c.add_of_all.ensures
