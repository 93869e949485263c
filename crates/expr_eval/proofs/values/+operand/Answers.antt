use Rattle.std.proofs.Common.{◌≡◌, ◌<◌, ◌+◌, length, get_or, ◌∙◌, sym, ap, subst, rules, arith}
use Rattle.plan_model.specs.declared.expression.TypedExpr.TheViews.{the_lemmas}
use Rattle.plan_model.specs.Functions.{call}
use Rattle.plan_model.specs.Val.{val}
use Rattle.plan_model.proofs.ValueFacts.{values_of_forms}
use Rattle.expr_eval.specs.Dated.{HasLiteralsInRange}
use Rattle.expr_eval.specs.Operands.{vals}
use Rattle.expr_eval.proofs.LiteralFacts.{arguments_in_range, child_in_range, literal_in_range, when-step}
use Rattle.expr_eval.proofs.values.+operand.Goals as goal

pub first_true-loop-place-preserved : goal.first_true-loop-place-preserved
first_true-loop-place-preserved t c =
    let found : c.as_slice.result.now ≡ c.args.arguments.now = c.as_slice.ensures in
    let before : c.loop-place.place + 1 < length c.args.arguments.now = omega arith in
    let is : c.index-as_slice-place.result ≡ get_or c.args.arguments.now c.loop-place.place c.index-as_slice-place.result = rw found at c.index-as_slice-place.is in
    let at_value = c.in_ok-holds.ensures in (
      omega arith,
      c.loop-place.invariant.1,
      c.loop-place.invariant.2 ∙ when-step c.args.arguments.now c.args.row.now c.loop-place.place c.index-as_slice-place.result before is (sym at_value ∙ c.if-branch.false),
    )

pub operand_of-called-requires : goal.operand_of-called-requires
operand_of-called-requires t c =
    (search (rules, the_lemmas), (arguments_in_range c.in-Call.function c.in-Call.arguments c.in-Call.kind (subst HasLiteralsInRange c.in-Call.is c.requires.literals), c.requires.dates))

pub operand_of-converted-requires : goal.operand_of-converted-requires
operand_of-converted-requires t c =
    (search (rules, the_lemmas), (rw c.get.ensures (child_in_range c.in-Cast.child c.in-Cast.kind (subst HasLiteralsInRange c.in-Cast.is c.requires.literals)), c.requires.dates))

pub operand_of-returns-in-Literal-clause-dated : goal.operand_of-returns-in-Literal-clause-dated
operand_of-returns-in-Literal-clause-dated t c = literal_in_range c.in-Literal.value c.in-Literal.kind (subst HasLiteralsInRange c.in-Literal.is c.requires.literals)

pub operand_of-returns-in-Call-clause-value : goal.operand_of-returns-in-Call-clause-value
operand_of-returns-in-Call-clause-value t c =
    let e : val c.args.expr.now c.args.row.now ≡ call c.in-Call.function c.in-Call.kind (vals c.in-Call.arguments c.args.row.now) =
    ap (λ x. val x c.args.row.now) c.in-Call.is ∙ values_of_forms.call_form c.in-Call.function c.in-Call.arguments c.in-Call.kind c.args.row.now in
    rw e c.called.ensures.value
