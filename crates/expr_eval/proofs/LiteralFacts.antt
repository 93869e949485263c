-- Literals in range: of an expression, and of its parts.
use Rattle.std.proofs.Common.{◌≡◌, ◌<◌, ◌+◌, ℕ, zero, suc, List, [], ◌∷◌, length, get_or, drop, sym, ap, ◌∙◌, arith}
use Rattle.std.specs.Prelude.{All, Bool, false, cond}
use Rattle.std.specs.List.{AllByRecursion}
use Rattle.std.proofs.lemmas.List.{at_drop_more}
use Rattle.cn_types.specs.declared.row.Row.{Row}
use Rattle.cn_types.specs.declared.value.DataType.{DataType}
use Rattle.cn_types.specs.declared.value.Value.{Value}
use Rattle.cn_types.specs.Fit.{HasDateInRange}
use Rattle.plan_model.specs.declared.expression.TypedExpr.{TypedExpr}
use Rattle.plan_model.specs.declared.expression.TypedExpr.TheOpen as O
use Rattle.plan_model.specs.declared.expression.TypedExpr.TheVariants as V
use Rattle.plan_model.specs.declared.function.Function.{Function}
use Rattle.plan_model.specs.Conditionals.{when}
use Rattle.plan_model.specs.Truth.{is_true}
use Rattle.plan_model.specs.Val.{val}
use Rattle.plan_model.proofs.ExpressionFacts.{every_part, every_here}
use Rattle.expr_eval.specs.Dated.{IsFormInRange, HasLiteralsInRange}
use Rattle.expr_eval.specs.Operands.{vals}

each : {X : Type 0} (P : X → Type 0) (xs : List X) → AllByRecursion P xs → All P xs
each P [] all k d h = absurd (omega arith)
each P (x ∷ xs) all zero d h = all.0
each P (x ∷ xs) all (suc k) d h = each P xs all.1 k d (omega arith)

pub arguments_in_range : (function : Function) (arguments : List TypedExpr) (kind : DataType) → HasLiteralsInRange (V.Call function arguments kind) → All HasLiteralsInRange arguments
unfolding HasLiteralsInRange
arguments_in_range function arguments kind h =
    each HasLiteralsInRange arguments (every_part IsFormInRange (V.Call function arguments kind) (O.Call function arguments kind) (V.outs-Call function arguments kind) h)

pub child_in_range : (child : TypedExpr) (kind : DataType) → HasLiteralsInRange (V.Cast child kind) → HasLiteralsInRange child
unfolding HasLiteralsInRange
child_in_range child kind h = (every_part IsFormInRange (V.Cast child kind) (O.Cast child kind) (V.outs-Cast child kind) h).0

pub literal_in_range : (value : Value) (kind : DataType) → HasLiteralsInRange (V.Literal value kind) → HasDateInRange value
unfolding HasLiteralsInRange
literal_in_range value kind h = every_here IsFormInRange (V.Literal value kind) (O.Literal value kind) (V.outs-Literal value kind) h

skip : (condition value : Value) (rest : List Value) → is_true condition ≡ false → when (condition ∷ value ∷ rest) ≡ when rest
skip condition value rest fails = ap (λ (b : Bool). cond b value (when rest)) fails

-- a condition that does not hold, and the value behind it, are passed over
pub when-step : (exprs : List TypedExpr) (row : Row) (place : ℕ) (e : TypedExpr) → place + 1 < length exprs → e ≡ get_or exprs place e → is_true (val e row) ≡ false
    → when (vals (drop place exprs) row) ≡ when (vals (drop (place + 2) exprs) row)
when-step exprs row place e h is fails =
    let next : (place + 1) + 1 ≡ place + 2 = omega arith in
    at_drop_more (λ es. when (vals es row)) exprs place e (omega arith)
    ∙ at_drop_more (λ es. when (vals (get_or exprs place e ∷ es) row)) exprs (place + 1) e h
    ∙ skip (val (get_or exprs place e) row) (val (get_or exprs (place + 1) e) row) (vals (drop ((place + 1) + 1) exprs) row) (ap (λ x. is_true (val x row)) (sym is) ∙ fails)
    ∙ ap (λ n. when (vals (drop n exprs) row)) next
