-- The value of each form of expression.
use Rattle.std.proofs.Common.{◌≡◌, ℕ, List, [], ◌∷◌, map, refl, sym, ap, ◌∙◌}
use Rattle.cn_types.specs.declared.row.Row.{Row}
use Rattle.cn_types.specs.declared.value.DataType.{DataType}
use Rattle.cn_types.specs.declared.value.Value.{Value}
use Rattle.cn_types.specs.Fit.{value_at}
use Rattle.plan_model.specs.declared.function.Function.{Function}
use Rattle.plan_model.specs.declared.expression.TypedExpr.{TypedExpr}
use Rattle.plan_model.specs.declared.expression.TypedExpr.TheOpen.{TypedExpr-F}
use Rattle.plan_model.specs.declared.expression.TypedExpr.TheFolds.{fold-roll-TypedExpr}
use Rattle.plan_model.specs.declared.expression.TypedExpr.TheVariants.{Column, Literal, Call, Cast, rolls-Column, rolls-Literal, rolls-Call, rolls-Cast}
use Rattle.plan_model.specs.Casts.{cast_to}
use Rattle.plan_model.specs.Functions.{call}
use Rattle.plan_model.specs.Val.{Meaning, val_step, val}
use Rattle.plan_model.specs.ValueLaws.{ValuesOfForms}

-- the value of an expression at a row
abbrev at_row : Row → TypedExpr → Value
at_row row e = val e row

abbrev apply_at : Row → Meaning → Value
apply_at row meaning = meaning row

val-Column : (place : ℕ) (kind : DataType) (row : Row) → val (Column place kind) row ≡ value_at place row
val-Column place kind row =
    ap (at_row row) (sym (rolls-Column place kind)) ∙ ap (apply_at row) (fold-roll-TypedExpr Meaning val_step (TypedExpr-F.Column place kind))

val-Literal : (value : Value) (kind : DataType) (row : Row) → val (Literal value kind) row ≡ value
val-Literal value kind row =
    ap (at_row row) (sym (rolls-Literal value kind)) ∙ ap (apply_at row) (fold-roll-TypedExpr Meaning val_step (TypedExpr-F.Literal value kind))

map-meanings : (row : Row) (es : List TypedExpr) → map (apply_at row) (map val es) ≡ map (at_row row) es
map-meanings row [] = refl
map-meanings row (e ∷ es) = ap (λ (vs : List Value). at_row row e ∷ vs) (map-meanings row es)

val-Call : (function : Function) (arguments : List TypedExpr) (kind : DataType) (row : Row) → val (Call function arguments kind) row ≡ call function kind (map (at_row row) arguments)
val-Call function arguments kind row =
    ap (at_row row) (sym (rolls-Call function arguments kind))
    ∙ ap (apply_at row) (fold-roll-TypedExpr Meaning val_step (TypedExpr-F.Call function arguments kind))
    ∙ ap (call function kind) (map-meanings row arguments)

val-Cast : (child : TypedExpr) (kind : DataType) (row : Row) → val (Cast child kind) row ≡ cast_to kind (val child row)
val-Cast child kind row =
    ap (at_row row) (sym (rolls-Cast child kind)) ∙ ap (apply_at row) (fold-roll-TypedExpr Meaning val_step (TypedExpr-F.Cast child kind))

pub values_of_forms : ValuesOfForms
values_of_forms = record { column = val-Column; literal = val-Literal; call_form = val-Call; cast = val-Cast }
