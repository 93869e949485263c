-- Whether two expressions are the same.
use Rattle.std.specs.Prelude.{ℕ, ◌&&◌, Bool, true, false, nat_eq, List, [], ◌∷◌}
use Rattle.cn_types.specs.declared.value.DataType.{DataType}
use Rattle.cn_types.specs.declared.value.Value.{Value}
use Rattle.cn_types.specs.Order.{value_eq}
use Rattle.plan_model.specs.declared.expression.TypedExpr.{TypedExpr}
use Rattle.plan_model.specs.declared.expression.TypedExpr.TheOpen.{TypedExpr-F}
use Rattle.plan_model.specs.declared.expression.TypedExpr.TheFolds.{fold-TypedExpr}
use Rattle.plan_model.specs.declared.expression.TypedExpr.TheViews.{out-TypedExpr}
use Rattle.plan_model.specs.declared.function.Function.{Function}
use Rattle.plan_model.specs.FunctionTypes.{same_kind}

-- functions by a number each
abbrev pub number_of : Function → ℕ
number_of Function.Add = 0
number_of Function.Subtract = 1
number_of Function.Multiply = 2
number_of Function.Remainder = 3
number_of Function.IntegralDivide = 4
number_of Function.Negative = 5
number_of Function.Abs = 6
number_of Function.EqualTo = 7
number_of Function.NotEqualTo = 8
number_of Function.LessThan = 9
number_of Function.LessThanOrEqual = 10
number_of Function.GreaterThan = 11
number_of Function.GreaterThanOrEqual = 12
number_of Function.EqualNullSafe = 13
number_of Function.And = 14
number_of Function.Or = 15
number_of Function.Not = 16
number_of Function.IsNull = 17
number_of Function.IsNotNull = 18
number_of Function.Coalesce = 19
number_of Function.When = 20
number_of Function.In = 21
number_of Function.Concat = 22
number_of Function.Length = 23
number_of Function.StartsWith = 24
number_of Function.EndsWith = 25
number_of Function.Contains = 26
number_of Function.Year = 27
number_of Function.Month = 28
number_of Function.DayOfMonth = 29
number_of Function.DateAdd = 30
number_of Function.DateSub = 31
number_of Function.DateDiff = 32
number_of Function.Count = 33
number_of Function.Sum = 34
number_of Function.Min = 35
number_of Function.Max = 36

abbrev pub same_function : Function → Function → Bool
same_function a b = nat_eq (number_of a) (number_of b)

-- each of the first is the same as the one at its place, and there are as many
abbrev pub all_same : List (TypedExpr → Bool) → List TypedExpr → Bool
all_same [] [] = true
all_same [] (other ∷ others) = false
all_same (same ∷ rest) [] = false
all_same (same ∷ rest) (other ∷ others) = same other && all_same rest others

-- the same form with the same parts; the parts of the first stand as tests of the other's
abbrev pub same_column : ℕ → DataType → TypedExpr-F TypedExpr → Bool
same_column place kind (TypedExpr-F.Column other_place other) = nat_eq place other_place && same_kind kind other
same_column place kind form = false

abbrev pub same_literal : Value → DataType → TypedExpr-F TypedExpr → Bool
same_literal value kind (TypedExpr-F.Literal other_value other) = value_eq value other_value && same_kind kind other
same_literal value kind form = false

abbrev pub same_call : Function → List (TypedExpr → Bool) → DataType → TypedExpr-F TypedExpr → Bool
same_call function arguments kind (TypedExpr-F.Call other_function others other) =
    same_function function other_function && (all_same arguments others && same_kind kind other)
same_call function arguments kind form = false

abbrev pub same_cast : (TypedExpr → Bool) → DataType → TypedExpr-F TypedExpr → Bool
same_cast child kind (TypedExpr-F.Cast other_child other) = child other_child && same_kind kind other
same_cast child kind form = false

abbrev pub same_form : TypedExpr-F (TypedExpr → Bool) → TypedExpr-F TypedExpr → Bool
same_form (TypedExpr-F.Column place kind) form = same_column place kind form
same_form (TypedExpr-F.Literal value kind) form = same_literal value kind form
same_form (TypedExpr-F.Call function arguments kind) form = same_call function arguments kind form
same_form (TypedExpr-F.Cast child kind) form = same_cast child kind form

abbrev pub same_step : TypedExpr-F (TypedExpr → Bool) → TypedExpr → Bool
same_step form other = same_form form (out-TypedExpr other)

-- whether two expressions are the same
unfoldable pub same_expr : TypedExpr → TypedExpr → Bool
same_expr = fold-TypedExpr (TypedExpr → Bool) same_step
