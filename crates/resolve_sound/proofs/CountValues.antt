-- The value of a count is never null.
use Rattle.std.proofs.Common.{Bool, List, Option, Some, None, refl}
use Rattle.std.specs.Prelude.{not}
use Rattle.cn_types.specs.declared.row.Row.{Row}
use Rattle.plan_model.specs.declared.expression.TypedExpr.{TypedExpr}
use Rattle.plan_model.specs.declared.function.Function.{Function}
use Rattle.plan_model.specs.Aggregates.{aggregate_of, called_over, rows_aggregate_of}
use Rattle.resolve_types.specs.Calls.{is_count}
use Rattle.resolve_sound.proofs.NullFacts.{May}

pub count_may : (function : Function) (distinct : Bool) (argument : Option TypedExpr) (rows : List Row) →
    May (not (is_count function)) (called_over function distinct argument rows)
unfolding aggregate_of rows_aggregate_of
count_may Function.Count distinct None rows = refl
count_may Function.Count distinct (Some argument) rows = refl
count_may Function.Add distinct argument rows = refl
count_may Function.Subtract distinct argument rows = refl
count_may Function.Multiply distinct argument rows = refl
count_may Function.Remainder distinct argument rows = refl
count_may Function.IntegralDivide distinct argument rows = refl
count_may Function.Negative distinct argument rows = refl
count_may Function.Abs distinct argument rows = refl
count_may Function.EqualTo distinct argument rows = refl
count_may Function.NotEqualTo distinct argument rows = refl
count_may Function.LessThan distinct argument rows = refl
count_may Function.LessThanOrEqual distinct argument rows = refl
count_may Function.GreaterThan distinct argument rows = refl
count_may Function.GreaterThanOrEqual distinct argument rows = refl
count_may Function.EqualNullSafe distinct argument rows = refl
count_may Function.And distinct argument rows = refl
count_may Function.Or distinct argument rows = refl
count_may Function.Not distinct argument rows = refl
count_may Function.IsNull distinct argument rows = refl
count_may Function.IsNotNull distinct argument rows = refl
count_may Function.Coalesce distinct argument rows = refl
count_may Function.When distinct argument rows = refl
count_may Function.In distinct argument rows = refl
count_may Function.Concat distinct argument rows = refl
count_may Function.Length distinct argument rows = refl
count_may Function.StartsWith distinct argument rows = refl
count_may Function.EndsWith distinct argument rows = refl
count_may Function.Contains distinct argument rows = refl
count_may Function.Year distinct argument rows = refl
count_may Function.Month distinct argument rows = refl
count_may Function.DayOfMonth distinct argument rows = refl
count_may Function.DateAdd distinct argument rows = refl
count_may Function.DateSub distinct argument rows = refl
count_may Function.DateDiff distinct argument rows = refl
count_may Function.Sum distinct argument rows = refl
count_may Function.Min distinct argument rows = refl
count_may Function.Max distinct argument rows = refl
