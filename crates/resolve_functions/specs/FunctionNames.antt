-- The names of the built-in functions of Spark SQL, and of the column types. Names fold: ASCII letters match in either case.
use Rattle.std.specs.Prelude.{ℕ, if◌then◌else◌, List, [], ◌∷◌, ◌++◌, Option, Some, None, codes}
use Rattle.std.specs.Str.{str_eq_ignore_ascii_case}
use Rattle.cn_types.specs.declared.value.DataType.{DataType}
use Rattle.plan_model.specs.declared.function.Function.{Function}

-- what stands at a name in a table of names
abbrev pub at_name : {X : Type 0} → List ℕ → List (List ℕ × X) → Option X
at_name name [] = None
at_name name (entry ∷ table) = if str_eq_ignore_ascii_case name entry.0 then Some entry.1 else at_name name table

-- arithmetic
unfoldable pub arithmetic_names : List (List ℕ × Function)
arithmetic_names =
    (codes "+", Function.Add) ∷
    (codes "-", Function.Subtract) ∷
    (codes "*", Function.Multiply) ∷
    (codes "%", Function.Remainder) ∷
    (codes "div", Function.IntegralDivide) ∷
    (codes "negative", Function.Negative) ∷
    (codes "abs", Function.Abs) ∷
    []

-- tests for equality
unfoldable pub equality_names : List (List ℕ × Function)
equality_names =
    (codes "=", Function.EqualTo) ∷
    (codes "==", Function.EqualTo) ∷
    (codes "!=", Function.NotEqualTo) ∷
    (codes "<>", Function.NotEqualTo) ∷
    (codes "<=>", Function.EqualNullSafe) ∷
    []

-- tests for order
unfoldable pub order_names : List (List ℕ × Function)
order_names =
    (codes "<", Function.LessThan) ∷
    (codes "<=", Function.LessThanOrEqual) ∷
    (codes ">", Function.GreaterThan) ∷
    (codes ">=", Function.GreaterThanOrEqual) ∷
    []

-- logic and tests for null
unfoldable pub logic_names : List (List ℕ × Function)
logic_names =
    (codes "and", Function.And) ∷
    (codes "or", Function.Or) ∷
    (codes "not", Function.Not) ∷
    (codes "!", Function.Not) ∷
    (codes "isnull", Function.IsNull) ∷
    (codes "isnotnull", Function.IsNotNull) ∷
    []

-- choices
unfoldable pub choice_names : List (List ℕ × Function)
choice_names =
    (codes "coalesce", Function.Coalesce) ∷
    (codes "when", Function.When) ∷
    (codes "in", Function.In) ∷
    []

-- texts
unfoldable pub text_names : List (List ℕ × Function)
text_names =
    (codes "concat", Function.Concat) ∷
    (codes "length", Function.Length) ∷
    (codes "startswith", Function.StartsWith) ∷
    (codes "endswith", Function.EndsWith) ∷
    (codes "contains", Function.Contains) ∷
    []

-- dates
unfoldable pub date_names : List (List ℕ × Function)
date_names =
    (codes "year", Function.Year) ∷
    (codes "month", Function.Month) ∷
    (codes "dayofmonth", Function.DayOfMonth) ∷
    (codes "date_add", Function.DateAdd) ∷
    (codes "date_sub", Function.DateSub) ∷
    (codes "datediff", Function.DateDiff) ∷
    []

-- aggregates
unfoldable pub aggregate_names : List (List ℕ × Function)
aggregate_names =
    (codes "count", Function.Count) ∷
    (codes "sum", Function.Sum) ∷
    (codes "min", Function.Min) ∷
    (codes "max", Function.Max) ∷
    []

abbrev pub function_table : List (List ℕ × Function)
function_table = arithmetic_names
    ++ (equality_names
    ++ (order_names
    ++ (logic_names
    ++ (choice_names
    ++ (text_names
    ++ (date_names
    ++ (aggregate_names)))))))

-- the function of a name
unfoldable pub function_named : List ℕ → Option Function
function_named name = at_name name function_table

-- the types that the text of a type names
abbrev pub type_table : List (List ℕ × DataType)
type_table =
    (codes "int", DataType.Integer) ∷
    (codes "integer", DataType.Integer) ∷
    (codes "long", DataType.Long) ∷
    (codes "bigint", DataType.Long) ∷
    (codes "string", DataType.Text) ∷
    (codes "boolean", DataType.Boolean) ∷
    (codes "date", DataType.Date) ∷
    []

unfoldable pub kind_named : List ℕ → Option DataType
kind_named name = at_name name type_table
