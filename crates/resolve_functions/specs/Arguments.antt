-- Which arguments each function takes: how many, and of which types. An argument is an expression with a type, or a null without one.
use Rattle.std.specs.Prelude.{ℕ, ◌==◌, nat_le, Bool, true, false, if◌then◌else◌, List, [], ◌∷◌, map, filter_map, Option, Some, None, Ok, codes}
use Rattle.cn_types.specs.declared.value.DataType.{DataType}
use Rattle.cn_types.specs.declared.value.Value.{Value}
use Rattle.plan_model.specs.declared.function.Function.{Function}
use Rattle.plan_model.specs.declared.expression.TypedExpr.{TypedExpr}
use Rattle.plan_model.specs.declared.expression.TypedExpr.TheVariants as typed
use Rattle.plan_model.specs.FunctionTypes.{call_type, common_of, same_kind}
use Rattle.plan_model.specs.NodeTypes.{kind_of, kinds_of}
use Rattle.resolve_names.specs.declared.error.ErrorName.TheVariants.{DatatypeMismatch}
use Rattle.resolve_names.specs.Checks.{Checked, ◌>>=◌, or_refused, refused}
use Rattle.resolve_names.specs.Refusals.{Refusal, refusal}
use Rattle.resolve_functions.specs.declared.asked.Asked.{Asked}
use Rattle.resolve_functions.specs.declared.asked.Asked.TheVariants.{AnyKind, Number, Only, Same, When}

abbrev pub is_aggregate : Function → Bool
is_aggregate Function.Count = true
is_aggregate Function.Sum = true
is_aggregate Function.Min = true
is_aggregate Function.Max = true
is_aggregate function = false

-- how many arguments a function takes
unfoldable pub takes : Function → ℕ → Bool
takes Function.Add n = n == 2
takes Function.Subtract n = n == 2
takes Function.Multiply n = n == 2
takes Function.Remainder n = n == 2
takes Function.IntegralDivide n = n == 2
takes Function.Negative n = n == 1
takes Function.Abs n = n == 1
takes Function.EqualTo n = n == 2
takes Function.NotEqualTo n = n == 2
takes Function.LessThan n = n == 2
takes Function.LessThanOrEqual n = n == 2
takes Function.GreaterThan n = n == 2
takes Function.GreaterThanOrEqual n = n == 2
takes Function.EqualNullSafe n = n == 2
takes Function.And n = n == 2
takes Function.Or n = n == 2
takes Function.Not n = n == 1
takes Function.IsNull n = n == 1
takes Function.IsNotNull n = n == 1
takes Function.Coalesce n = nat_le 1 n
takes Function.When n = nat_le 2 n
takes Function.In n = nat_le 2 n
takes Function.Concat n = nat_le 1 n
takes Function.Length n = n == 1
takes Function.StartsWith n = n == 2
takes Function.EndsWith n = n == 2
takes Function.Contains n = n == 2
takes Function.Year n = n == 1
takes Function.Month n = n == 1
takes Function.DayOfMonth n = n == 1
takes Function.DateAdd n = n == 2
takes Function.DateSub n = n == 2
takes Function.DateDiff n = n == 2
takes Function.Count n = n == 1
takes Function.Sum n = n == 1
takes Function.Min n = n == 1
takes Function.Max n = n == 1

-- what a function asks of its first argument, and of each other
unfoldable pub asked_first : Function → Asked
asked_first Function.Add = Number
asked_first Function.Subtract = Number
asked_first Function.Multiply = Number
asked_first Function.Remainder = Number
asked_first Function.IntegralDivide = Number
asked_first Function.Negative = Number
asked_first Function.Abs = Number
asked_first Function.EqualTo = Same
asked_first Function.NotEqualTo = Same
asked_first Function.LessThan = Same
asked_first Function.LessThanOrEqual = Same
asked_first Function.GreaterThan = Same
asked_first Function.GreaterThanOrEqual = Same
asked_first Function.EqualNullSafe = Same
asked_first Function.And = Only DataType.Boolean
asked_first Function.Or = Only DataType.Boolean
asked_first Function.Not = Only DataType.Boolean
asked_first Function.IsNull = AnyKind
asked_first Function.IsNotNull = AnyKind
asked_first Function.Coalesce = Same
asked_first Function.When = When
asked_first Function.In = Same
asked_first Function.Concat = Only DataType.Text
asked_first Function.Length = Only DataType.Text
asked_first Function.StartsWith = Only DataType.Text
asked_first Function.EndsWith = Only DataType.Text
asked_first Function.Contains = Only DataType.Text
asked_first Function.Year = Only DataType.Date
asked_first Function.Month = Only DataType.Date
asked_first Function.DayOfMonth = Only DataType.Date
asked_first Function.DateAdd = Only DataType.Date
asked_first Function.DateSub = Only DataType.Date
asked_first Function.DateDiff = Only DataType.Date
asked_first Function.Count = AnyKind
asked_first Function.Sum = Number
asked_first Function.Min = AnyKind
asked_first Function.Max = AnyKind

-- only the functions that move a date ask something else of a later argument
abbrev pub asked_later : Function → Asked
asked_later Function.DateAdd = Only DataType.Integer
asked_later Function.DateSub = Only DataType.Integer
asked_later function = asked_first function

-- a type meets what is asked of one argument alone
abbrev pub meets : Asked → DataType → Bool
meets Number DataType.Integer = true
meets Number DataType.Long = true
meets Number kind = false
meets (Only wanted) kind = same_kind wanted kind
meets asked kind = true

-- ---- errors

-- a literal null that has no type and finds none
abbrev pub untyped : Refusal
untyped = refusal DatatypeMismatch (codes "null")

abbrev pub mismatch : List ℕ → Refusal
mismatch name = refusal DatatypeMismatch name

-- ---- arguments from left to right

abbrev pub kind_meets : List ℕ → Asked → DataType → Checked (Unit {0})
kind_meets name asked kind = if meets asked kind then Ok tt else refused (mismatch name)

abbrev pub one_meets : List ℕ → Asked → Option TypedExpr → Checked (Unit {0})
one_meets name asked None = refused untyped
one_meets name asked (Some expr) = kind_meets name asked (kind_of expr)

-- each has a type that meets what is asked of it
abbrev pub each_meets : List ℕ → Asked → Asked → List (Option TypedExpr) → Checked (Unit {0})
each_meets name first later [] = Ok tt
each_meets name first later (argument ∷ rest) = one_meets name first argument >>= λ met. each_meets name later later rest

-- the arguments that have a type
abbrev pub known : List (Option TypedExpr) → List TypedExpr
known arguments = filter_map (λ argument. argument) arguments

-- ---- arguments of one type

-- the type of an argument, and the types of those that have one
abbrev pub known_kind : Option TypedExpr → Option DataType
known_kind (Some expr) = Some (kind_of expr)
known_kind None = None

abbrev pub known_kinds : List (Option TypedExpr) → List DataType
known_kinds arguments = filter_map known_kind arguments

-- the type that the arguments have together: there must be one with a type, and all such must go together
unfoldable pub together : List ℕ → List DataType → Checked DataType
together name [] = refused untyped
together name (kind ∷ kinds) = or_refused (mismatch name) (common_of (kind ∷ kinds))

-- a null without a type takes this one
abbrev pub filled : DataType → Option TypedExpr → TypedExpr
filled kind (Some expr) = expr
filled kind None = typed.Literal Value.Null kind

-- ---- conditions and values in turn

abbrev pub conditions : List (Option TypedExpr) → List (Option TypedExpr)
conditions [] = []
conditions (last ∷ []) = []
conditions (condition ∷ value ∷ rest) = condition ∷ conditions rest

abbrev pub values : List (Option TypedExpr) → List (Option TypedExpr)
values [] = []
values (last ∷ []) = last ∷ []
values (condition ∷ value ∷ rest) = value ∷ values rest

-- ---- the call

unfoldable pub call_of : List ℕ → Function → List TypedExpr → Checked TypedExpr
call_of name function exprs = do
  kind ← or_refused (mismatch name) (call_type function (kinds_of exprs))
  Ok (typed.Call function exprs kind)

unfoldable pub plain_call : List ℕ → Function → Asked → Asked → List (Option TypedExpr) → Checked TypedExpr
plain_call name function first later arguments = do
  met ← each_meets name first later arguments
  call_of name function (known arguments)

unfoldable pub same_call : List ℕ → Function → List (Option TypedExpr) → Checked TypedExpr
same_call name function arguments = do
  kind ← together name (known_kinds arguments)
  call_of name function (map (filled kind) arguments)

unfoldable pub when_call : List ℕ → Function → List (Option TypedExpr) → Checked TypedExpr
when_call name function arguments = do
  met ← each_meets name (Only DataType.Boolean) (Only DataType.Boolean) (conditions arguments)
  kind ← together name (known_kinds (values arguments))
  call_of name function (map (filled kind) arguments)

abbrev pub call_asked : List ℕ → Function → Asked → Asked → List (Option TypedExpr) → Checked TypedExpr
call_asked name function Same later arguments = same_call name function arguments
call_asked name function When later arguments = when_call name function arguments
call_asked name function AnyKind later arguments = plain_call name function AnyKind later arguments
call_asked name function Number later arguments = plain_call name function Number later arguments
call_asked name function (Only kind) later arguments = plain_call name function (Only kind) later arguments

-- the call of a function over these arguments, with its type; errors tell it by this name
unfoldable pub typed_call : List ℕ → Function → List (Option TypedExpr) → Checked TypedExpr
typed_call name function arguments = call_asked name function (asked_first function) (asked_later function) arguments
