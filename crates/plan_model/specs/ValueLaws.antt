-- What the values of expressions hold.
use Rattle.std.specs.Prelude.{◌≡◌, ◌≢◌, ◌↔◌, ℕ, ℤ, IsTrue, List, ◌++◌, map}
use Rattle.cn_types.specs.declared.row.Row.{Row}
use Rattle.cn_types.specs.declared.value.DataType.{DataType}
use Rattle.cn_types.specs.declared.value.Value.{Value}
use Rattle.cn_types.specs.declared.value.Value.TheVariants.{Null}
use Rattle.cn_types.specs.Fit.{HasType, HasDateInRange, IsDay, FitsTypes, value_at}
use Rattle.plan_model.specs.declared.function.Function.{Function}
use Rattle.plan_model.specs.declared.expression.TypedExpr.{TypedExpr}
use Rattle.plan_model.specs.declared.expression.TypedExpr.TheVariants.{Column, Literal, Call, Cast}
use Rattle.plan_model.specs.Casts.{cast_to}
use Rattle.plan_model.specs.DateFunctions.{is_day}
use Rattle.plan_model.specs.Functions.{call}
use Rattle.plan_model.specs.FunctionTypes.{can_cast}
use Rattle.plan_model.specs.NodeTypes.{kind_of}
use Rattle.plan_model.specs.Texts.{has_part}
use Rattle.plan_model.specs.Val.{val}
use Rattle.plan_model.specs.WellFormed.{IsOver}

-- the value of each form of expression, by the values of its children
pub record ValuesOfForms : Type 0 where
  pub column : (place : ℕ) (kind : DataType) (row : Row) → val (Column place kind) row ≡ value_at place row
  pub literal : (value : Value) (kind : DataType) (row : Row) → val (Literal value kind) row ≡ value
  pub call_form : (function : Function) (arguments : List TypedExpr) (kind : DataType) (row : Row) → val (Call function arguments kind) row ≡ call function kind (map (λ argument. val argument row) arguments)
  pub cast : (child : TypedExpr) (kind : DataType) (row : Row) → val (Cast child kind) row ≡ cast_to kind (val child row)

-- a cast gives a value of its type, and changes no value that has the type; a cast that there is gives null of null alone
pub record CastsGiveTheType : Type 0 where
  pub typed : (kind : DataType) (value : Value) → HasDateInRange value → HasType kind (cast_to kind value)
  pub own_type : (kind : DataType) (value : Value) → HasType kind value → cast_to kind value ≡ value
  pub null_stays : (kind : DataType) → cast_to kind Null ≡ Null
  pub never_null : (from kind : DataType) (value : Value) → HasType from value → IsTrue (can_cast from kind) → value ≢ Null → cast_to kind value ≢ Null

-- the test of a day is that it is in range
abbrev pub DaysAreTested : Type 0
DaysAreTested = (day : ℤ) → IsTrue (is_day day) ↔ IsDay day

-- a text has a part exactly where it is something, then the part, then something
abbrev pub PartsAreWithin : Type 0
PartsAreWithin = (text part : List ℕ) → IsTrue (has_part text part) ↔ ((before : List ℕ) × (after : List ℕ) × (text ≡ before ++ (part ++ after)))

-- the value of a well-formed expression over a row that fits has the expression's type
abbrev pub ValuesHaveTheirType : Type 0
ValuesHaveTheirType = (columns : List DataType) (expr : TypedExpr) (row : Row) → IsOver columns expr → FitsTypes columns row → HasType (kind_of expr) (val expr row)
