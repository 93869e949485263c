-- What follows from the rules of expressions.
use Rattle.std.specs.Prelude.{◌≡◌, ◌↔◌, ℕ, nat_eq, Bool, IsTrue, List, ◌++◌, map, Ok}
use Rattle.std.specs.List.{AllZip}
use Rattle.cn_types.specs.declared.value.DataType.{DataType}
use Rattle.expression_messages.specs.declared.expression.Expr.{Expr}
use Rattle.plan_model.specs.declared.expression.TypedExpr.{TypedExpr}
use Rattle.plan_model.specs.declared.node.AggregateCall.{AggregateCall}
use Rattle.plan_model.specs.NodeTypes.{kind_of, kinds_of}
use Rattle.plan_model.specs.WellFormed.{IsCallOver, IsCondition, IsOver}
use Rattle.resolve_names.specs.declared.scope.ColumnOf.{ColumnOf}
use Rattle.resolve_names.specs.declared.scope.Tagged.{Tagged}
use Rattle.resolve_types.specs.Laws.{IsTypingOver}
use Rattle.resolve_expressions.specs.Grouping.{regrouped}
use Rattle.resolve_expressions.specs.Outputs.{condition_of, value_of}
use Rattle.resolve_expressions.specs.Same.{same_expr}
use Rattle.resolve_expressions.specs.Typings.{Typing, typed_over}

-- two expressions are the same exactly where they are equal
abbrev pub SameIsEqual : Type 0
SameIsEqual = (a b : TypedExpr) → IsTrue (same_expr a b) ↔ (a ≡ b)

abbrev pub column_kinds : List (ColumnOf ℕ) → List DataType
column_kinds columns = map (λ column. column.kind) columns

-- the calls so far, and those that were met, are over columns of these types; the expression is over the columns and the calls' values
pub record IsTypedOver (columns kinds : List DataType) (typing : Typing) : Type 0 where
  pub more : List DataType
  pub calls : AllZip (IsCallOver columns) typing.calls (kinds ++ more)
  pub expr : IsTypingOver (columns ++ (kinds ++ more)) typing.expr

abbrev pub TypedIsWellFormed : Type 0
TypedIsWellFormed =
    (exact : Bool) (columns : List (ColumnOf ℕ)) (relations : List (Tagged ℕ)) (expr : Expr) (allowed : Bool) (calls : List AggregateCall)
    (kinds : List DataType) (typing : Typing) → AllZip (IsCallOver (column_kinds columns)) calls kinds →
    typed_over nat_eq exact columns relations expr allowed calls ≡ Ok typing → IsTypedOver (column_kinds columns) kinds typing

-- a value without aggregate calls is over the columns alone, and a condition is boolean
abbrev pub ValuesAreWellFormed : Type 0
ValuesAreWellFormed =
    (exact : Bool) (columns : List (ColumnOf ℕ)) (relations : List (Tagged ℕ)) (expr : Expr) (typed : TypedExpr) →
    value_of nat_eq exact columns relations expr ≡ Ok typed → IsOver (column_kinds columns) typed

abbrev pub ConditionsAreWellFormed : Type 0
ConditionsAreWellFormed =
    (exact : Bool) (columns : List (ColumnOf ℕ)) (relations : List (Tagged ℕ)) (what : List ℕ) (expr : Expr) (typed : TypedExpr) →
    condition_of nat_eq exact columns relations what expr ≡ Ok typed → IsCondition (column_kinds columns) typed

-- an item over keys and calls is over the keys' types and behind them the calls', and keeps its type
abbrev pub RegroupedIsWellFormed : Type 0
RegroupedIsWellFormed =
    (columns : List (ColumnOf ℕ)) (keys : List TypedExpr) (kinds : List DataType) (expr made : TypedExpr) →
    IsOver (column_kinds columns ++ kinds) expr → regrouped same_expr columns keys expr ≡ Ok made →
    IsOver (kinds_of keys ++ kinds) made × (kind_of made ≡ kind_of expr)
