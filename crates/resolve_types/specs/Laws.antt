-- What typing makes is well formed over the columns: what evaluation asks for.
use Rattle.std.specs.Prelude.{◌≡◌, ℕ, nat_eq, Bool, List, map, Option, IfSome, Ok}
use Rattle.std.specs.List.{AllByRecursion}
use Rattle.cn_types.specs.declared.value.DataType.{DataType}
use Rattle.expression_messages.specs.declared.literal.Literal.{Literal}
use Rattle.expression_messages.specs.declared.expression.CastTarget.{CastTarget}
use Rattle.expression_messages.specs.declared.expression.UnresolvedAttribute.{UnresolvedAttribute}
use Rattle.resolve_names.specs.declared.scope.ColumnOf.{ColumnOf}
use Rattle.resolve_names.specs.declared.scope.Tagged.{Tagged}
use Rattle.plan_model.specs.declared.expression.TypedExpr.{TypedExpr}
use Rattle.plan_model.specs.declared.function.Function.{Function}
use Rattle.plan_model.specs.WellFormed.{IsOver}
use Rattle.resolve_functions.specs.Arguments.{typed_call}
use Rattle.resolve_types.specs.Leaves.{typed_attribute, typed_cast, typed_literal}

-- an expression with a type is well formed over columns of these types; a null without a type is nothing yet
abbrev pub IsTypingOver : List DataType → Option TypedExpr → Type 0
IsTypingOver columns typing = IfSome typing (IsOver columns)

abbrev pub LiteralsAreWellFormed : Type 0
LiteralsAreWellFormed =
    (columns : List DataType) (literal : Literal) (typing : Option TypedExpr) → typed_literal literal ≡ Ok typing → IsTypingOver columns typing

abbrev pub CastsAreWellFormed : Type 0
CastsAreWellFormed =
    (columns : List DataType) (child : Option TypedExpr) (target : CastTarget) (cast : TypedExpr) →
    typed_cast child target ≡ Ok cast → IsTypingOver columns child → IsOver columns cast

abbrev pub CallsAreWellFormed : Type 0
CallsAreWellFormed =
    (columns : List DataType) (name : List ℕ) (function : Function) (arguments : List (Option TypedExpr)) (call : TypedExpr) →
    typed_call name function arguments ≡ Ok call → AllByRecursion (IsTypingOver columns) arguments → IsOver columns call

-- over the types of the columns in scope
abbrev pub AttributesAreWellFormed : Type 0
AttributesAreWellFormed =
    (exact : Bool) (columns : List (ColumnOf ℕ)) (relations : List (Tagged ℕ)) (attribute : UnresolvedAttribute) (expr : TypedExpr) →
    typed_attribute nat_eq exact columns relations attribute ≡ Ok expr → IsOver (map (λ column. column.kind) columns) expr
