-- Which types and expressions have a spelling, and that the numbers and texts in them are values of their types.
use Rattle.std.specs.Prelude.{Bool, true, false, ◌&&◌, IsTrue, IfSome, FitsSigned, IsUtf8}
use Rattle.std.specs.Int.{w32, w64}
use Rattle.std.specs.List.{list_all, AllByRecursion}
use Rattle.expression_messages.specs.declared.data_type.TypeMessage.{TypeMessage}
use Rattle.expression_messages.specs.declared.data_type.TypeMessage.TheOpen.{TypeMessage-F}
use Rattle.expression_messages.specs.declared.data_type.TypeMessage.TheFolds.{fold-TypeMessage, every-TypeMessage}
use Rattle.expression_messages.specs.declared.literal.Literal.{Literal}
use Rattle.expression_messages.specs.declared.literal.Literal.TheVariants as literal
use Rattle.expression_messages.specs.declared.expression.UnresolvedAttribute.{UnresolvedAttribute}
use Rattle.expression_messages.specs.declared.expression.Alias.{Alias}
use Rattle.expression_messages.specs.declared.expression.CastTarget.{CastTarget}
use Rattle.expression_messages.specs.declared.expression.CastTarget.TheVariants as target
use Rattle.expression_messages.specs.declared.expression.SortOrder.{SortOrder}
use Rattle.expression_messages.specs.declared.expression.Expr.{Expr}
use Rattle.expression_messages.specs.declared.expression.Expr.TheOpen.{Expr-F}
use Rattle.expression_messages.specs.declared.expression.Expr.TheFolds.{fold-Expr, every-Expr}

-- ---- what has a spelling: nothing in it is outside the profile

abbrev pub is_known_type_step : TypeMessage-F Bool → Bool
is_known_type_step TypeMessage-F.Null = true
is_known_type_step TypeMessage-F.Boolean = true
is_known_type_step TypeMessage-F.Byte = true
is_known_type_step TypeMessage-F.Short = true
is_known_type_step TypeMessage-F.Integer = true
is_known_type_step TypeMessage-F.Long = true
is_known_type_step TypeMessage-F.String = true
is_known_type_step TypeMessage-F.Date = true
is_known_type_step (TypeMessage-F.Struct fields) = list_all (λ field. field.data_type) fields
is_known_type_step (TypeMessage-F.Other number) = false

-- a type of the profile, and every type in it
unfoldable pub is_known_type : TypeMessage → Bool
is_known_type = fold-TypeMessage Bool is_known_type_step

abbrev pub is_known_literal : Literal → Bool
is_known_literal (literal.Null kind) = is_known_type kind
is_known_literal (literal.Boolean value) = true
is_known_literal (literal.Integer value) = true
is_known_literal (literal.Long value) = true
is_known_literal (literal.String text) = true
is_known_literal (literal.Date days) = true
is_known_literal literal.Absent = true

abbrev pub is_known_target : CastTarget → Bool
is_known_target (target.Kind kind) = is_known_type kind
is_known_target (target.KindText text) = true
is_known_target target.Absent = true

abbrev pub is_known_expr_step : Expr-F Bool → Bool
is_known_expr_step (Expr-F.Literal literal) = is_known_literal literal
is_known_expr_step (Expr-F.UnresolvedAttribute attribute) = true
is_known_expr_step (Expr-F.UnresolvedFunction function) = list_all (λ argument. argument) function.arguments
is_known_expr_step (Expr-F.UnresolvedStar star) = true
is_known_expr_step (Expr-F.Alias alias) = alias.expr
is_known_expr_step (Expr-F.Cast cast) = cast.expr && is_known_target cast.target
is_known_expr_step (Expr-F.SortOrder order) = order.child
is_known_expr_step (Expr-F.Other number) = false

-- an expression of the profile, and every expression and type in it
unfoldable pub is_known_expr : Expr → Bool
is_known_expr = fold-Expr Bool is_known_expr_step

abbrev pub IsKnownType : TypeMessage → Type 0
IsKnownType kind = IsTrue (is_known_type kind)

abbrev pub IsKnownExpr : Expr → Type 0
IsKnownExpr expr = IsTrue (is_known_expr expr)

abbrev pub IsKnownAlias : Alias Expr → Type 0
IsKnownAlias alias = IsKnownExpr alias.expr

abbrev pub IsKnownSortOrder : SortOrder Expr → Type 0
IsKnownSortOrder order = IsKnownExpr order.child

-- ---- numbers have the bits of their types, and texts are UTF-8

abbrev pub HasTypeBitsHere : TypeMessage-F TypeMessage → Type 0
HasTypeBitsHere TypeMessage-F.Null = Unit {0}
HasTypeBitsHere TypeMessage-F.Boolean = Unit {0}
HasTypeBitsHere TypeMessage-F.Byte = Unit {0}
HasTypeBitsHere TypeMessage-F.Short = Unit {0}
HasTypeBitsHere TypeMessage-F.Integer = Unit {0}
HasTypeBitsHere TypeMessage-F.Long = Unit {0}
HasTypeBitsHere TypeMessage-F.String = Unit {0}
HasTypeBitsHere TypeMessage-F.Date = Unit {0}
HasTypeBitsHere (TypeMessage-F.Struct fields) = AllByRecursion (λ field. IsUtf8 field.name) fields
HasTypeBitsHere (TypeMessage-F.Other number) = Unit {0}

unfoldable pub HasTypeBits : TypeMessage → Type 0
HasTypeBits = every-TypeMessage HasTypeBitsHere

abbrev pub HasLiteralBits : Literal → Type 0
HasLiteralBits (literal.Null kind) = HasTypeBits kind
HasLiteralBits (literal.Boolean value) = Unit {0}
HasLiteralBits (literal.Integer value) = FitsSigned w32 value
HasLiteralBits (literal.Long value) = FitsSigned w64 value
HasLiteralBits (literal.String text) = IsUtf8 text
HasLiteralBits (literal.Date days) = FitsSigned w32 days
HasLiteralBits literal.Absent = Unit {0}

pub record HasAttributeBits (attribute : UnresolvedAttribute) : Type 0 where
  pub unparsed_identifier : IsUtf8 attribute.unparsed_identifier
  pub plan_id : IfSome attribute.plan_id (FitsSigned w64)

abbrev pub HasTargetBits : CastTarget → Type 0
HasTargetBits (target.Kind kind) = HasTypeBits kind
HasTargetBits (target.KindText text) = IsUtf8 text
HasTargetBits target.Absent = Unit {0}

-- those of a sort order itself
pub record HasOrderBits (order : SortOrder Expr) : Type 0 where
  pub direction : FitsSigned w32 order.direction
  pub null_ordering : FitsSigned w32 order.null_ordering

abbrev pub HasExprBitsHere : Expr-F Expr → Type 0
HasExprBitsHere (Expr-F.Literal literal) = HasLiteralBits literal
HasExprBitsHere (Expr-F.UnresolvedAttribute attribute) = HasAttributeBits attribute
HasExprBitsHere (Expr-F.UnresolvedFunction function) = IsUtf8 function.function_name
HasExprBitsHere (Expr-F.UnresolvedStar star) = IfSome star.unparsed_target IsUtf8
HasExprBitsHere (Expr-F.Alias alias) = AllByRecursion IsUtf8 alias.name
HasExprBitsHere (Expr-F.Cast cast) = HasTargetBits cast.target
HasExprBitsHere (Expr-F.SortOrder order) = HasOrderBits order
HasExprBitsHere (Expr-F.Other number) = Unit {0}

unfoldable pub HasExprBits : Expr → Type 0
HasExprBits = every-Expr HasExprBitsHere

pub record HasAliasBits (alias : Alias Expr) : Type 0 where
  pub expr : HasExprBits alias.expr
  pub name : AllByRecursion IsUtf8 alias.name

pub record HasSortOrderBits (order : SortOrder Expr) : Type 0 where
  pub child : HasExprBits order.child
  pub here : HasOrderBits order
