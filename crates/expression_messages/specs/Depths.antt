-- How many messages are nested in the spelling of a message, the message itself among them. An empty message is a message.
use Rattle.std.specs.Prelude.{ℕ, ◌+◌, ◌-◌, ◌^◌, List, [], ◌∷◌, map, min, max}
use Rattle.expression_messages.specs.declared.data_type.TypeMessage.{TypeMessage}
use Rattle.expression_messages.specs.declared.data_type.TypeMessage.TheOpen.{TypeMessage-F}
use Rattle.expression_messages.specs.declared.data_type.TypeMessage.TheFolds.{fold-TypeMessage}
use Rattle.expression_messages.specs.declared.data_type.StructField.{StructField}
use Rattle.expression_messages.specs.declared.literal.Literal.{Literal}
use Rattle.expression_messages.specs.declared.literal.Literal.TheVariants as literal
use Rattle.expression_messages.specs.declared.expression.Alias.{Alias}
use Rattle.expression_messages.specs.declared.expression.CastTarget.{CastTarget}
use Rattle.expression_messages.specs.declared.expression.CastTarget.TheVariants as target
use Rattle.expression_messages.specs.declared.expression.SortOrder.{SortOrder}
use Rattle.expression_messages.specs.declared.expression.Expr.{Expr}
use Rattle.expression_messages.specs.declared.expression.Expr.TheOpen.{Expr-F}
use Rattle.expression_messages.specs.declared.expression.Expr.TheFolds.{fold-Expr}

-- the largest of these, 0 of none
abbrev pub largest : List ℕ → ℕ
largest [] = 0
largest (n ∷ ns) = max n (largest ns)

-- a depth as a number of 32 bits: the last one where it is above that
abbrev pub told : ℕ → ℕ
told depth = min depth (2 ^ 32 - 1)

-- the deepest field of a struct, whose own message counts
abbrev pub deepest_field : {T : Type 0} → (T → ℕ) → List (StructField T) → ℕ
deepest_field depth fields = largest (map (λ field. 1 + depth field.data_type) fields)

-- one type, with the depth of each type in it in its place
abbrev pub type_depth_step : TypeMessage-F ℕ → ℕ
type_depth_step TypeMessage-F.Null = 2
type_depth_step TypeMessage-F.Boolean = 2
type_depth_step TypeMessage-F.Byte = 2
type_depth_step TypeMessage-F.Short = 2
type_depth_step TypeMessage-F.Integer = 2
type_depth_step TypeMessage-F.Long = 2
type_depth_step TypeMessage-F.String = 2
type_depth_step TypeMessage-F.Date = 2
type_depth_step (TypeMessage-F.Struct fields) = 2 + deepest_field (λ depth. depth) fields
type_depth_step (TypeMessage-F.Other number) = 1

unfoldable pub type_depth : TypeMessage → ℕ
type_depth = fold-TypeMessage ℕ type_depth_step

abbrev pub literal_depth : Literal → ℕ
literal_depth (literal.Null kind) = 1 + type_depth kind
literal_depth (literal.Boolean value) = 1
literal_depth (literal.Integer value) = 1
literal_depth (literal.Long value) = 1
literal_depth (literal.String text) = 1
literal_depth (literal.Date days) = 1
literal_depth literal.Absent = 1

-- what a cast's target adds
abbrev pub target_depth : CastTarget → ℕ
target_depth (target.Kind kind) = type_depth kind
target_depth (target.KindText text) = 0
target_depth target.Absent = 0

-- one expression, with the depth of each expression in it in its place
abbrev pub expr_depth_step : Expr-F ℕ → ℕ
expr_depth_step (Expr-F.Literal literal) = 1 + literal_depth literal
expr_depth_step (Expr-F.UnresolvedAttribute attribute) = 2
expr_depth_step (Expr-F.UnresolvedFunction function) = 2 + largest function.arguments
expr_depth_step (Expr-F.UnresolvedStar star) = 2
expr_depth_step (Expr-F.Alias alias) = 2 + alias.expr
expr_depth_step (Expr-F.Cast cast) = 2 + max cast.expr (target_depth cast.target)
expr_depth_step (Expr-F.SortOrder order) = 2 + order.child
expr_depth_step (Expr-F.Other number) = 1

unfoldable pub expr_depth : Expr → ℕ
expr_depth = fold-Expr ℕ expr_depth_step

-- an alias and a sort order by themselves
abbrev pub alias_depth : Alias Expr → ℕ
alias_depth alias = 1 + expr_depth alias.expr

abbrev pub sort_order_depth : SortOrder Expr → ℕ
sort_order_depth order = 1 + expr_depth order.child
