-- The fields and the depth of an expression, variant by variant.
use Rattle.std.proofs.Common.{◌≡◌, ℕ, ◌+◌, max, Bool, true, false, List, [], ◌++◌, map, refl, sym, ap, ◌∙◌}
use Rattle.std.specs.Prelude.{◌&&◌}
use Rattle.std.specs.List.{list_all}
use Rattle.proto_fields.specs.Fields.{Field}
use Rattle.proto_fields.specs.Spelling.{spell, payload_fields, text_fields, bool_fields}
use Rattle.expression_messages.specs.declared.literal.Literal.{Literal}
use Rattle.expression_messages.specs.declared.expression.UnresolvedAttribute.{UnresolvedAttribute}
use Rattle.expression_messages.specs.declared.expression.UnresolvedFunction.{UnresolvedFunction}
use Rattle.expression_messages.specs.declared.expression.UnresolvedStar.{UnresolvedStar}
use Rattle.expression_messages.specs.declared.expression.Alias.{Alias}
use Rattle.expression_messages.specs.declared.expression.Cast.{Cast}
use Rattle.expression_messages.specs.declared.expression.SortOrder.{SortOrder}
use Rattle.expression_messages.specs.declared.expression.Expr.{Expr}
use Rattle.expression_messages.specs.declared.expression.Expr.TheVariants as V
use Rattle.expression_messages.specs.declared.expression.Expr.TheOpen as O
use Rattle.expression_messages.specs.declared.expression.Expr.TheOpen.{Expr-F}
use Rattle.expression_messages.specs.declared.expression.Expr.TheFolds.{fold-roll-Expr}
use Rattle.expression_messages.specs.Messages.{repeated_fields}
use Rattle.expression_messages.specs.Spelled.{literal_fields, attribute_fields, star_fields, function_fields, alias_fields, cast_fields, sort_order_fields, expr_fields_step, expr_fields}
use Rattle.expression_messages.specs.Depths.{largest, literal_depth, target_depth, expr_depth_step, expr_depth}
use Rattle.expression_messages.specs.Known.{is_known_literal, is_known_target, is_known_expr_step, is_known_expr}
use Rattle.expression_messages.proofs.TypeCases.{map_twice, list_all-map}

-- ---- the fields

pub expr_fields-Literal : (literal : Literal) → expr_fields (V.Literal literal) ≡ payload_fields 1 (spell (literal_fields literal))
unfolding expr_fields
expr_fields-Literal literal = ap expr_fields (sym (V.rolls-Literal literal)) ∙ fold-roll-Expr (List Field) expr_fields_step (O.Literal literal)

pub expr_fields-UnresolvedAttribute : (attribute : UnresolvedAttribute) → expr_fields (V.UnresolvedAttribute attribute) ≡ payload_fields 2 (spell (attribute_fields attribute))
unfolding expr_fields
expr_fields-UnresolvedAttribute attribute = ap expr_fields (sym (V.rolls-UnresolvedAttribute attribute)) ∙ fold-roll-Expr (List Field) expr_fields_step (O.UnresolvedAttribute attribute)

pub expr_fields-UnresolvedFunction : (function : UnresolvedFunction Expr) → expr_fields (V.UnresolvedFunction function) ≡ payload_fields 3 (spell (function_fields expr_fields function))
unfolding expr_fields
expr_fields-UnresolvedFunction function = ap expr_fields (sym (V.rolls-UnresolvedFunction function)) ∙ fold-roll-Expr (List Field) expr_fields_step (O.UnresolvedFunction function)
    ∙ ap (λ (payloads : List (List ℕ)). payload_fields 3 (spell (text_fields 1 function.function_name ++ repeated_fields 2 payloads ++ bool_fields 3 function.is_distinct)))
    (map_twice (λ (inner : List Field). spell inner) expr_fields function.arguments)

pub expr_fields-UnresolvedStar : (star : UnresolvedStar) → expr_fields (V.UnresolvedStar star) ≡ payload_fields 5 (spell (star_fields star))
unfolding expr_fields
expr_fields-UnresolvedStar star = ap expr_fields (sym (V.rolls-UnresolvedStar star)) ∙ fold-roll-Expr (List Field) expr_fields_step (O.UnresolvedStar star)

pub expr_fields-Alias : (alias : Alias Expr) → expr_fields (V.Alias alias) ≡ payload_fields 6 (spell (alias_fields alias))
unfolding expr_fields
expr_fields-Alias alias = ap expr_fields (sym (V.rolls-Alias alias)) ∙ fold-roll-Expr (List Field) expr_fields_step (O.Alias alias)

pub expr_fields-Cast : (cast : Cast Expr) → expr_fields (V.Cast cast) ≡ payload_fields 7 (spell (cast_fields expr_fields cast))
unfolding expr_fields
expr_fields-Cast cast = ap expr_fields (sym (V.rolls-Cast cast)) ∙ fold-roll-Expr (List Field) expr_fields_step (O.Cast cast)

pub expr_fields-SortOrder : (order : SortOrder Expr) → expr_fields (V.SortOrder order) ≡ payload_fields 9 (spell (sort_order_fields order))
unfolding expr_fields
expr_fields-SortOrder order = ap expr_fields (sym (V.rolls-SortOrder order)) ∙ fold-roll-Expr (List Field) expr_fields_step (O.SortOrder order)

pub expr_fields-Other : (number : ℕ) → expr_fields (V.Other number) ≡ []
unfolding expr_fields
expr_fields-Other number = ap expr_fields (sym (V.rolls-Other number)) ∙ fold-roll-Expr (List Field) expr_fields_step (O.Other number)

-- ---- the depth

pub expr_depth-Literal : (literal : Literal) → expr_depth (V.Literal literal) ≡ 1 + literal_depth literal
unfolding expr_depth
expr_depth-Literal literal = ap expr_depth (sym (V.rolls-Literal literal)) ∙ fold-roll-Expr ℕ expr_depth_step (O.Literal literal)

pub expr_depth-UnresolvedAttribute : (attribute : UnresolvedAttribute) → expr_depth (V.UnresolvedAttribute attribute) ≡ 2
unfolding expr_depth
expr_depth-UnresolvedAttribute attribute = ap expr_depth (sym (V.rolls-UnresolvedAttribute attribute)) ∙ fold-roll-Expr ℕ expr_depth_step (O.UnresolvedAttribute attribute)

pub expr_depth-UnresolvedFunction : (function : UnresolvedFunction Expr) → expr_depth (V.UnresolvedFunction function) ≡ 2 + largest (map expr_depth function.arguments)
unfolding expr_depth
expr_depth-UnresolvedFunction function = ap expr_depth (sym (V.rolls-UnresolvedFunction function)) ∙ fold-roll-Expr ℕ expr_depth_step (O.UnresolvedFunction function)

pub expr_depth-UnresolvedStar : (star : UnresolvedStar) → expr_depth (V.UnresolvedStar star) ≡ 2
unfolding expr_depth
expr_depth-UnresolvedStar star = ap expr_depth (sym (V.rolls-UnresolvedStar star)) ∙ fold-roll-Expr ℕ expr_depth_step (O.UnresolvedStar star)

pub expr_depth-Alias : (alias : Alias Expr) → expr_depth (V.Alias alias) ≡ 2 + expr_depth alias.expr
unfolding expr_depth
expr_depth-Alias alias = ap expr_depth (sym (V.rolls-Alias alias)) ∙ fold-roll-Expr ℕ expr_depth_step (O.Alias alias)

pub expr_depth-Cast : (cast : Cast Expr) → expr_depth (V.Cast cast) ≡ 2 + max (expr_depth cast.expr) (target_depth cast.target)
unfolding expr_depth
expr_depth-Cast cast = ap expr_depth (sym (V.rolls-Cast cast)) ∙ fold-roll-Expr ℕ expr_depth_step (O.Cast cast)

pub expr_depth-SortOrder : (order : SortOrder Expr) → expr_depth (V.SortOrder order) ≡ 2 + expr_depth order.child
unfolding expr_depth
expr_depth-SortOrder order = ap expr_depth (sym (V.rolls-SortOrder order)) ∙ fold-roll-Expr ℕ expr_depth_step (O.SortOrder order)

pub expr_depth-Other : (number : ℕ) → expr_depth (V.Other number) ≡ 1
unfolding expr_depth
expr_depth-Other number = ap expr_depth (sym (V.rolls-Other number)) ∙ fold-roll-Expr ℕ expr_depth_step (O.Other number)

-- ---- what is known

pub is_known_expr-Literal : (literal : Literal) → is_known_expr (V.Literal literal) ≡ is_known_literal literal
unfolding is_known_expr
is_known_expr-Literal literal = ap is_known_expr (sym (V.rolls-Literal literal)) ∙ fold-roll-Expr Bool is_known_expr_step (O.Literal literal)

pub is_known_expr-UnresolvedAttribute : (attribute : UnresolvedAttribute) → is_known_expr (V.UnresolvedAttribute attribute) ≡ true
unfolding is_known_expr
is_known_expr-UnresolvedAttribute attribute = ap is_known_expr (sym (V.rolls-UnresolvedAttribute attribute)) ∙ fold-roll-Expr Bool is_known_expr_step (O.UnresolvedAttribute attribute)

pub is_known_expr-UnresolvedFunction : (function : UnresolvedFunction Expr) → is_known_expr (V.UnresolvedFunction function) ≡ list_all is_known_expr function.arguments
unfolding is_known_expr
is_known_expr-UnresolvedFunction function = ap is_known_expr (sym (V.rolls-UnresolvedFunction function)) ∙ fold-roll-Expr Bool is_known_expr_step (O.UnresolvedFunction function) ∙ list_all-map (λ (b : Bool). b) _ function.arguments

pub is_known_expr-UnresolvedStar : (star : UnresolvedStar) → is_known_expr (V.UnresolvedStar star) ≡ true
unfolding is_known_expr
is_known_expr-UnresolvedStar star = ap is_known_expr (sym (V.rolls-UnresolvedStar star)) ∙ fold-roll-Expr Bool is_known_expr_step (O.UnresolvedStar star)

pub is_known_expr-Alias : (alias : Alias Expr) → is_known_expr (V.Alias alias) ≡ is_known_expr alias.expr
unfolding is_known_expr
is_known_expr-Alias alias = ap is_known_expr (sym (V.rolls-Alias alias)) ∙ fold-roll-Expr Bool is_known_expr_step (O.Alias alias)

pub is_known_expr-Cast : (cast : Cast Expr) → is_known_expr (V.Cast cast) ≡ (is_known_expr cast.expr && is_known_target cast.target)
unfolding is_known_expr
is_known_expr-Cast cast = ap is_known_expr (sym (V.rolls-Cast cast)) ∙ fold-roll-Expr Bool is_known_expr_step (O.Cast cast)

pub is_known_expr-SortOrder : (order : SortOrder Expr) → is_known_expr (V.SortOrder order) ≡ is_known_expr order.child
unfolding is_known_expr
is_known_expr-SortOrder order = ap is_known_expr (sym (V.rolls-SortOrder order)) ∙ fold-roll-Expr Bool is_known_expr_step (O.SortOrder order)

pub is_known_expr-Other : (number : ℕ) → is_known_expr (V.Other number) ≡ false
unfolding is_known_expr
is_known_expr-Other number = ap is_known_expr (sym (V.rolls-Other number)) ∙ fold-roll-Expr Bool is_known_expr_step (O.Other number)

-- of each variant: the fields, the depth, and whether it is known
pub ruleset expr_spellings = (expr_fields-Literal, expr_fields-UnresolvedAttribute, expr_fields-UnresolvedFunction, expr_fields-UnresolvedStar, expr_fields-Alias, expr_fields-Cast, expr_fields-SortOrder, expr_fields-Other)

pub ruleset expr_depths = (expr_depth-Literal, expr_depth-UnresolvedAttribute, expr_depth-UnresolvedFunction, expr_depth-UnresolvedStar, expr_depth-Alias, expr_depth-Cast, expr_depth-SortOrder, expr_depth-Other)

pub ruleset known_exprs = (is_known_expr-Literal, is_known_expr-UnresolvedAttribute, is_known_expr-UnresolvedFunction, is_known_expr-UnresolvedStar, is_known_expr-Alias, is_known_expr-Cast, is_known_expr-SortOrder, is_known_expr-Other)
