-- The typing of each form of expression, and which of them are stars.
use Rattle.std.proofs.Common.{◌≡◌, ℕ, Bool, true, false, List, [], ◌∷◌, ◌++◌, map, length, refl, sym, ap, ◌∙◌}
use Rattle.std.specs.Prelude.{◌||◌, Ok}
use Rattle.std.specs.List.{list_any}
use Rattle.std.proofs.lemmas.List.{length-map}
use Rattle.expression_messages.specs.declared.literal.Literal.{Literal}
use Rattle.expression_messages.specs.declared.expression.UnresolvedAttribute.{UnresolvedAttribute}
use Rattle.expression_messages.specs.declared.expression.UnresolvedFunction.{UnresolvedFunction}
use Rattle.expression_messages.specs.declared.expression.UnresolvedStar.{UnresolvedStar}
use Rattle.expression_messages.specs.declared.expression.Alias.{Alias}
use Rattle.expression_messages.specs.declared.expression.Cast.{Cast}
use Rattle.expression_messages.specs.declared.expression.SortOrder.{SortOrder}
use Rattle.expression_messages.specs.declared.expression.Expr.{Expr}
use Rattle.expression_messages.specs.declared.expression.Expr.TheVariants as V
use Rattle.expression_messages.specs.declared.expression.Expr.TheOpen as O
use Rattle.expression_messages.specs.declared.expression.Expr.TheOpen.{Expr-F}
use Rattle.expression_messages.specs.declared.expression.Expr.TheFolds.{fold-roll-Expr, fold_out-Expr, map-Expr}
use Rattle.expression_messages.specs.declared.expression.Expr.TheViews.{out-Expr}
use Rattle.plan_model.specs.declared.node.AggregateCall.{AggregateCall}
use Rattle.resolve_names.specs.declared.scope.ColumnOf.{ColumnOf}
use Rattle.resolve_names.specs.declared.scope.Tagged.{Tagged}
use Rattle.resolve_names.specs.Checks.{Checked, ◌>>=◌, refused}
use Rattle.resolve_types.specs.Leaves.{typed_attribute, typed_literal}
use Rattle.resolve_expressions.specs.Typings.{Standing, Typing, typing, meaningless, some_typed, cast_typed, function_typed, has_star, is_star, star_form, standing, standing_step, typed_over}

module _ {I : Type 0} (same : I → I → Bool) (exact : Bool) (columns : List (ColumnOf I)) (relations : List (Tagged I)) where
  abbrev stands : Expr → Standing
  stands = standing same exact columns relations

  abbrev step : Expr-F Standing → Standing
  step = standing_step same exact columns relations

  standing-out : (expr : Expr) → stands expr ≡ step (map-Expr Expr Standing stands (out-Expr expr))
  unfolding standing
  standing-out expr = fold_out-Expr Standing step expr

  -- ---- stars

  star_by : (form : Expr-F Expr) → (step (map-Expr Expr Standing stands form)).star ≡ star_form form
  star_by (O.Literal literal) = refl
  star_by (O.UnresolvedAttribute attribute) = refl
  star_by (O.UnresolvedFunction f) = refl
  star_by (O.UnresolvedStar star) = refl
  star_by (O.Alias alias) = refl
  star_by (O.Cast cast) = refl
  star_by (O.SortOrder order) = refl
  star_by (O.Other number) = refl

  star-standing : (expr : Expr) → (stands expr).star ≡ is_star expr
  unfolding is_star
  star-standing expr = ap (λ (s : Standing). s.star) (standing-out expr) ∙ star_by (out-Expr expr)

  pub has_star_standings : (exprs : List Expr) → has_star (map stands exprs) ≡ list_any is_star exprs
  unfolding has_star
  has_star_standings [] = refl
  has_star_standings (expr ∷ exprs) =
      ap (λ (b : Bool). b || has_star (map stands exprs)) (star-standing expr) ∙ ap (λ (b : Bool). is_star expr || b) (has_star_standings exprs)

  pub length_standings : (exprs : List Expr) → length (map stands exprs) ≡ length exprs
  length_standings exprs = length-map exprs stands

  -- ---- forms

  standing-roll : (form : Expr-F Expr) (expr : Expr) → out-Expr expr ≡ form → stands expr ≡ step (map-Expr Expr Standing stands form)
  standing-roll form expr out = standing-out expr ∙ ap (λ (x : Expr-F Expr). step (map-Expr Expr Standing stands x)) out

  module _ (allowed : Bool) (calls : List AggregateCall) where
    abbrev at : Standing → Checked Typing
    at s = s.typed allowed calls

    abbrev over : Expr → Checked Typing
    over expr = typed_over same exact columns relations expr allowed calls

    pub standing_typed : (expr : Expr) → (stands expr).typed allowed calls ≡ over expr
    unfolding typed_over
    standing_typed expr = refl

    pub typed-Literal : (literal : Literal) → over (V.Literal literal) ≡ (typed_literal literal >>= λ expr. Ok (typing expr calls))
    unfolding typed_over standing
    typed-Literal literal = ap (λ e. at (stands e)) (sym (V.rolls-Literal literal)) ∙ ap at (fold-roll-Expr Standing step (O.Literal literal))

    pub typed-UnresolvedAttribute : (attribute : UnresolvedAttribute) →
        over (V.UnresolvedAttribute attribute) ≡ (some_typed (typed_attribute same exact columns relations attribute) >>= λ expr. Ok (typing expr calls))
    unfolding typed_over standing
    typed-UnresolvedAttribute attribute = ap (λ e. at (stands e)) (sym (V.rolls-UnresolvedAttribute attribute)) ∙ ap at (fold-roll-Expr Standing step (O.UnresolvedAttribute attribute))

    pub typed-UnresolvedFunction : (f : UnresolvedFunction Expr) →
        over (V.UnresolvedFunction f) ≡ function_typed (length columns) (record { function_name = f.function_name; arguments = map stands f.arguments; is_distinct = f.is_distinct }) allowed calls
    unfolding typed_over standing
    typed-UnresolvedFunction f = ap (λ e. at (stands e)) (sym (V.rolls-UnresolvedFunction f)) ∙ ap at (fold-roll-Expr Standing step (O.UnresolvedFunction f))

    pub typed-UnresolvedStar : (star : UnresolvedStar) → over (V.UnresolvedStar star) ≡ refused (meaningless 5)
    unfolding typed_over standing
    typed-UnresolvedStar star = ap (λ e. at (stands e)) (sym (V.rolls-UnresolvedStar star)) ∙ ap at (fold-roll-Expr Standing step (O.UnresolvedStar star))

    pub typed-Alias : (alias : Alias Expr) → over (V.Alias alias) ≡ refused (meaningless 6)
    unfolding typed_over standing
    typed-Alias alias = ap (λ e. at (stands e)) (sym (V.rolls-Alias alias)) ∙ ap at (fold-roll-Expr Standing step (O.Alias alias))

    pub typed-Cast : (cast : Cast Expr) → over (V.Cast cast) ≡ cast_typed (record { expr = stands cast.expr; target = cast.target }) allowed calls
    unfolding typed_over standing
    typed-Cast cast = ap (λ e. at (stands e)) (sym (V.rolls-Cast cast)) ∙ ap at (fold-roll-Expr Standing step (O.Cast cast))

    pub typed-SortOrder : (order : SortOrder Expr) → over (V.SortOrder order) ≡ refused (meaningless 9)
    unfolding typed_over standing
    typed-SortOrder order = ap (λ e. at (stands e)) (sym (V.rolls-SortOrder order)) ∙ ap at (fold-roll-Expr Standing step (O.SortOrder order))

    pub typed-Other : (number : ℕ) → over (V.Other number) ≡ refused (meaningless number)
    unfolding typed_over standing
    typed-Other number = ap (λ e. at (stands e)) (sym (V.rolls-Other number)) ∙ ap at (fold-roll-Expr Standing step (O.Other number))

pub ruleset standings = (has_star_standings, length_standings)

pub ruleset typed_forms = (typed-Literal, typed-UnresolvedAttribute, typed-UnresolvedFunction, typed-UnresolvedStar, typed-Alias, typed-Cast, typed-SortOrder, typed-Other)
