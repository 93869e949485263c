-- A typing keeps the aggregate calls so far, and puts its own behind them.
use Rattle.std.proofs.Common.{◌≡◌, ℕ, Bool, true, false, List, [], ◌∷◌, ◌++◌, map, length, refl, sym, ap, ◌∙◌, subst, append_assoc, Option, None}
use Rattle.std.specs.Prelude.{◌&&◌, IfOk, Ok, if◌then◌else◌}
use Rattle.std.specs.List.{AllByRecursion}
use Rattle.std.specs.Str.{str_to_ascii_lowercase}
use Rattle.std.proofs.lemmas.List.{append-nil}
use Rattle.std.proofs.lemmas.Result.{IfOk-at_ok}
use Rattle.expression_messages.specs.declared.expression.Cast.{Cast}
use Rattle.expression_messages.specs.declared.expression.UnresolvedFunction.{UnresolvedFunction}
use Rattle.expression_messages.specs.declared.expression.Expr.{Expr}
use Rattle.expression_messages.specs.declared.expression.Expr.TheOpen as E
use Rattle.expression_messages.specs.declared.expression.Expr.TheOpen.{Expr-F}
use Rattle.expression_messages.specs.declared.expression.Expr.TheFolds.{fold-roll-Expr, ind-Expr, map-Expr}
use Rattle.expression_messages.specs.declared.expression.Expr.TheViews.{roll-Expr}
use Rattle.plan_model.specs.declared.expression.TypedExpr.{TypedExpr}
use Rattle.plan_model.specs.declared.function.Function.{Function}
use Rattle.plan_model.specs.declared.node.AggregateCall.{AggregateCall}
use Rattle.resolve_names.specs.declared.scope.ColumnOf.{ColumnOf}
use Rattle.resolve_names.specs.declared.scope.Tagged.{Tagged}
use Rattle.resolve_names.specs.Checks.{Checked}
use Rattle.resolve_functions.specs.Arguments.{is_aggregate, typed_call}
use Rattle.resolve_types.specs.Calls.{aggregate_of, called, is_count}
use Rattle.resolve_types.specs.Leaves.{typed_attribute, typed_cast, typed_literal}
use Rattle.resolve_expressions.specs.Typings.{Arguments, Standing, Typing, aggregate_typed, arguments_typed, cast_typed, first_of, function_typed, has_star, leaf, no_value, plain_typed, rows_counted, some_typed, standing, standing_step, typed_over}
use Rattle.resolve_sound.proofs.Chains.{either_way, then_holds}

-- calls with more behind them
abbrev pub Grows : List AggregateCall → List AggregateCall → Type 0
Grows calls all = (more : List AggregateCall) × (all ≡ calls ++ more)

pub grows_none : (calls : List AggregateCall) → Grows calls calls
grows_none calls = ([], sym (append-nil calls))

pub grows_more : (a b c : List AggregateCall) → Grows a b → Grows b c → Grows a c
grows_more a b c h k = (h.0 ++ k.0, k.1 ∙ ap (λ (x : List AggregateCall). x ++ k.0) h.1 ∙ append_assoc a h.0 k.0)

abbrev GrowsTyping : List AggregateCall → Typing → Type 0
GrowsTyping calls typing = Grows calls typing.calls

abbrev GrowsArguments : List AggregateCall → Arguments → Type 0
GrowsArguments calls arguments = Grows calls arguments.calls

record IsGrowing (s : Standing) : Type 0 where
  grows : (allowed : Bool) (calls : List AggregateCall) → IfOk (s.typed allowed calls) (GrowsTyping calls)

leaf_grows : (found : Checked (Option TypedExpr)) → IsGrowing (leaf found)
leaf_grows found = record { grows = λ allowed calls. then_holds (GrowsTyping calls) found _ (λ expr is. grows_none calls) }

none_grows : (star : Bool) (number : ℕ) → IsGrowing (no_value star number)
none_grows star number = record { grows = λ allowed calls. tt }

cast_grows : (cast : Cast Standing) → IsGrowing cast.expr → IsGrowing (record { star = false; typed = cast_typed cast })
unfolding cast_typed
cast_grows cast h = record {
  grows = λ allowed calls.
      then_holds (GrowsTyping calls) (cast.expr.typed allowed calls) _ (λ child is.
      then_holds (GrowsTyping calls) (typed_cast child.expr cast.target) _ (λ expr also.
      IfOk-at_ok (GrowsTyping calls) is (h.grows allowed calls)));
}

arguments_grow : (allowed : Bool) (ss : List Standing) → AllByRecursion IsGrowing ss → (calls : List AggregateCall) →
    IfOk (arguments_typed allowed ss calls) (GrowsArguments calls)
arguments_grow allowed [] all calls = grows_none calls
arguments_grow allowed (s ∷ ss) all calls =
    then_holds (GrowsArguments calls) (s.typed allowed calls) _ (λ first is.
    then_holds (GrowsArguments calls) (arguments_typed allowed ss first.calls) _ (λ rest are.
    grows_more calls first.calls rest.calls (IfOk-at_ok (GrowsTyping calls) is (all.0.grows allowed calls))
    (IfOk-at_ok (GrowsArguments first.calls) are (arguments_grow allowed ss all.1 first.calls))))

module _ (ss : List Standing) (all : AllByRecursion IsGrowing ss) (name : List ℕ) (function : Function) (calls : List AggregateCall) where
  plain_grows : (allowed : Bool) → IfOk (plain_typed name function ss allowed calls) (GrowsTyping calls)
  unfolding plain_typed
  plain_grows allowed =
      then_holds (GrowsTyping calls) (arguments_typed allowed ss calls) _ (λ found is.
      then_holds (GrowsTyping calls) (typed_call name function found.exprs) _ (λ expr also.
      IfOk-at_ok (GrowsArguments calls) is (arguments_grow allowed ss all calls)))

  aggregate_grows : (width : ℕ) (distinct : Bool) → IfOk (aggregate_typed width name function distinct ss calls) (GrowsTyping calls)
  unfolding aggregate_typed
  aggregate_grows width distinct =
      then_holds (GrowsTyping calls) (arguments_typed false ss []) _ (λ found is.
      then_holds (GrowsTyping calls) (aggregate_of name function distinct (first_of found.exprs)) _ (λ kind also.
      (record { function = function; argument = first_of found.exprs; distinct = distinct } ∷ [], refl)))

  call_grows : (b c : Bool) (width : ℕ) (distinct allowed : Bool) →
      IfOk (if b then Ok (rows_counted width calls) else
      (if c then aggregate_typed width name function distinct ss calls else plain_typed name function ss allowed calls)) (GrowsTyping calls)
  call_grows b c width distinct allowed =
      either_way (GrowsTyping calls) b _ _ (record { function = Function.Count; argument = None; distinct = false } ∷ [], refl)
      (either_way (GrowsTyping calls) c _ _ (aggregate_grows width distinct) (plain_grows allowed))

function_grows : (width : ℕ) (f : UnresolvedFunction Standing) → AllByRecursion IsGrowing f.arguments →
    IsGrowing (record { star = false; typed = function_typed width f })
unfolding function_typed
function_grows width f all = record {
  grows = λ allowed calls.
      then_holds (GrowsTyping calls) (called (str_to_ascii_lowercase f.function_name) allowed f.is_distinct (has_star f.arguments)
      (length f.arguments)) _ (λ function is.
      call_grows f.arguments all (str_to_ascii_lowercase f.function_name) function calls (is_count function && has_star f.arguments)
      (is_aggregate function) width f.is_distinct allowed);
}

-- ---- all expressions

module _ {I : Type 0} (same : I → I → Bool) (exact : Bool) (scope : List (ColumnOf I)) (relations : List (Tagged I)) where
  abbrev stands : Expr → Standing
  stands = standing same exact scope relations

  abbrev step : Expr-F Standing → Standing
  step = standing_step same exact scope relations

  abbrev With : Type 0
  With = (expr : Expr) × IsGrowing (stands expr)

  abbrev plain : Expr-F With → Expr-F Expr
  plain y = map-Expr With Expr (λ e. e.0) y

  all_growing : (es : List With) → AllByRecursion IsGrowing (map stands (map (λ e. e.0) es))
  all_growing [] = tt
  all_growing (e ∷ es) = (e.1, all_growing es)

  layer_grows : (y : Expr-F With) → IsGrowing (step (map-Expr Expr Standing stands (plain y)))
  layer_grows (E.Literal literal) = leaf_grows (typed_literal literal)
  layer_grows (E.UnresolvedAttribute attribute) = leaf_grows (some_typed (typed_attribute same exact scope relations attribute))
  layer_grows (E.UnresolvedFunction f) = function_grows (length scope) _ (all_growing f.arguments)
  layer_grows (E.UnresolvedStar star) = none_grows true 5
  layer_grows (E.Alias alias) = none_grows false 6
  layer_grows (E.Cast cast) = cast_grows _ cast.expr.1
  layer_grows (E.SortOrder order) = none_grows false 9
  layer_grows (E.Other number) = none_grows false number

  at_layer : (y : Expr-F With) → IsGrowing (stands (roll-Expr (plain y)))
  unfolding standing
  at_layer y = subst IsGrowing (sym (fold-roll-Expr Standing step (plain y))) (layer_grows y)

  growing : (expr : Expr) → IsGrowing (stands expr)
  growing = ind-Expr (λ expr. IsGrowing (stands expr))
      (λ x y is. subst (λ (z : Expr-F Expr). IsGrowing (stands (roll-Expr z))) is (at_layer y))

  pub calls_grow : (expr : Expr) (allowed : Bool) (calls : List AggregateCall) →
      IfOk (typed_over same exact scope relations expr allowed calls) (λ typing. Grows calls typing.calls)
  unfolding typed_over
  calls_grow expr allowed calls = (growing expr).grows allowed calls
