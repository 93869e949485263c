-- Expressions with their types over columns. Parts are typed from left to right, and the first error decides.
use Rattle.std.specs.Prelude.{ℕ, ◌+◌, ◌&&◌, if◌then◌else◌, Bool, true, false, List, [], ◌∷◌, ◌++◌, length, Option, Some, None, Ok, codes}
use Rattle.std.specs.Fmt.{decimal}
use Rattle.std.specs.List.{list_any}
use Rattle.std.specs.Str.{str_to_ascii_lowercase}
use Rattle.cn_types.specs.declared.value.DataType.{DataType}
use Rattle.expression_messages.specs.declared.expression.Cast.{Cast}
use Rattle.expression_messages.specs.declared.expression.UnresolvedFunction.{UnresolvedFunction}
use Rattle.expression_messages.specs.declared.expression.Expr.{Expr}
use Rattle.expression_messages.specs.declared.expression.Expr.TheOpen.{Expr-F}
use Rattle.expression_messages.specs.declared.expression.Expr.TheFolds.{fold-Expr}
use Rattle.expression_messages.specs.declared.expression.Expr.TheViews.{out-Expr}
use Rattle.plan_model.specs.declared.expression.TypedExpr.{TypedExpr}
use Rattle.plan_model.specs.declared.expression.TypedExpr.TheVariants as typed
use Rattle.plan_model.specs.declared.function.Function.{Function}
use Rattle.plan_model.specs.declared.node.AggregateCall.{AggregateCall}
use Rattle.resolve_names.specs.declared.error.ErrorName.TheVariants.{Unsupported}
use Rattle.resolve_names.specs.declared.scope.ColumnOf.{ColumnOf}
use Rattle.resolve_names.specs.declared.scope.Tagged.{Tagged}
use Rattle.resolve_names.specs.Checks.{Checked, ◌>>=◌, refused}
use Rattle.resolve_names.specs.Refusals.{Refusal, refusal}
use Rattle.resolve_functions.specs.Arguments.{is_aggregate, typed_call}
use Rattle.resolve_types.specs.Calls.{aggregate_of, called, is_count}
use Rattle.resolve_types.specs.Leaves.{typed_attribute, typed_cast, typed_literal}

-- an expression with its type, none for a null without one; and the aggregate calls that were met up to its end. The value of such a call
-- stands behind the columns, in the order in which the calls were met
pub record Typing : Type 0 where
  pub expr : Option TypedExpr
  pub calls : List AggregateCall

abbrev pub typing : Option TypedExpr → List AggregateCall → Typing
typing expr calls = record { expr = expr; calls = calls }

-- an expression where it stands: whether it is a star, and its typing where aggregate calls are allowed, or not, behind the calls so far
pub record Standing : Type 0 where
  pub star : Bool
  pub typed : Bool → List AggregateCall → Checked Typing

-- what has a type by itself
abbrev pub leaf : Checked (Option TypedExpr) → Standing
leaf found = record { star = false; typed = λ allowed calls. found >>= λ expr. Ok (typing expr calls) }

abbrev pub some_typed : Checked TypedExpr → Checked (Option TypedExpr)
some_typed found = found >>= λ expr. Ok (Some expr)

-- an expression that has no meaning where it stands, by its field number
abbrev pub meaningless : ℕ → Refusal
meaningless number = refusal Unsupported (codes "expression " ++ decimal number)

abbrev pub no_value : Bool → ℕ → Standing
no_value star number = record { star = star; typed = λ allowed calls. refused (meaningless number) }

-- whether an expression is a star
abbrev pub star_form : Expr-F Expr → Bool
star_form (Expr-F.Literal literal) = false
star_form (Expr-F.UnresolvedAttribute attribute) = false
star_form (Expr-F.UnresolvedFunction f) = false
star_form (Expr-F.UnresolvedStar star) = true
star_form (Expr-F.Alias alias) = false
star_form (Expr-F.Cast cast) = false
star_form (Expr-F.SortOrder order) = false
star_form (Expr-F.Other number) = false

unfoldable pub is_star : Expr → Bool
is_star expr = star_form (out-Expr expr)

-- ---- calls

-- arguments with their types, and the aggregate calls met up to the end of the last
pub record Arguments : Type 0 where
  pub exprs : List (Option TypedExpr)
  pub calls : List AggregateCall

abbrev pub arguments : List (Option TypedExpr) → List AggregateCall → Arguments
arguments exprs calls = record { exprs = exprs; calls = calls }

abbrev pub arguments_typed : Bool → List Standing → List AggregateCall → Checked Arguments
arguments_typed allowed [] calls = Ok (arguments [] calls)
arguments_typed allowed (argument ∷ others) calls = do
  first ← argument.typed allowed calls
  rest ← arguments_typed allowed others first.calls
  Ok (arguments (first.expr ∷ rest.exprs) rest.calls)

-- the call behind the calls so far; its value stands at the end of the columns and theirs
abbrev pub with_call : ℕ → List AggregateCall → AggregateCall → DataType → Typing
with_call width calls call kind = typing (Some (typed.Column (width + length calls) kind)) (calls ++ call ∷ [])

abbrev pub first_of : List (Option TypedExpr) → Option TypedExpr
first_of [] = None
first_of (expr ∷ exprs) = expr

-- a function of its arguments' values
unfoldable pub plain_typed : List ℕ → Function → List Standing → Bool → List AggregateCall → Checked Typing
plain_typed name function arguments allowed calls = do
  found ← arguments_typed allowed arguments calls
  expr ← typed_call name function found.exprs
  Ok (typing (Some expr) found.calls)

-- an aggregate function of its argument's values over the rows; no aggregate call stands in its argument
unfoldable pub aggregate_typed : ℕ → List ℕ → Function → Bool → List Standing → List AggregateCall → Checked Typing
aggregate_typed width name function distinct arguments calls = do
  found ← arguments_typed false arguments []
  kind ← aggregate_of name function distinct (first_of found.exprs)
  Ok (with_call width calls (record { function = function; argument = first_of found.exprs; distinct = distinct }) kind)

-- `count(*)`: how many rows there are
abbrev pub rows_counted : ℕ → List AggregateCall → Typing
rows_counted width calls = with_call width calls (record { function = Function.Count; argument = None; distinct = false }) DataType.Long

unfoldable pub has_star : List Standing → Bool
has_star arguments = list_any (λ argument. argument.star) arguments

abbrev pub call_typed : ℕ → List ℕ → Function → Bool → List Standing → Bool → List AggregateCall → Checked Typing
call_typed width name function distinct arguments allowed calls =
    if is_count function && has_star arguments then Ok (rows_counted width calls)
    else (if is_aggregate function then aggregate_typed width name function distinct arguments calls else plain_typed name function arguments allowed calls)

-- a call is judged by its name, where it stands and how many arguments it has, and then by its arguments; errors tell its name in lower case
unfoldable pub function_typed : ℕ → UnresolvedFunction Standing → Bool → List AggregateCall → Checked Typing
function_typed width f allowed calls = do
  function ← called (str_to_ascii_lowercase f.function_name) allowed f.is_distinct (has_star f.arguments) (length f.arguments)
  call_typed width (str_to_ascii_lowercase f.function_name) function f.is_distinct f.arguments allowed calls

-- ---- casts

unfoldable pub cast_typed : Cast Standing → Bool → List AggregateCall → Checked Typing
cast_typed cast allowed calls = do
  child ← cast.expr.typed allowed calls
  expr ← typed_cast child.expr cast.target
  Ok (typing (Some expr) child.calls)

-- ---- expressions over columns, and over the relations with plan ids below

module _ {I : Type 0} (same : I → I → Bool) (exact : Bool) (columns : List (ColumnOf I)) (relations : List (Tagged I)) where
  -- one expression, with each expression in it in its place. A star, an alias and a sort order have a meaning in few places, and no value
  abbrev pub standing_step : Expr-F Standing → Standing
  standing_step (Expr-F.Literal literal) = leaf (typed_literal literal)
  standing_step (Expr-F.UnresolvedAttribute attribute) = leaf (some_typed (typed_attribute same exact columns relations attribute))
  standing_step (Expr-F.UnresolvedFunction f) = record { star = false; typed = function_typed (length columns) f }
  standing_step (Expr-F.UnresolvedStar star) = no_value true 5
  standing_step (Expr-F.Alias alias) = no_value false 6
  standing_step (Expr-F.Cast cast) = record { star = false; typed = cast_typed cast }
  standing_step (Expr-F.SortOrder order) = no_value false 9
  standing_step (Expr-F.Other number) = no_value false number

  unfoldable pub standing : Expr → Standing
  standing = fold-Expr Standing standing_step

  -- an expression's typing where aggregate calls are allowed, or not, behind the calls so far
  unfoldable pub typed_over : Expr → Bool → List AggregateCall → Checked Typing
  typed_over expr allowed calls = (standing expr).typed allowed calls
