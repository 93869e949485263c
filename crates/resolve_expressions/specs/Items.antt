-- The columns that expressions make: their names, types and whether they may be null.
use Rattle.std.specs.Prelude.{ℕ, nat_eq, ◌-◌, Bool, true, false, not, nat_lt, if◌then◌else◌, List, [], ◌∷◌, length, slice_get, Option, Some, None, Ok, Err, codes, unwrap_or, option_map}
use Rattle.cn_types.specs.declared.value.Value.{Value}
use Rattle.expression_messages.specs.declared.expression.Alias.{Alias}
use Rattle.expression_messages.specs.declared.expression.UnresolvedAttribute.{UnresolvedAttribute}
use Rattle.expression_messages.specs.declared.expression.Expr.{Expr}
use Rattle.expression_messages.specs.declared.expression.Expr.TheOpen.{Expr-F}
use Rattle.expression_messages.specs.declared.expression.Expr.TheViews.{out-Expr}
use Rattle.plan_model.specs.declared.expression.TypedExpr.{TypedExpr}
use Rattle.plan_model.specs.declared.expression.TypedExpr.TheOpen.{TypedExpr-F}
use Rattle.plan_model.specs.declared.expression.TypedExpr.TheViews.{out-TypedExpr}
use Rattle.plan_model.specs.declared.node.AggregateCall.{AggregateCall}
use Rattle.plan_model.specs.NodeTypes.{kind_of}
use Rattle.plan_model.specs.Truth.{is_present}
use Rattle.resolve_names.specs.declared.scope.ColumnOf.{ColumnOf}
use Rattle.resolve_names.specs.declared.scope.Scope.{Scope}
use Rattle.resolve_names.specs.declared.scope.Tagged.{Tagged}
use Rattle.resolve_names.specs.Checks.{Checked, ◌>>=◌, or_refused, refused}
use Rattle.resolve_names.specs.Scopes.{attribute_at}
use Rattle.resolve_functions.specs.Arguments.{untyped}
use Rattle.resolve_types.specs.Calls.{is_count}
use Rattle.resolve_expressions.specs.declared.item.Item.{Item}
use Rattle.resolve_expressions.specs.Titles.{title}
use Rattle.resolve_expressions.specs.Typings.{Typing, meaningless, typed_over}

-- an item, and the aggregate calls met up to its end
pub record Itemized : Type 0 where
  pub item : Item
  pub calls : List AggregateCall

abbrev pub itemized : Item → List AggregateCall → Itemized
itemized item calls = record { item = item; calls = calls }

-- the column that an expression alone is, where it is one of so many columns
abbrev pub column_within : ℕ → ℕ → Option ℕ
column_within width place = if nat_lt place width then Some place else None

abbrev pub column_in : ℕ → TypedExpr-F TypedExpr → Option ℕ
column_in width (TypedExpr-F.Column place kind) = column_within width place
column_in width form = None

abbrev pub bare_column : ℕ → TypedExpr → Option ℕ
bare_column width expr = column_in width (out-TypedExpr expr)

-- the column that an item stays, where it is a bare attribute
abbrev pub source_of : {I : Type 0} → Bool → List (ColumnOf I) → TypedExpr → Option ℕ
source_of bare columns expr = if bare then bare_column (length columns) expr else None

-- an aggregate call may be null, but for a count
abbrev pub call_is_nullable : Option AggregateCall → Bool
call_is_nullable (Some call) = not (is_count call.function)
call_is_nullable None = true

abbrev pub column_is_nullable : {I : Type 0} → List (ColumnOf I) → List AggregateCall → ℕ → Option (ColumnOf I) → Bool
column_is_nullable columns calls place (Some column) = column.nullable
column_is_nullable columns calls place None = call_is_nullable (slice_get calls (place - length columns))

-- a column may be null where it says so; a literal where it is null; a count never; every other expression may be
abbrev pub form_is_nullable : {I : Type 0} → List (ColumnOf I) → List AggregateCall → TypedExpr-F TypedExpr → Bool
form_is_nullable columns calls (TypedExpr-F.Column place kind) = column_is_nullable columns calls place (slice_get columns place)
form_is_nullable columns calls (TypedExpr-F.Literal value kind) = not (is_present value)
form_is_nullable columns calls (TypedExpr-F.Call function arguments kind) = true
form_is_nullable columns calls (TypedExpr-F.Cast child kind) = true

unfoldable pub is_nullable : {I : Type 0} → List (ColumnOf I) → List AggregateCall → TypedExpr → Bool
is_nullable columns calls expr = form_is_nullable columns calls (out-TypedExpr expr)

-- the alias that an expression is
abbrev pub alias_in : Expr-F Expr → Option (Alias Expr)
alias_in (Expr-F.Alias alias) = Some alias
alias_in form = None

unfoldable pub alias_of : Expr → Option (Alias Expr)
alias_of expr = alias_in (out-Expr expr)

-- an alias has one name
abbrev pub one_name : List (List ℕ) → Checked (List ℕ)
one_name (name ∷ []) = Ok name
one_name names = refused (meaningless 6)

-- the name of the column at a place
abbrev pub name_in : {I : Type 0} → List (ColumnOf I) → ℕ → List ℕ
name_in columns place = unwrap_or (option_map (λ column. column.name) (slice_get columns place)) []

abbrev pub name_at : {I : Type 0} → List (ColumnOf I) → Checked ℕ → List ℕ
name_at columns (Ok place) = name_in columns place
name_at columns (Err stop) = []

-- ---- names where it is not known whether case counts

-- the one column that an identifier names, without a plan id
abbrev pub alone_at : Bool → List (ColumnOf ℕ) → List ℕ → Checked ℕ
alone_at exact columns identifier = attribute_at nat_eq exact columns [] identifier None

abbrev pub first_found : Checked ℕ → Checked ℕ → Checked ℕ
first_found (Ok place) other = Ok place
first_found (Err stop) other = other

-- the one column that matches in either case, or where there is not one, the one that matches exactly
unfoldable pub either_title : List (ColumnOf ℕ) → UnresolvedAttribute → List ℕ
either_title columns attribute =
    name_at columns (first_found (alone_at false columns attribute.unparsed_identifier) (alone_at true columns attribute.unparsed_identifier))

abbrev pub name_of : Expr → Scope → List ℕ
name_of expr scope = title (either_title scope.0) expr

-- ---- items

module _ {I : Type 0} (same : I → I → Bool) (exact : Bool) (columns : List (ColumnOf I)) (relations : List (Tagged I)) where
  -- the name of the column that an attribute names
  unfoldable pub attribute_title : UnresolvedAttribute → List ℕ
  attribute_title attribute = name_at columns (attribute_at same exact columns relations attribute.unparsed_identifier attribute.plan_id)

  -- an expression under a name: it has a type
  abbrev pub typed_item : List ℕ → Bool → Expr → Bool → List AggregateCall → Checked Itemized
  typed_item name bare expr allowed calls = do
    typing ← typed_over same exact columns relations expr allowed calls
    typed ← or_refused untyped typing.expr
    Ok (record {
      item = record {
        name = name;
        expr = typed;
        source = source_of bare columns typed;
        nullable = is_nullable columns typing.calls typed;
      };
      calls = typing.calls;
    })

  -- an alias gives its name, and its expression is a column of its own; else the expression gives its name, and a bare attribute stays its column
  abbrev pub item_by : Option (Alias Expr) → Expr → Bool → List AggregateCall → Checked Itemized
  item_by (Some alias) expr allowed calls = one_name alias.name >>= λ name. typed_item name false alias.expr allowed calls
  item_by None expr allowed calls = typed_item (title attribute_title expr) true expr allowed calls

  unfoldable pub item_of : Expr → Bool → List AggregateCall → Checked Itemized
  item_of expr allowed calls = item_by (alias_of expr) expr allowed calls
