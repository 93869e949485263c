-- Expressions have the same types, names and errors under other ids; so have items, keys, conditions and groups, in which no id stands.
use Rattle.std.proofs.Common.{◌≡◌, ℕ, ◌-◌, Bool, true, false, List, [], ◌∷◌, ◌++◌, length, refl, ap, ◌∙◌, Option, Some, None}
use Rattle.std.specs.Prelude.{Ok, Err, if◌then◌else◌, slice_get, option_map, unwrap_or}
use Rattle.std.proofs.Math.Path.{fun_ext}
use Rattle.cn_types.specs.declared.value.DataType.{DataType}
use Rattle.expression_messages.specs.declared.expression.Alias.{Alias}
use Rattle.expression_messages.specs.declared.expression.SortOrder.{SortOrder}
use Rattle.expression_messages.specs.declared.expression.UnresolvedAttribute.{UnresolvedAttribute}
use Rattle.expression_messages.specs.declared.expression.UnresolvedStar.{UnresolvedStar}
use Rattle.expression_messages.specs.declared.expression.Expr.{Expr}
use Rattle.expression_messages.specs.declared.expression.Expr.TheOpen as E
use Rattle.expression_messages.specs.declared.expression.Expr.TheOpen.{Expr-F}
use Rattle.expression_messages.specs.declared.expression.Expr.TheFolds.{fold-Expr}
use Rattle.plan_model.specs.declared.expression.TypedExpr.{TypedExpr}
use Rattle.plan_model.specs.declared.expression.TypedExpr.TheOpen as O
use Rattle.plan_model.specs.declared.expression.TypedExpr.TheOpen.{TypedExpr-F}
use Rattle.plan_model.specs.declared.expression.TypedExpr.TheViews.{out-TypedExpr}
use Rattle.plan_model.specs.declared.expression.TypedExpr.TheVariants as typed
use Rattle.plan_model.specs.declared.expression.TypedExpr.TheFolds.{fold-TypedExpr}
use Rattle.plan_model.specs.declared.node.AggregateCall.{AggregateCall}
use Rattle.resolve_names.specs.declared.scope.ColumnOf.{ColumnOf}
use Rattle.resolve_names.specs.declared.scope.Tagged.{Tagged}
use Rattle.resolve_names.specs.Checks.{Checked, ◌>>=◌, or_refused}
use Rattle.resolve_names.specs.Scopes.{attribute_at}
use Rattle.resolve_functions.specs.Arguments.{untyped}
use Rattle.resolve_expressions.specs.declared.item.Item.{Item}
use Rattle.resolve_expressions.specs.Grouping.{Regrouped, by_key, regrouped, regrouped_item, regrouped_step, ungrouped}
use Rattle.resolve_expressions.specs.Items.{Itemized, alias_of, attribute_title, bare_column, call_is_nullable, column_is_nullable, form_is_nullable, is_nullable, item_by, item_of, name_at, name_in, one_name, source_of, typed_item}
use Rattle.resolve_expressions.specs.Outputs.{Grouped, added_item, added_items, boolean_only, condition_of, group, grouped, grouped_by, grouped_item, grouped_star, has_nulls_last, is_descending, key_items, plain_item, projected, projected_by, regrouped_items, sort_key_of, sort_keys_of, star_meant, star_of, value_of}
use Rattle.resolve_expressions.specs.Same.{same_expr}
use Rattle.resolve_expressions.specs.Stars.{star_items}
use Rattle.resolve_expressions.specs.Titles.{title}
use Rattle.resolve_expressions.specs.Typings.{Standing, Typing, function_typed, leaf, some_typed, standing, standing_step, typed_over}
use Rattle.resolve_ids.specs.Renaming.{TellsApart, renamed_column, renamed_columns, renamed_relations}
use Rattle.resolve_ids.proofs.Places.{attribute_place, attribute_typed, count_renamed, get_renamed, star_renamed}
use Rattle.resolve_ids.proofs.Searches.{all-same, bind-same}

-- ---- what reads the columns alone

module _ {I J : Type 0} (name : I → J) (columns : List (ColumnOf I)) where
  abbrev other : ColumnOf I → ColumnOf J
  other = renamed_column name

  abbrev columns_too : List (ColumnOf J)
  columns_too = renamed_columns name columns

  source_renamed : (bare : Bool) (expr : TypedExpr) → source_of bare columns_too expr ≡ source_of bare columns expr
  source_renamed bare expr = ap (λ (n : ℕ). if bare then bare_column n expr else None) (count_renamed name columns)

  column_nullable : (calls : List AggregateCall) (place : ℕ) (column : Option (ColumnOf I)) →
      column_is_nullable columns_too calls place (option_map other column) ≡ column_is_nullable columns calls place column
  column_nullable calls place (Some column) = refl
  column_nullable calls place None = ap (λ (n : ℕ). call_is_nullable (slice_get calls (place - n))) (count_renamed name columns)

  form_nullable : (calls : List AggregateCall) (form : TypedExpr-F TypedExpr) →
      form_is_nullable columns_too calls form ≡ form_is_nullable columns calls form
  form_nullable calls (O.Column place kind) =
      ap (λ (c : Option (ColumnOf J)). column_is_nullable columns_too calls place c) (get_renamed name columns place)
      ∙ column_nullable calls place (slice_get columns place)
  form_nullable calls (O.Literal value kind) = refl
  form_nullable calls (O.Call function arguments kind) = refl
  form_nullable calls (O.Cast child kind) = refl

  nullable_renamed : (calls : List AggregateCall) (expr : TypedExpr) → is_nullable columns_too calls expr ≡ is_nullable columns calls expr
  unfolding is_nullable
  nullable_renamed calls expr = form_nullable calls (out-TypedExpr expr)

  name_of : (column : Option (ColumnOf I)) →
      unwrap_or (option_map (λ c. c.name) (option_map other column)) [] ≡ unwrap_or (option_map (λ c. c.name) column) []
  name_of (Some column) = refl
  name_of None = refl

  name_place : (place : ℕ) → name_in columns_too place ≡ name_in columns place
  name_place place =
      ap (λ (c : Option (ColumnOf J)). unwrap_or (option_map (λ c. c.name) c) []) (get_renamed name columns place)
      ∙ name_of (slice_get columns place)

  name_found : (place : Checked ℕ) → name_at columns_too place ≡ name_at columns place
  name_found (Ok place) = name_place place
  name_found (Err stop) = refl

  -- ---- groups

  ungrouped_renamed : (column : Option (ColumnOf I)) (width keys place : ℕ) (kind : DataType) →
      ungrouped (option_map other column) width keys place kind ≡ ungrouped column width keys place kind
  ungrouped_renamed (Some column) width keys place kind = refl
  ungrouped_renamed None width keys place kind = refl

  regroup_form : (keys : List TypedExpr) (form : TypedExpr-F Regrouped) →
      regrouped_step same_expr columns_too keys form ≡ regrouped_step same_expr columns keys form
  regroup_form keys (O.Column place kind) = ap (by_key same_expr columns_too keys (typed.Column place kind))
      (ap (λ (c : Option (ColumnOf J)). ungrouped c (length columns_too) (length keys) place kind) (get_renamed name columns place)
      ∙ ungrouped_renamed (slice_get columns place) (length columns_too) (length keys) place kind
      ∙ ap (λ (n : ℕ). ungrouped (slice_get columns place) n (length keys) place kind) (count_renamed name columns))
  regroup_form keys (O.Literal value kind) = refl
  regroup_form keys (O.Call function arguments kind) = refl
  regroup_form keys (O.Cast child kind) = refl

  regroup_renamed : (keys : List TypedExpr) (expr : TypedExpr) →
      regrouped same_expr columns_too keys expr ≡ regrouped same_expr columns keys expr
  unfolding regrouped
  regroup_renamed keys expr = ap (λ (step : TypedExpr-F Regrouped → Regrouped). (fold-TypedExpr Regrouped step expr).grouped)
      (fun_ext (regroup_form keys))

  regroup_item : (keys : List TypedExpr) (item : Item) →
      regrouped_item same_expr columns_too keys item ≡ regrouped_item same_expr columns keys item
  regroup_item keys item =
      ap (λ (o : Checked TypedExpr). o >>= λ expr.
      Ok (record { name = item.name; expr = expr; source = item.source; nullable = item.nullable }))
      (regroup_renamed keys item.expr)

  pub regroup_items : (keys : List TypedExpr) (items : List Item) →
      regrouped_items columns_too keys items ≡ regrouped_items columns keys items
  regroup_items keys items = all-same (regrouped_item same_expr columns_too keys) (regrouped_item same_expr columns keys)
      (regroup_item keys) items

-- ---- what reads the relations with plan ids too

module _ {I J : Type 0} (name : I → J) (same : I → I → Bool) (same_too : J → J → Bool) (tells : TellsApart same same_too name)
    (exact : Bool) (columns : List (ColumnOf I)) (relations : List (Tagged I)) where
  abbrev scope_too : List (ColumnOf J)
  scope_too = renamed_columns name columns

  abbrev relations_too : List (Tagged J)
  relations_too = renamed_relations name relations

  standing_form : (form : Expr-F Standing) →
      standing_step same_too exact scope_too relations_too form ≡ standing_step same exact columns relations form
  standing_form (E.Literal literal) = refl
  standing_form (E.UnresolvedAttribute attribute) =
      ap (λ (o : Checked TypedExpr). leaf (some_typed o)) (attribute_typed name same same_too tells exact columns relations attribute)
  standing_form (E.UnresolvedFunction f) = ap (λ (n : ℕ). record { star = false; typed = function_typed n f }) (count_renamed name columns)
  standing_form (E.UnresolvedStar star) = refl
  standing_form (E.Alias alias) = refl
  standing_form (E.Cast cast) = refl
  standing_form (E.SortOrder order) = refl
  standing_form (E.Other number) = refl

  standing_renamed : (expr : Expr) → standing same_too exact scope_too relations_too expr ≡ standing same exact columns relations expr
  unfolding standing
  standing_renamed expr = ap (λ (step : Expr-F Standing → Standing). fold-Expr Standing step expr) (fun_ext standing_form)

  pub typed_renamed : (expr : Expr) (allowed : Bool) (calls : List AggregateCall) →
      typed_over same_too exact scope_too relations_too expr allowed calls ≡ typed_over same exact columns relations expr allowed calls
  unfolding typed_over
  typed_renamed expr allowed calls = ap (λ (s : Standing). s.typed allowed calls) (standing_renamed expr)

  -- ---- items

  title_renamed : (attribute : UnresolvedAttribute) →
      attribute_title same_too exact scope_too relations_too attribute ≡ attribute_title same exact columns relations attribute
  unfolding attribute_title
  title_renamed attribute =
      ap (name_at scope_too) (attribute_place name same same_too tells exact columns relations attribute.unparsed_identifier
      attribute.plan_id)
      ∙ name_found name columns (attribute_at same exact columns relations attribute.unparsed_identifier attribute.plan_id)

  titles_renamed : attribute_title same_too exact scope_too relations_too ≡ attribute_title same exact columns relations
  titles_renamed = fun_ext title_renamed

  itemize : (naming : List ℕ) (bare : Bool) → (TypedExpr → Option ℕ) → (List AggregateCall → TypedExpr → Bool) → Typing → Checked Itemized
  itemize naming bare source nullable typing = do
    typed ← or_refused untyped typing.expr
    Ok (record {
      item = record { name = naming; expr = typed; source = source typed; nullable = nullable typing.calls typed };
      calls = typing.calls;
    })

  typed_item_renamed : (naming : List ℕ) (bare : Bool) (expr : Expr) (allowed : Bool) (calls : List AggregateCall) →
      typed_item same_too exact scope_too relations_too naming bare expr allowed calls
      ≡ typed_item same exact columns relations naming bare expr allowed calls
  unfolding itemize
  typed_item_renamed naming bare expr allowed calls =
      ap (λ (o : Checked Typing). o >>= itemize naming bare (source_of bare scope_too) (is_nullable scope_too))
      (typed_renamed expr allowed calls)
      ∙ ap (λ (s : TypedExpr → Option ℕ). typed_over same exact columns relations expr allowed calls
      >>= itemize naming bare s (is_nullable scope_too)) (fun_ext (source_renamed name columns bare))
      ∙ ap (λ (n : List AggregateCall → TypedExpr → Bool). typed_over same exact columns relations expr allowed calls
      >>= itemize naming bare (source_of bare columns) n)
      (fun_ext (λ calls. fun_ext (nullable_renamed name columns calls)))

  item_named : (alias : Option (Alias Expr)) (expr : Expr) (allowed : Bool) (calls : List AggregateCall) →
      item_by same_too exact scope_too relations_too alias expr allowed calls
      ≡ item_by same exact columns relations alias expr allowed calls
  item_named (Some alias) expr allowed calls = bind-same (one_name alias.name)
      (λ naming. typed_item same_too exact scope_too relations_too naming false alias.expr allowed calls)
      (λ naming. typed_item same exact columns relations naming false alias.expr allowed calls)
      (λ naming. typed_item_renamed naming false alias.expr allowed calls)
  item_named None expr allowed calls =
      ap (λ (t : UnresolvedAttribute → List ℕ). typed_item same_too exact scope_too relations_too (title t expr) true expr allowed calls)
      titles_renamed
      ∙ typed_item_renamed (title (attribute_title same exact columns relations) expr) true expr allowed calls

  item_renamed : (expr : Expr) (allowed : Bool) (calls : List AggregateCall) →
      item_of same_too exact scope_too relations_too expr allowed calls ≡ item_of same exact columns relations expr allowed calls
  unfolding item_of
  item_renamed expr allowed calls = item_named (alias_of expr) expr allowed calls

  -- ---- values

  value_renamed : (expr : Expr) → value_of same_too exact scope_too relations_too expr ≡ value_of same exact columns relations expr
  unfolding value_of
  value_renamed expr = ap (λ (o : Checked Typing). o >>= λ typing. or_refused untyped typing.expr) (typed_renamed expr false [])

  pub condition_renamed : (what : List ℕ) (expr : Expr) →
      condition_of same_too exact scope_too relations_too what expr ≡ condition_of same exact columns relations what expr
  unfolding condition_of
  condition_renamed what expr = ap (λ (o : Checked TypedExpr). o >>= boolean_only what) (value_renamed expr)

  sort_key_renamed : (order : SortOrder Expr) →
      sort_key_of same_too exact scope_too relations_too order ≡ sort_key_of same exact columns relations order
  unfolding sort_key_of
  sort_key_renamed order =
      ap (λ (o : Checked TypedExpr). o >>= λ expr. Ok (record {
        expr = expr;
        descending = is_descending order.direction;
        nulls_last = has_nulls_last order.direction order.null_ordering;
      }))
      (value_renamed order.child)

  pub sort_keys_renamed : (orders : List (SortOrder Expr)) →
      sort_keys_of same_too exact scope_too relations_too orders ≡ sort_keys_of same exact columns relations orders
  unfolding sort_keys_of
  sort_keys_renamed orders = all-same (sort_key_of same_too exact scope_too relations_too) (sort_key_of same exact columns relations)
      sort_key_renamed orders

  plain_renamed : (expr : Expr) → plain_item same_too exact scope_too relations_too expr ≡ plain_item same exact columns relations expr
  unfolding plain_item
  plain_renamed expr = ap (λ (o : Checked Itemized). o >>= λ i. Ok i.item) (item_renamed expr false [])

  pub keys_renamed : (exprs : List Expr) → key_items same_too exact scope_too relations_too exprs
      ≡ key_items same exact columns relations exprs
  unfolding key_items
  keys_renamed exprs = all-same (plain_item same_too exact scope_too relations_too) (plain_item same exact columns relations)
      plain_renamed exprs

  added_renamed : (alias : Alias Expr) → added_item same_too exact scope_too relations_too alias
      ≡ added_item same exact columns relations alias
  unfolding added_item
  added_renamed alias = ap (λ (o : Checked Itemized). o >>= λ i. Ok i.item) (item_named (Some alias) alias.expr false [])

  pub all_added_renamed : (aliases : List (Alias Expr)) →
      added_items same_too exact scope_too relations_too aliases ≡ added_items same exact columns relations aliases
  unfolding added_items
  all_added_renamed aliases = all-same (added_item same_too exact scope_too relations_too) (added_item same exact columns relations)
      added_renamed aliases

  -- ---- projections

  projected_part : (star : Option UnresolvedStar) (expr : Expr) →
      projected_by same_too exact scope_too relations_too star expr ≡ projected_by same exact columns relations star expr
  projected_part (Some star) expr = star_renamed name exact columns star.unparsed_target
  projected_part None expr = ap (λ (o : Checked Item). o >>= λ item. Ok (item ∷ [])) (plain_renamed expr)

  pub projected_renamed : (exprs : List Expr) →
      projected same_too exact scope_too relations_too exprs ≡ projected same exact columns relations exprs
  unfolding projected
  projected_renamed [] = refl
  projected_renamed (expr ∷ exprs) =
      ap (λ (o : Checked (List Item)). o >>= λ first. projected same_too exact scope_too relations_too exprs >>= λ rest. Ok (first ++ rest))
      (projected_part (star_of expr) expr)
      ∙ ap (λ (o : Checked (List Item)). projected_by same exact columns relations (star_of expr) expr >>= λ first. o
      >>= λ rest. Ok (first ++ rest)) (projected_renamed exprs)

  -- ---- items of an aggregate

  group_item : (keys : List TypedExpr) (expr : Expr) (calls : List AggregateCall) →
      grouped_item same_too exact scope_too relations_too keys expr calls ≡ grouped_item same exact columns relations keys expr calls
  unfolding grouped_item
  group_item keys expr calls =
      ap (λ (o : Checked Itemized). o >>= λ i. regrouped_items scope_too keys (i.item ∷ []) >>= λ items. Ok (group items i.calls))
      (item_renamed expr true calls)
      ∙ bind-same (item_of same exact columns relations expr true calls) _ _
      (λ i. ap (λ (o : Checked (List Item)). o >>= λ items. Ok (group items i.calls)) (regroup_items name columns keys (i.item ∷ [])))

  group_star : (keys : List TypedExpr) (star : UnresolvedStar) (calls : List AggregateCall) →
      grouped_star same_too exact scope_too relations_too keys star calls ≡ grouped_star same exact columns relations keys star calls
  unfolding grouped_star
  group_star keys star calls =
      ap (λ (o : Checked (List Item)). o >>= λ meant. regrouped_items scope_too keys meant >>= λ items. Ok (group items calls))
      (star_renamed name exact columns star.unparsed_target)
      ∙ bind-same (star_items exact columns star.unparsed_target) _ _
      (λ meant. ap (λ (o : Checked (List Item)). o >>= λ items. Ok (group items calls)) (regroup_items name columns keys meant))

  group_part : (star : Option UnresolvedStar) (keys : List TypedExpr) (expr : Expr) (calls : List AggregateCall) →
      grouped_by same_too exact scope_too relations_too star keys expr calls ≡ grouped_by same exact columns relations star keys expr calls
  group_part (Some star) keys expr calls = group_star keys star calls
  group_part None keys expr calls = group_item keys expr calls

  pub grouped_renamed : (stars : Bool) (keys : List TypedExpr) (exprs : List Expr) (calls : List AggregateCall) →
      grouped same_too exact scope_too relations_too stars keys exprs calls ≡ grouped same exact columns relations stars keys exprs calls
  unfolding grouped
  grouped_renamed stars keys [] calls = refl
  grouped_renamed stars keys (expr ∷ exprs) calls =
      ap (λ (o : Checked Grouped). o >>= λ first. grouped same_too exact scope_too relations_too stars keys exprs first.calls
      >>= λ rest. Ok (group (first.items ++ rest.items) rest.calls))
      (group_part (star_meant stars expr) keys expr calls)
      ∙ bind-same (grouped_by same exact columns relations (star_meant stars expr) keys expr calls) _ _
      (λ first. ap (λ (o : Checked Grouped). o >>= λ rest. Ok (group (first.items ++ rest.items) rest.calls))
      (grouped_renamed stars keys exprs first.calls))
