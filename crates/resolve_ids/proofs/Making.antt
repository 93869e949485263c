-- Rules without an input, and those that make other columns of one, answer alike under other ids.
use Rattle.std.proofs.Common.{◌≡◌, ℕ, ℤ, pos, ◌<◌, Bool, true, false, List, [], ◌∷◌, ◌++◌, filter, length, refl, sym, ap, ◌∙◌, subst, Option, Some, None, arith, not}
use Rattle.std.specs.Prelude.{Ok, if◌then◌else◌, codes, slice_get, option_and_then, option_map, nat_eq}
use Rattle.std.specs.Fmt.{signed_decimal}
use Rattle.std.specs.Ordering.{int_eq}
use Rattle.cn_types.specs.declared.value.DataType.{DataType}
use Rattle.resolve_names.specs.declared.error.ErrorName.TheVariants.{BadNumber}
use Rattle.resolve_names.specs.Refusals.{refusal}
use Rattle.std.specs.List.{list_any}
use Rattle.std.proofs.Math.Path.{fun_ext}
use Rattle.table_store.specs.declared.tables.NamedTable.{NamedTable}
use Rattle.table_store.specs.Names.{table_named}
use Rattle.expression_messages.specs.declared.expression.Alias.{Alias}
use Rattle.expression_messages.specs.declared.expression.Expr.{Expr}
use Rattle.plain_relations.specs.declared.rename_entry.RenameEntry.{RenameEntry}
use Rattle.plan_model.specs.declared.node.Node.{Node}
use Rattle.plan_model.specs.declared.node.Node.TheVariants as node
use Rattle.plan_model.specs.NodeTypes.{kind_of}
use Rattle.resolve_names.specs.declared.scope.ColumnOf.{ColumnOf}
use Rattle.resolve_names.specs.Checks.{Checked, ◌>>=◌, or_refused}
use Rattle.resolve_types.specs.Calls.{unless}
use Rattle.resolve_expressions.specs.declared.item.Item.{Item}
use Rattle.resolve_expressions.specs.Grouping.{has_aggregate}
use Rattle.resolve_expressions.specs.Outputs.{added_items, grouped, key_items, projected}
use Rattle.resolve_relations.specs.declared.found.FoundOf.{FoundOf}
use Rattle.resolve_relations.specs.Columns.{column_limit, exprs_of, fresh_column, made_by, made_column, made_columns, numbered, projection, remade}
use Rattle.resolve_relations.specs.Making.{aggregate_rule, aggregated, columns_differ, grouping_only, has_name, is_new, item_name, key_value, later_twin, name_at, new_column, new_name, no_twin, plain_projection, project_rule, range_rule, read_rule, rename_column, renamed_rule, renamed_to, replaced, same_name, table_column, table_found, table_name, to_df_rule, with_added, with_columns_rule}
use Rattle.resolve_ids.specs.Renaming.{Alike, DrawnAlike, FoundAlike, TellsApart, renamed, renamed_column, renamed_columns}
use Rattle.resolve_ids.proofs.Expressions.{all_added_renamed, grouped_renamed, keys_renamed, projected_renamed}
use Rattle.resolve_ids.proofs.Places.{count_renamed, get_renamed}
use Rattle.resolve_ids.proofs.Searches.{any-map, numbered-made}
use Rattle.resolve_ids.proofs.Steps.{numbered_alike, renumbered_alike, same_alike, then_alike}

-- the numbers of a range, in a column with this id
abbrev numbers : {K : Type 0} → ℤ → ℤ → ℤ → K → FoundOf K
numbers start end step id = record {
  node = node.Range start end step;
  columns =
      fresh_column id (codes "id") DataType.Long false ∷ [];
  relations = [];
}

module _ {I J : Type 0} (name : I → J) (fresh : ℕ → I) (fresh_too : ℕ → J) (draws : DrawnAlike name fresh fresh_too) where
  abbrev other : ColumnOf I → ColumnOf J
  other = renamed_column name

  -- ---- without an input

  numbers_alike : (start end step : ℤ) → FoundAlike name (numbers start end step (fresh 0)) (numbers start end step (fresh_too 0))
  numbers_alike start end step = same_alike name (numbers start end step (fresh 0)) (numbers start end step (fresh_too 0))
      (ap (numbers start end step) (draws.drawn 0 (omega arith)))

  pub range_alike : (start end step : ℤ) → Alike name (range_rule fresh start end step) (range_rule fresh_too start end step)
  unfolding range_rule
  range_alike start end step =
      let moves : Checked (Unit {0}) = unless (int_eq step (pos 0)) (refusal BadNumber (signed_decimal step)) in
      then_alike name moves moves (λ u. Ok (numbers start end step (fresh 0))) (λ u. Ok (numbers start end step (fresh_too 0))) refl
      (λ u. numbers_alike start end step)

  table_alike : (table : NamedTable) → FoundAlike name (table_found fresh table) (table_found fresh_too table)
  table_alike table = numbered_alike name (node.Rows table.schema table.rows) [] (table_column fresh table.name)
      (table_column fresh_too table.name)
      (λ n field few. ap (λ (id : J). record {
        qualifier = table.name ∷ [];
        name = field.name;
        id = id;
        kind = field.kind;
        nullable =
            field.nullable;
      }) (draws.drawn n few))
      table.schema.0

  pub read_alike : (tables : List NamedTable) (identifier : List ℕ) →
      Alike name (read_rule fresh tables identifier) (read_rule fresh_too tables identifier)
  unfolding read_rule
  read_alike tables identifier =
      then_alike name (table_name identifier) (table_name identifier) _ _ refl
      (λ given. then_alike name (or_refused _ (table_named given tables)) _ _ _ refl table_alike)

  -- ---- other names

  fresh_alike : (n : ℕ) → n < 1000 → (given : List ℕ) (column : ColumnOf I) →
      fresh_column (fresh_too n) given column.kind column.nullable ≡ other (fresh_column (fresh n) given column.kind column.nullable)
  fresh_alike n few given column = ap (λ (id : J). fresh_column id given column.kind column.nullable) (draws.drawn n few)

  pub to_df_alike : (input : FoundOf I) (names : List (List ℕ)) →
      Alike name (to_df_rule fresh input names) (to_df_rule fresh_too (renamed name input) names)
  unfolding to_df_rule
  to_df_alike input names =
      then_alike name _ _ _ _
      (ap (λ (n : ℕ). unless (not (nat_eq n (length names))) (columns_differ n (length names))) (count_renamed name input.columns))
      (λ as_many. renumbered_alike name input.node input.relations (new_column fresh names) (new_column fresh_too names)
      (λ n column few. fresh_alike n few (name_at names n) column) input.columns)

  renamed_to_alike : (n : ℕ) → n < 1000 → (column : ColumnOf I) (given : Option (List ℕ)) →
      renamed_to (fresh_too n) (other column) given ≡ other (renamed_to (fresh n) column given)
  renamed_to_alike n few column (Some given) = fresh_alike n few given column
  renamed_to_alike n few column None = refl

  pub renamed_columns_alike : (exact : Bool) (input : FoundOf I) (entries : List RenameEntry) →
      FoundAlike name (renamed_rule exact fresh input entries) (renamed_rule exact fresh_too (renamed name input) entries)
  unfolding renamed_rule
  renamed_columns_alike exact input entries =
      renumbered_alike name input.node input.relations (rename_column exact fresh entries) (rename_column exact fresh_too entries)
      (λ n column few. renamed_to_alike n few column (new_name exact entries column.name)) input.columns

  -- ---- columns of items

  source_alike : (columns : List (ColumnOf I)) (source : Option ℕ) →
      option_and_then (slice_get (renamed_columns name columns)) source ≡ option_map other (option_and_then (slice_get columns) source)
  source_alike columns (Some place) = get_renamed name columns place
  source_alike columns None = refl

  made_alike : (n : ℕ) → n < 1000 → (item : Item) (source : Option (ColumnOf I)) →
      made_by (fresh_too n) item (option_map other source) ≡ other (made_by (fresh n) item source)
  made_alike n few item (Some column) = refl
  made_alike n few item None = ap (λ (id : J). fresh_column id item.name (kind_of item.expr) item.nullable) (draws.drawn n few)

  pub items_alike : (input : FoundOf I) (over : Node) (items : List Item) →
      FoundAlike name (remade input over (made_columns fresh input.columns items))
      (remade (renamed name input) over (made_columns fresh_too (renamed_columns name input.columns) items))
  items_alike input over items = numbered_alike name over input.relations (made_column fresh input.columns)
      (made_column fresh_too (renamed_columns name input.columns))
      (λ n item few. ap (made_by (fresh_too n) item) (source_alike input.columns item.source)
      ∙ made_alike n few item (option_and_then (slice_get input.columns) item.source))
      items

  pub projection_alike : (input : FoundOf I) (items : List Item) →
      FoundAlike name (projection fresh input items) (projection fresh_too (renamed name input) items)
  projection_alike input items = items_alike input (node.Project input.node (exprs_of items)) items

  module _ (same : I → I → Bool) (same_too : J → J → Bool) (tells : TellsApart same same_too name) (exact : Bool) (input : FoundOf I) where
    abbrev columns_too : List (ColumnOf J)
    columns_too = renamed_columns name input.columns

    -- ---- `with_columns`

    new_alike : (item : Item) → is_new same_too exact columns_too item ≡ is_new same exact input.columns item
    new_alike item = ap not (any-map other (has_name exact item.name) input.columns)

    added_alike : (added : List Item) → with_added same_too exact columns_too added ≡ with_added same exact input.columns added
    added_alike added =
        ap (λ (l : List Item). l ++ filter (is_new same_too exact columns_too) added)
        (numbered-made other (replaced same_too exact added) input.columns)
        ∙ ap (λ (p : Item → Bool). numbered (replaced same exact added) input.columns ++ filter p added) (fun_ext new_alike)

    with_items : (added items : List Item) → Checked (FoundOf I)
    with_items added items = do
      counted ← column_limit (length items)
      once ← no_twin (option_map item_name (later_twin (same_name exact) [] added))
      Ok (projection fresh input items)

    with_items_too : (added items : List Item) → Checked (FoundOf J)
    with_items_too added items = do
      counted ← column_limit (length items)
      once ← no_twin (option_map item_name (later_twin (same_name exact) [] added))
      Ok (projection fresh_too (renamed name input) items)

    with_alike : (added items : List Item) → Alike name (with_items added items) (with_items_too added items)
    unfolding with_items with_items_too
    with_alike added items = then_alike name (column_limit (length items)) (column_limit (length items)) _ _ refl
        (λ counted. then_alike name (no_twin (option_map item_name (later_twin (same_name exact) [] added))) _ _ _ refl
        (λ once. projection_alike input items))

    pub with_columns_alike : (aliases : List (Alias Expr)) →
        Alike name (with_columns_rule same exact fresh input aliases)
        (with_columns_rule same_too exact fresh_too (renamed name input) aliases)
    unfolding with_columns_rule with_items with_items_too
    with_columns_alike aliases = then_alike name (added_items same exact input.columns input.relations aliases) _
        (λ added. with_items added (with_added same exact input.columns added))
        (λ added. with_items_too added (with_added same_too exact columns_too added))
        (all_added_renamed name same same_too tells exact input.columns input.relations aliases)
        (λ added. subst (λ (l : List Item). Alike name (with_items added (with_added same exact input.columns added))
        (with_items_too added l)) (sym (added_alike added))
        (with_alike added (with_added same exact input.columns added)))

    -- ---- aggregates and projections

    pub aggregated_alike : (stars : Bool) (keys : List Item) (exprs : List Expr) →
        Alike name (aggregated same exact fresh input stars keys exprs)
        (aggregated same_too exact fresh_too (renamed name input) stars keys exprs)
    unfolding aggregated
    aggregated_alike stars keys exprs = then_alike name (grouped same exact input.columns input.relations stars (exprs_of keys) exprs [])
        _ _ _
        (grouped_renamed name same same_too tells exact input.columns input.relations stars (exprs_of keys) exprs [])
        (λ found. items_alike input (node.Aggregate input.node (exprs_of keys) found.calls
        (exprs_of (numbered key_value keys ++ found.items))) (numbered key_value keys ++ found.items))

    pub aggregate_alike : (group_type : ℤ) (groupings exprs : List Expr) →
        Alike name (aggregate_rule same exact fresh input group_type groupings exprs)
        (aggregate_rule same_too exact fresh_too (renamed name input) group_type groupings exprs)
    unfolding aggregate_rule
    aggregate_alike group_type groupings exprs = then_alike name (grouping_only group_type) (grouping_only group_type) _ _ refl
        (λ grouping. then_alike name (key_items same exact input.columns input.relations groupings) _ _ _
        (keys_renamed name same same_too tells exact input.columns input.relations groupings) (λ keys. aggregated_alike false keys exprs))

    plain_alike : (exprs : List Expr) → Alike name (plain_projection same exact fresh input exprs)
        (plain_projection same_too exact fresh_too (renamed name input) exprs)
    unfolding plain_projection
    plain_alike exprs = then_alike name (projected same exact input.columns input.relations exprs) _ _ _
        (projected_renamed name same same_too tells exact input.columns input.relations exprs) (projection_alike input)

    by_aggregate : (called : Bool) (exprs : List Expr) →
        Alike name (if called then aggregated same exact fresh input true [] exprs else plain_projection same exact fresh input exprs)
        (if called then aggregated same_too exact fresh_too (renamed name input)
        true [] exprs else plain_projection same_too exact fresh_too (renamed name input) exprs)
    by_aggregate true exprs = aggregated_alike true [] exprs
    by_aggregate false exprs = plain_alike exprs

    pub project_alike : (exprs : List Expr) →
        Alike name (project_rule same exact fresh input exprs) (project_rule same_too exact fresh_too (renamed name input) exprs)
    unfolding project_rule
    project_alike exprs = by_aggregate (list_any has_aggregate exprs) exprs
