-- Rules of relations without an input, and of those that make other columns of one.
use Rattle.std.specs.Prelude.{ℕ, ℤ, pos, ◌||◌, ◌==◌, not, nat_eq, Bool, true, false, if◌then◌else◌, List, [], ◌∷◌, ◌++◌, map, filter, find, length, slice_get, Option, Some, None, Ok, codes, unwrap_or, option_map}
use Rattle.std.specs.Fmt.{signed_decimal, decimal}
use Rattle.std.specs.List.{list_any}
use Rattle.std.specs.Ordering.{int_eq}
use Rattle.std.specs.Str.{str_eq_ignore_ascii_case}
use Rattle.cn_types.specs.declared.schema.Field.{Field}
use Rattle.cn_types.specs.declared.value.DataType.{DataType}
use Rattle.table_store.specs.declared.tables.NamedTable.{NamedTable}
use Rattle.table_store.specs.Names.{table_named}
use Rattle.expression_messages.specs.declared.expression.Alias.{Alias}
use Rattle.expression_messages.specs.declared.expression.UnresolvedAttribute.{UnresolvedAttribute}
use Rattle.expression_messages.specs.declared.expression.Expr.{Expr}
use Rattle.expression_messages.specs.declared.expression.Expr.TheOpen.{Expr-F}
use Rattle.expression_messages.specs.declared.expression.Expr.TheViews.{out-Expr}
use Rattle.plain_relations.specs.declared.rename_entry.RenameEntry.{RenameEntry}
use Rattle.plan_model.specs.declared.expression.TypedExpr.{TypedExpr}
use Rattle.plan_model.specs.declared.expression.TypedExpr.TheVariants as typed
use Rattle.plan_model.specs.declared.node.AggregateCall.{AggregateCall}
use Rattle.plan_model.specs.declared.node.Node.TheVariants as node
use Rattle.plan_model.specs.NodeTypes.{kind_of}
use Rattle.resolve_names.specs.declared.error.ErrorName.TheVariants.{BadIdentifier, BadNumber, DuplicateColumn, NumColumnsMismatch, TableOrViewNotFound, Unsupported}
use Rattle.resolve_names.specs.declared.scope.ColumnOf.{ColumnOf}
use Rattle.resolve_names.specs.declared.scope.Tagged.{Tagged}
use Rattle.resolve_names.specs.Checks.{Checked, ◌>>=◌, or_refused, refused}
use Rattle.resolve_names.specs.Matching.{name_matches}
use Rattle.resolve_names.specs.Refusals.{Refusal, refusal}
use Rattle.resolve_names.specs.Scopes.{is_named, parts_of, relation_of}
use Rattle.resolve_types.specs.Calls.{unless}
use Rattle.resolve_expressions.specs.declared.item.Item.{Item}
use Rattle.resolve_expressions.specs.Grouping.{all_checked, has_aggregate}
use Rattle.resolve_expressions.specs.Outputs.{added_items, grouped, key_items, projected}
use Rattle.resolve_expressions.specs.Stars.{column_item, items_where}
use Rattle.resolve_expressions.specs.Typings.{meaningless}
use Rattle.resolve_relations.specs.declared.dropping.Meant.{Meant}
use Rattle.resolve_relations.specs.declared.dropping.Meant.TheVariants.{Ids, Parts}
use Rattle.resolve_relations.specs.declared.found.FoundOf.{FoundOf}
use Rattle.resolve_relations.specs.Columns.{column_limit, exprs_of, fresh_column, made_columns, numbered, projection, remade}

-- an option that has no meaning, by its number
abbrev pub bad_option : ℤ → Refusal
bad_option number = refusal Unsupported (codes "option " ++ signed_decimal number)

-- two numbers of columns that should be one
abbrev pub columns_differ : ℕ → ℕ → Refusal
columns_differ left right = refusal NumColumnsMismatch (decimal left ++ codes " " ++ decimal right)

-- ---- without an input

-- `range`: its numbers in a column `id`, which is never null
unfoldable pub range_rule : {I : Type 0} → (ℕ → I) → ℤ → ℤ → ℤ → Checked (FoundOf I)
range_rule fresh start end step = do
  moves ← unless (int_eq step (pos 0)) (refusal BadNumber (signed_decimal step))
  Ok (record { node = node.Range start end step; columns = fresh_column (fresh 0) (codes "id") DataType.Long false ∷ []; relations = [] })

-- a table's name is one part, or two of which the first is `default` in either case
abbrev pub name_in : List ℕ → List (List ℕ) → Checked (List ℕ)
name_in identifier (name ∷ []) = Ok name
name_in identifier (first ∷ name ∷ []) = if str_eq_ignore_ascii_case first (codes "default") then Ok name else refused (refusal BadIdentifier identifier)
name_in identifier parts = refused (refusal BadIdentifier identifier)

unfoldable pub table_name : List ℕ → Checked (List ℕ)
table_name identifier = parts_of identifier >>= λ parts. name_in identifier parts

-- a table's columns are qualified by its own name
abbrev pub table_column : {I : Type 0} → (ℕ → I) → List ℕ → ℕ → Field → ColumnOf I
table_column fresh name number field = record { qualifier = name ∷ []; name = field.name; id = fresh number; kind = field.kind; nullable = field.nullable }

abbrev pub table_found : {I : Type 0} → (ℕ → I) → NamedTable → FoundOf I
table_found fresh table = record {
  node = node.Rows table.schema table.rows;
  columns = numbered (table_column fresh table.name) table.schema.0;
  relations = [];
}

-- `read`: the table of a name
unfoldable pub read_rule : {I : Type 0} → (ℕ → I) → List NamedTable → List ℕ → Checked (FoundOf I)
read_rule fresh tables identifier = do
  name ← table_name identifier
  table ← or_refused (refusal TableOrViewNotFound identifier) (table_named name tables)
  Ok (table_found fresh table)

-- ---- other names

-- a column under the name of its number is one of its own
abbrev pub name_at : List (List ℕ) → ℕ → List ℕ
name_at names number = unwrap_or (slice_get names number) []

abbrev pub new_column : {I : Type 0} → (ℕ → I) → List (List ℕ) → ℕ → ColumnOf I → ColumnOf I
new_column fresh names number column = fresh_column (fresh number) (name_at names number) column.kind column.nullable

-- `to_df`: all columns under new names
unfoldable pub to_df_rule : {I : Type 0} → (ℕ → I) → FoundOf I → List (List ℕ) → Checked (FoundOf I)
to_df_rule fresh input names = do
  as_many ← unless (not (nat_eq (length input.columns) (length names))) (columns_differ (length input.columns) (length names))
  Ok (remade input input.node (numbered (new_column fresh names) input.columns))

-- `with_columns_renamed`: the first entry of the column's name has its new name; a column without one stays as it is
abbrev pub new_name : Bool → List RenameEntry → List ℕ → Option (List ℕ)
new_name exact entries name = option_map (λ entry. entry.value) (find (λ entry. name_matches exact entry.key name) entries)

abbrev pub renamed_to : {I : Type 0} → I → ColumnOf I → Option (List ℕ) → ColumnOf I
renamed_to id column (Some name) = fresh_column id name column.kind column.nullable
renamed_to id column None = column

abbrev pub rename_column : {I : Type 0} → Bool → (ℕ → I) → List RenameEntry → ℕ → ColumnOf I → ColumnOf I
rename_column exact fresh entries number column = renamed_to (fresh number) column (new_name exact entries column.name)

unfoldable pub renamed_rule : {I : Type 0} → Bool → (ℕ → I) → FoundOf I → List RenameEntry → FoundOf I
renamed_rule exact fresh input entries = remade input input.node (numbered (rename_column exact fresh entries) input.columns)

-- ---- without some columns

-- the number of an expression's field in its message
abbrev pub field_number : Expr-F Expr → ℕ
field_number (Expr-F.Literal literal) = 1
field_number (Expr-F.UnresolvedAttribute attribute) = 2
field_number (Expr-F.UnresolvedFunction f) = 3
field_number (Expr-F.UnresolvedStar star) = 5
field_number (Expr-F.Alias alias) = 6
field_number (Expr-F.Cast cast) = 7
field_number (Expr-F.SortOrder order) = 9
field_number (Expr-F.Other number) = number

abbrev pub attribute_in : Expr-F Expr → Checked UnresolvedAttribute
attribute_in (Expr-F.UnresolvedAttribute attribute) = Ok attribute
attribute_in form = refused (meaningless (field_number form))

-- what an attribute means: the columns that its parts name, or with a plan id those that are columns of that relation which they name there
abbrev pub ids_named : {I : Type 0} → Bool → List (List ℕ) → List (ColumnOf I) → List I
ids_named exact parts columns = map (λ column. column.id) (filter (is_named exact parts) columns)

abbrev pub meant_in : {I : Type 0} → Bool → List (Tagged I) → List ℕ → List (List ℕ) → ℤ → Checked (Meant I)
meant_in exact relations identifier parts plan =
    relation_of identifier plan relations >>= λ relation. Ok (Ids (ids_named exact parts relation.columns))

abbrev pub meant_by : {I : Type 0} → Bool → List (Tagged I) → List ℕ → List (List ℕ) → Option ℤ → Checked (Meant I)
meant_by exact relations identifier parts None = Ok (Parts parts)
meant_by exact relations identifier parts (Some plan) = meant_in exact relations identifier parts plan

abbrev pub meant : {I : Type 0} → Bool → List (Tagged I) → Expr → Checked (Meant I)
meant exact relations expr = do
  attribute ← attribute_in (out-Expr expr)
  parts ← parts_of attribute.unparsed_identifier
  meant_by exact relations attribute.unparsed_identifier parts attribute.plan_id

-- the columns that pass a test, of the same rows
abbrev pub kept : {I : Type 0} → FoundOf I → (ColumnOf I → Bool) → FoundOf I
kept input keeps = remade input (node.Project input.node (exprs_of (items_where keeps 0 input.columns))) (filter keeps input.columns)

-- ---- names that must be different

-- the first that matches an earlier one
abbrev pub later_twin : {X : Type 0} → (X → X → Bool) → List X → List X → Option X
later_twin matches earlier [] = None
later_twin matches earlier (item ∷ items) = if list_any (matches item) earlier then Some item else later_twin matches (earlier ++ item ∷ []) items

abbrev pub no_twin : Option (List ℕ) → Checked (Unit {0})
no_twin (Some name) = refused (refusal DuplicateColumn name)
no_twin None = Ok tt

-- ---- groups

-- a key's value, as the column at its number
abbrev pub key_value : ℕ → Item → Item
key_value number item = record { name = item.name; expr = typed.Column number (kind_of item.expr); source = item.source; nullable = item.nullable }

-- these items over the groups of the keys, as columns
abbrev pub aggregation : {I : Type 0} → (ℕ → I) → FoundOf I → List TypedExpr → List AggregateCall → List Item → FoundOf I
aggregation fresh input keys calls items =
    remade input (node.Aggregate input.node keys calls (exprs_of items)) (made_columns fresh input.columns items)

-- the one type of grouping
abbrev pub grouping_only : ℤ → Checked (Unit {0})
grouping_only group_type = unless (not (int_eq group_type (pos 1))) (bad_option group_type)

abbrev pub has_name : {I : Type 0} → Bool → List ℕ → ColumnOf I → Bool
has_name exact name column = name_matches exact name column.name

abbrev pub item_name : Item → List ℕ
item_name item = item.name

abbrev pub same_name : Bool → Item → Item → Bool
same_name exact item other = name_matches exact item.name other.name

module _ {I : Type 0} (same : I → I → Bool) (exact : Bool) where
  abbrev pub is_meant : Meant I → ColumnOf I → Bool
  is_meant (Parts parts) column = is_named exact parts column
  is_meant (Ids ids) column = list_any (λ id. same id column.id) ids

  -- no expression and no name means the column
  abbrev pub is_kept : List (Meant I) → List (List ℕ) → ColumnOf I → Bool
  is_kept meant names column = not (list_any (λ one. is_meant one column) meant || list_any (λ name. name_matches exact name column.name) names)

  -- `drop`: the columns that no expression and no name means
  unfoldable pub drop_rule : FoundOf I → List Expr → List (List ℕ) → Checked (FoundOf I)
  drop_rule input exprs names = all_checked (map (meant exact input.relations) exprs) >>= λ meant. Ok (kept input (is_kept meant names))

  -- ---- `with_columns`

  -- the added item of a column's name, or the column itself
  abbrev pub replaced : List Item → ℕ → ColumnOf I → Item
  replaced added place column = unwrap_or (find (λ item. name_matches exact item.name column.name) added) (column_item place column)

  abbrev pub is_new : List (ColumnOf I) → Item → Bool
  is_new columns item = not (list_any (has_name exact item.name) columns)

  -- the columns, of which each that an added item has the name of is replaced, and the other added ones behind them
  abbrev pub with_added : List (ColumnOf I) → List Item → List Item
  with_added columns added = numbered (replaced added) columns ++ filter (is_new columns) added

  -- the number of the columns is tested before the names that were given twice
  unfoldable pub with_columns_rule : (ℕ → I) → FoundOf I → List (Alias Expr) → Checked (FoundOf I)
  with_columns_rule fresh input aliases = do
    added ← added_items same exact input.columns input.relations aliases
    counted ← column_limit (length (with_added input.columns added))
    once ← no_twin (option_map item_name (later_twin (same_name exact) [] added))
    Ok (projection fresh input (with_added input.columns added))

  -- ---- aggregates

  -- the keys' values and then the items, over the groups of the keys
  unfoldable pub aggregated : (ℕ → I) → FoundOf I → Bool → List Item → List Expr → Checked (FoundOf I)
  aggregated fresh input stars keys exprs =
      grouped same exact input.columns input.relations stars (exprs_of keys) exprs [] >>= λ found.
      Ok (aggregation fresh input (exprs_of keys) found.calls (numbered key_value keys ++ found.items))

  -- `aggregate`, of group type 1 alone
  unfoldable pub aggregate_rule : (ℕ → I) → FoundOf I → ℤ → List Expr → List Expr → Checked (FoundOf I)
  aggregate_rule fresh input group_type groupings exprs = do
    grouping ← grouping_only group_type
    keys ← key_items same exact input.columns input.relations groupings
    aggregated fresh input false keys exprs

  unfoldable pub plain_projection : (ℕ → I) → FoundOf I → List Expr → Checked (FoundOf I)
  plain_projection fresh input exprs = projected same exact input.columns input.relations exprs >>= λ items. Ok (projection fresh input items)

  -- `project`: the items' values; with an aggregate call in any of them, an aggregate without keys
  unfoldable pub project_rule : (ℕ → I) → FoundOf I → List Expr → Checked (FoundOf I)
  project_rule fresh input exprs =
      if list_any has_aggregate exprs then aggregated fresh input true [] exprs else plain_projection fresh input exprs
