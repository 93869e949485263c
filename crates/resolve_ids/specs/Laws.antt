-- Rules of relations mean the same whatever the ids of columns are: from a relation under other ids comes the same answer under those ids.
use Rattle.std.specs.Prelude.{◌≡◌, ℕ, ℤ, Bool, List, Ok}
use Rattle.table_store.specs.declared.tables.NamedTable.{NamedTable}
use Rattle.expression_messages.specs.declared.expression.Alias.{Alias}
use Rattle.expression_messages.specs.declared.expression.SortOrder.{SortOrder}
use Rattle.expression_messages.specs.declared.expression.Expr.{Expr}
use Rattle.plain_relations.specs.declared.rename_entry.RenameEntry.{RenameEntry}
use Rattle.resolve_names.specs.declared.scope.ColumnOf.{ColumnOf}
use Rattle.resolve_names.specs.Checks.{Checked, ◌>>=◌}
use Rattle.resolve_relations.specs.declared.found.FoundOf.{FoundOf}
use Rattle.resolve_relations.specs.Columns.{within_limits}
use Rattle.resolve_relations.specs.Keeping.{alias_rule, deduplicate_rule, filter_rule, limit_rule, offset_rule, sort_rule}
use Rattle.resolve_relations.specs.Making.{aggregate_rule, drop_rule, project_rule, range_rule, read_rule, renamed_rule, to_df_rule, with_columns_rule}
use Rattle.resolve_ids.specs.Renaming.{Alike, DrawnAlike, FoundAlike, TellsApart, limited, renamed, renamed_columns}

-- columns are judged alike under other ids; and answers that are alike, once they are judged, are the very same under other ids
pub record LimitsJudgeAlike (I J : Type 0) : Type 0 where
  pub within : (name : I → J) (columns : List (ColumnOf I)) → within_limits (renamed_columns name columns) ≡ within_limits columns
  pub judged : (name : I → J) (answer : Checked (FoundOf I)) (other : Checked (FoundOf J)) → Alike name answer other →
      limited other ≡ (limited answer >>= λ found. Ok (renamed name found))

-- rules that keep the columns of their input
pub record RowsKeptAlike (I J : Type 0) : Type 0 where
  pub limit : (name : I → J) (input : FoundOf I) (number : ℤ) →
      Alike name (limit_rule input number) (limit_rule (renamed name input) number)
  pub offset : (name : I → J) (input : FoundOf I) (number : ℤ) →
      Alike name (offset_rule input number) (offset_rule (renamed name input) number)
  pub alias : (name : I → J) (input : FoundOf I) (alias : List ℕ) →
      alias_rule (renamed name input) alias ≡ renamed name (alias_rule input alias)
  pub deduplicate : (name : I → J) (exact : Bool) (input : FoundOf I) (all : Bool) (names : List (List ℕ)) →
      Alike name (deduplicate_rule exact input all names) (deduplicate_rule exact (renamed name input) all names)
  pub filter : (name : I → J) (same : I → I → Bool) (same_too : J → J → Bool) → TellsApart same same_too name →
      (exact : Bool) (input : FoundOf I) (condition : Expr) →
      Alike name (filter_rule same exact input condition) (filter_rule same_too exact (renamed name input) condition)
  pub sort : (name : I → J) (same : I → I → Bool) (same_too : J → J → Bool) → TellsApart same same_too name →
      (exact : Bool) (input : FoundOf I) (orders : List (SortOrder Expr)) →
      Alike name (sort_rule same exact input orders) (sort_rule same_too exact (renamed name input) orders)

-- rules without an input
pub record LeavesAlike (I J : Type 0) : Type 0 where
  pub range : (name : I → J) (fresh : ℕ → I) (fresh_too : ℕ → J) → DrawnAlike name fresh fresh_too →
      (start end step : ℤ) → Alike name (range_rule fresh start end step) (range_rule fresh_too start end step)
  pub read : (name : I → J) (fresh : ℕ → I) (fresh_too : ℕ → J) → DrawnAlike name fresh fresh_too →
      (tables : List NamedTable) (identifier : List ℕ) →
      Alike name (read_rule fresh tables identifier) (read_rule fresh_too tables identifier)

-- rules that give columns other names
pub record NamedAlike (I J : Type 0) : Type 0 where
  pub to_df : (name : I → J) (fresh : ℕ → I) (fresh_too : ℕ → J) → DrawnAlike name fresh fresh_too →
      (input : FoundOf I) (names : List (List ℕ)) →
      Alike name (to_df_rule fresh input names) (to_df_rule fresh_too (renamed name input) names)
  pub with_columns_renamed : (name : I → J) (fresh : ℕ → I) (fresh_too : ℕ → J) → DrawnAlike name fresh fresh_too →
      (exact : Bool) (input : FoundOf I) (entries : List RenameEntry) →
      FoundAlike name (renamed_rule exact fresh input entries) (renamed_rule exact fresh_too (renamed name input) entries)

-- `drop`
pub record DroppedAlike (I J : Type 0) : Type 0 where
  pub drop : (name : I → J) (same : I → I → Bool) (same_too : J → J → Bool) → TellsApart same same_too name →
      (exact : Bool) (input : FoundOf I) (exprs : List Expr) (names : List (List ℕ)) →
      Alike name (drop_rule same exact input exprs names) (drop_rule same_too exact (renamed name input) exprs names)

-- rules that make columns of expressions
pub record ColumnsMadeAlike (I J : Type 0) : Type 0 where
  pub with_columns : (name : I → J) (fresh : ℕ → I) (fresh_too : ℕ → J) → DrawnAlike name fresh fresh_too →
      (same : I → I → Bool) (same_too : J → J → Bool) → TellsApart same same_too name →
      (exact : Bool) (input : FoundOf I) (aliases : List (Alias Expr)) →
      Alike name (with_columns_rule same exact fresh input aliases)
      (with_columns_rule same_too exact fresh_too (renamed name input) aliases)
  pub project : (name : I → J) (fresh : ℕ → I) (fresh_too : ℕ → J) → DrawnAlike name fresh fresh_too →
      (same : I → I → Bool) (same_too : J → J → Bool) → TellsApart same same_too name →
      (exact : Bool) (input : FoundOf I) (exprs : List Expr) →
      Alike name (project_rule same exact fresh input exprs) (project_rule same_too exact fresh_too (renamed name input) exprs)
  pub aggregate : (name : I → J) (fresh : ℕ → I) (fresh_too : ℕ → J) → DrawnAlike name fresh fresh_too →
      (same : I → I → Bool) (same_too : J → J → Bool) → TellsApart same same_too name →
      (exact : Bool) (input : FoundOf I) (group_type : ℤ) (groupings exprs : List Expr) →
      Alike name (aggregate_rule same exact fresh input group_type groupings exprs)
      (aggregate_rule same_too exact fresh_too (renamed name input) group_type groupings exprs)
