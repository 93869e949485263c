-- What the rules of relations keep: of relations of which something holds, as that they are sound, they make such ones.
use Rattle.std.specs.Prelude.{ℕ, ℤ, nat_eq, Bool, List, IfOk, Ok}
use Rattle.table_store.specs.declared.tables.NamedTable.{NamedTable}
use Rattle.expression_messages.specs.declared.expression.Alias.{Alias}
use Rattle.expression_messages.specs.declared.expression.Expr.{Expr}
use Rattle.expression_messages.specs.declared.expression.SortOrder.{SortOrder}
use Rattle.plain_relations.specs.declared.rename_entry.RenameEntry.{RenameEntry}
use Rattle.resolve_relations.specs.declared.found.FoundOf.{FoundOf}
use Rattle.resolve_relations.specs.Keeping.{alias_rule, deduplicate_rule, filter_rule, limit_rule, offset_rule, sort_rule}
use Rattle.resolve_relations.specs.Making.{aggregate_rule, drop_rule, plain_projection, project_rule, range_rule, read_rule, renamed_rule, to_df_rule, with_columns_rule}
use Rattle.resolve_sound.specs.Sound.{Keeps}

-- ---- whatever tells columns apart

pub record KeptRelationsAre (I : Type 0) (Is : FoundOf I → Type 0) : Type 0 where
  pub limits : (number : ℤ) → Keeps Is (λ input. limit_rule input number)
  pub offsets : (number : ℤ) → Keeps Is (λ input. offset_rule input number)
  pub aliases : (alias : List ℕ) → Keeps Is (λ input. Ok (alias_rule input alias))
  pub distinct_rows : (exact all : Bool) (names : List (List ℕ)) → Keeps Is (λ input. deduplicate_rule exact input all names)

pub record RenamedRelationsAre (I : Type 0) (Is : FoundOf I → Type 0) : Type 0 where
  pub all_renamed : (fresh : ℕ → I) (names : List (List ℕ)) → Keeps Is (λ input. to_df_rule fresh input names)
  pub some_renamed : (exact : Bool) (fresh : ℕ → I) (entries : List RenameEntry) →
      Keeps Is (λ input. Ok (renamed_rule exact fresh input entries))

pub record FewerColumnsAre (I : Type 0) (Is : FoundOf I → Type 0) : Type 0 where
  pub fewer_columns : (same : I → I → Bool) (exact : Bool) (exprs : List Expr) (names : List (List ℕ)) →
      Keeps Is (λ input. drop_rule same exact input exprs names)

-- of tables of which this holds
pub record LeavesAre (I : Type 0) (Are : List NamedTable → Type 0) (Is : FoundOf I → Type 0) : Type 0 where
  pub ranges : (fresh : ℕ → I) (start end step : ℤ) → IfOk (range_rule fresh start end step) Is
  pub tables : (fresh : ℕ → I) (tables : List NamedTable) (identifier : List ℕ) → Are tables → IfOk (read_rule fresh tables identifier) Is

-- ---- over expressions, whose columns are told apart by numbers

pub record TestedRelationsAre (Is : FoundOf ℕ → Type 0) : Type 0 where
  pub filters : (exact : Bool) (condition : Expr) → Keeps Is (λ input. filter_rule nat_eq exact input condition)
  pub sorts : (exact : Bool) (orders : List (SortOrder Expr)) → Keeps Is (λ input. sort_rule nat_eq exact input orders)

pub record ProjectionsAre (Is : FoundOf ℕ → Type 0) : Type 0 where
  pub values : (exact : Bool) (fresh : ℕ → ℕ) (exprs : List Expr) → Keeps Is (λ input. plain_projection nat_eq exact fresh input exprs)
  pub more_columns : (exact : Bool) (fresh : ℕ → ℕ) (aliases : List (Alias Expr)) →
      Keeps Is (λ input. with_columns_rule nat_eq exact fresh input aliases)

pub record AggregatesAre (Is : FoundOf ℕ → Type 0) : Type 0 where
  pub groups : (exact : Bool) (fresh : ℕ → ℕ) (group_type : ℤ) (groupings exprs : List Expr) →
      Keeps Is (λ input. aggregate_rule nat_eq exact fresh input group_type groupings exprs)
  -- a projection, with an aggregate call in it or without one
  pub projections : (exact : Bool) (fresh : ℕ → ℕ) (exprs : List Expr) → Keeps Is (λ input. project_rule nat_eq exact fresh input exprs)
