-- Whatever ids belong together: relations that differ only in such ids make relations that differ only in such ids, or have one error.
use Rattle.std.specs.Prelude.{◌≡◌, ℕ, ℤ, Bool, true, List, Option, Ok}
use Rattle.table_store.specs.declared.tables.NamedTable.{NamedTable}
use Rattle.expression_messages.specs.declared.expression.Alias.{Alias}
use Rattle.expression_messages.specs.declared.expression.SortOrder.{SortOrder}
use Rattle.expression_messages.specs.declared.expression.Expr.{Expr}
use Rattle.plain_relations.specs.declared.rename_entry.RenameEntry.{RenameEntry}
use Rattle.resolve_relations.specs.declared.found.FoundOf.{FoundOf}
use Rattle.resolve_relations.specs.Keeping.{alias_rule, deduplicate_rule, filter_rule, limit_rule, offset_rule, sort_rule}
use Rattle.resolve_relations.specs.Making.{aggregate_rule, drop_rule, project_rule, range_rule, read_rule, renamed_rule, to_df_rule, with_columns_rule}
use Rattle.resolve_joins.specs.Joins.{join_rule}
use Rattle.resolve_sets.specs.Sets.{set_rule}
use Rattle.resolve_ids.specs.Renaming.{limited}
use Rattle.resolve_ids.specs.Together.{DrawnTogether, SameAnswer, SameFound, TellsTogether, shown, with_plan_id}

-- rules that need no id
pub record RowsStaySame {I J : Type 0} (Belong : I → J → Type 0) : Type 0 where
  pub limit : (input : FoundOf I) (other : FoundOf J) → SameFound Belong input other →
      (number : ℤ) → SameAnswer Belong (limited (limit_rule input number)) (limited (limit_rule other number))
  pub offset : (input : FoundOf I) (other : FoundOf J) → SameFound Belong input other →
      (number : ℤ) → SameAnswer Belong (limited (offset_rule input number)) (limited (offset_rule other number))
  pub alias : (input : FoundOf I) (other : FoundOf J) → SameFound Belong input other →
      (alias : List ℕ) → SameAnswer Belong (limited (Ok (alias_rule input alias))) (limited (Ok (alias_rule other alias)))
  pub deduplicate : (input : FoundOf I) (other : FoundOf J) → SameFound Belong input other → (exact all : Bool) (names : List (List ℕ)) →
      SameAnswer Belong (limited (deduplicate_rule exact input all names)) (limited (deduplicate_rule exact other all names))

-- rules that look ids up
pub record TestsStaySame {I J : Type 0} (Belong : I → J → Type 0) (same : I → I → Bool) (same_too : J → J → Bool) : Type 0 where
  pub filter : (input : FoundOf I) (other : FoundOf J) → SameFound Belong input other → (exact : Bool) (condition : Expr) →
      SameAnswer Belong (limited (filter_rule same exact input condition)) (limited (filter_rule same_too exact other condition))
  pub sort : (input : FoundOf I) (other : FoundOf J) → SameFound Belong input other → (exact : Bool) (orders : List (SortOrder Expr)) →
      SameAnswer Belong (limited (sort_rule same exact input orders)) (limited (sort_rule same_too exact other orders))
  pub drop : (input : FoundOf I) (other : FoundOf J) → SameFound Belong input other →
      (exact : Bool) (exprs : List Expr) (names : List (List ℕ)) →
      SameAnswer Belong (limited (drop_rule same exact input exprs names)) (limited (drop_rule same_too exact other exprs names))

-- rules that draw ids
pub record NamesStaySame {I J : Type 0} (Belong : I → J → Type 0) (fresh : ℕ → I) (fresh_too : ℕ → J) : Type 0 where
  pub range : (start end step : ℤ) → SameAnswer Belong (limited (range_rule fresh start end step))
      (limited (range_rule fresh_too start end step))
  pub read : (tables : List NamedTable) (identifier : List ℕ) →
      SameAnswer Belong (limited (read_rule fresh tables identifier)) (limited (read_rule fresh_too tables identifier))
  pub to_df : (input : FoundOf I) (other : FoundOf J) → SameFound Belong input other → (names : List (List ℕ)) →
      SameAnswer Belong (limited (to_df_rule fresh input names)) (limited (to_df_rule fresh_too other names))
  pub with_columns_renamed : (input : FoundOf I) (other : FoundOf J) → SameFound Belong input other →
      (exact : Bool) (entries : List RenameEntry) →
      SameAnswer Belong (limited (Ok (renamed_rule exact fresh input entries))) (limited (Ok (renamed_rule exact fresh_too other entries)))
  pub set_op : (left : FoundOf I) (left_too : FoundOf J) → SameFound Belong left left_too →
      (right : FoundOf I) (right_too : FoundOf J) → SameFound Belong right right_too →
      (exact : Bool) (number : ℤ) (all named missing : Bool) →
      SameAnswer Belong (limited (set_rule exact fresh left right number all named missing))
      (limited (set_rule exact fresh_too left_too right_too number all named missing))

-- rules that look ids up and draw ids
pub record ColumnsStaySame {I J : Type 0} (Belong : I → J → Type 0) (same : I → I → Bool) (same_too : J → J → Bool) (fresh : ℕ → I)
    (fresh_too : ℕ → J) : Type 0 where
  pub with_columns : (input : FoundOf I) (other : FoundOf J) → SameFound Belong input other → (exact : Bool) (aliases : List (Alias Expr)) →
      SameAnswer Belong (limited (with_columns_rule same exact fresh input aliases))
      (limited (with_columns_rule same_too exact fresh_too other aliases))
  pub project : (input : FoundOf I) (other : FoundOf J) → SameFound Belong input other → (exact : Bool) (exprs : List Expr) →
      SameAnswer Belong (limited (project_rule same exact fresh input exprs)) (limited (project_rule same_too exact fresh_too other exprs))
  pub aggregate : (input : FoundOf I) (other : FoundOf J) → SameFound Belong input other →
      (exact : Bool) (group_type : ℤ) (groupings exprs : List Expr) →
      SameAnswer Belong (limited (aggregate_rule same exact fresh input group_type groupings exprs))
      (limited (aggregate_rule same_too exact fresh_too other group_type groupings exprs))
  pub join : (left : FoundOf I) (left_too : FoundOf J) → SameFound Belong left left_too →
      (right : FoundOf I) (right_too : FoundOf J) → SameFound Belong right right_too →
      (exact : Bool) (number : ℤ) (condition : Option Expr) (names : List (List ℕ)) →
      SameAnswer Belong (limited (join_rule same exact fresh left right number condition names))
      (limited (join_rule same_too exact fresh_too left_too right_too number condition names))

-- each rule
pub record RulesStaySame {I J : Type 0} (Belong : I → J → Type 0) : Type 0 where
  pub rows : RowsStaySame Belong
  pub tests : (same : I → I → Bool) (same_too : J → J → Bool) → TellsTogether Belong same same_too → TestsStaySame Belong same same_too
  pub names : (fresh : ℕ → I) (fresh_too : ℕ → J) → DrawnTogether Belong fresh fresh_too → NamesStaySame Belong fresh fresh_too
  pub columns : (same : I → I → Bool) (same_too : J → J → Bool) → TellsTogether Belong same same_too →
      (fresh : ℕ → I) (fresh_too : ℕ → J) → DrawnTogether Belong fresh fresh_too → ColumnsStaySame Belong same same_too fresh fresh_too

-- what one relation under two ids for each column is from above and at the end: the same with a plan id, and of one node and schema
pub record SameIsPassedOn {I J : Type 0} (Belong : I → J → Type 0) : Type 0 where
  pub tagged : (found : FoundOf I) (other : FoundOf J) → SameFound Belong found other →
      (plan : ℤ) → SameFound Belong (with_plan_id found plan) (with_plan_id other plan)
  pub node : (found : FoundOf I) (other : FoundOf J) → SameFound Belong found other → other.node ≡ found.node
  pub schema : (found : FoundOf I) (other : FoundOf J) → SameFound Belong found other → shown other ≡ shown found

-- one relation under two ids for each column is that too where more ids belong together
abbrev pub SameWhereMoreBelong : {I J : Type 0} → (I → J → Type 0) → (I → J → Type 0) → Type 0
SameWhereMoreBelong {I} {J} Belong More =
    ((a : I) (b : J) → Belong a b → More a b) → (found : FoundOf I) (other : FoundOf J) → SameFound Belong found other →
    SameFound More found other

-- ids belong together where this says so
abbrev pub By : {I J : Type 0} → (I → J → Bool) → I → J → Type 0
By belong a b = belong a b ≡ true

-- whichever ids are said to belong together
pub record StaySameUnderAnyIds (I J : Type 0) : Type 0 where
  pub rules : (belong : I → J → Bool) → RulesStaySame (By belong)
  pub passed_on : (belong : I → J → Bool) → SameIsPassedOn (By belong)
  pub more : (belong more : I → J → Bool) → SameWhereMoreBelong (By belong) (By more)
