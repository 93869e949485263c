-- Relations that keep the columns of their input, leaves, and relations under other names.
use Rattle.std.proofs.Common.{◌≡◌, ℕ, ℤ, ◌<◌, Bool, true, false, List, map, length, refl, sym, ap, ◌∙◌, subst, Option, Some, None}
use Rattle.std.specs.Prelude.{◌≢◌, ◌||◌, ◌==◌, pos, nat_eq, not, All, IfOk, codes, find}
use Rattle.std.specs.Ordering.{int_eq}
use Rattle.std.proofs.lemmas.Bool.Decides.{Decides-int_eq}
use Rattle.std.proofs.lemmas.List.{length-map}
use Rattle.std.proofs.lemmas.Result.{IfOk-at_ok}
use Rattle.cn_types.specs.declared.value.DataType.{DataType}
use Rattle.cn_types.specs.Fit.{Fits}
use Rattle.table_store.specs.declared.tables.NamedTable.{NamedTable}
use Rattle.table_store.specs.Names.{has_name}
use Rattle.expression_messages.specs.declared.expression.SortOrder.{SortOrder}
use Rattle.expression_messages.specs.declared.expression.Expr.{Expr}
use Rattle.plan_model.specs.declared.node.Node.{Node}
use Rattle.plan_model.specs.declared.node.Node.TheVariants as V
use Rattle.plan_model.specs.declared.node.SortKey.{SortKey}
use Rattle.plan_model.specs.NodeTypes.{types}
use Rattle.plan_model.specs.WellFormed.{IsCondition, IsOver, IsSound, IsWellFormed}
use Rattle.plan_model.proofs.NodeFacts.{made-DistinctOn, made-Filter, made-Range, made-Rows, made-Slice, made-Sort}
use Rattle.plan_model.proofs.TypesFacts.{types-DistinctOn, types-Filter, types-Range, types-Rows, types-Slice, types-Sort}
use Rattle.resolve_names.specs.declared.scope.ColumnOf.{ColumnOf}
use Rattle.resolve_names.specs.Checks.{or_refused}
use Rattle.resolve_types.specs.Calls.{unless}
use Rattle.resolve_expressions.specs.Grouping.{all_checked}
use Rattle.resolve_expressions.specs.Outputs.{condition_of, sort_key_of, sort_keys_of, value_of}
use Rattle.resolve_expressions.proofs.TypedFacts.{conditions_are_well_formed, values_are_well_formed}
use Rattle.resolve_relations.specs.declared.found.FoundOf.{FoundOf}
use Rattle.resolve_relations.specs.Columns.{numbered_from, over, remade}
use Rattle.resolve_relations.specs.Keeping.{alias_rule, deduplicate_rule, filter_rule, key_places, limit_rule, offset_rule, qualified, row_number, sort_rule}
use Rattle.resolve_relations.specs.Making.{new_column, new_name, range_rule, read_rule, rename_column, renamed_rule, renamed_to, table_column, table_name, to_df_rule}
use Rattle.resolve_sound.specs.Laws.{KeptRelationsAre, LeavesAre, RenamedRelationsAre, TestedRelationsAre}
use Rattle.resolve_sound.specs.Sound.{HaveFittingRows, IsSoundFound, kinds}
use Rattle.resolve_sound.proofs.Chains.{all_hold, either_way, found_holds, then_holds, there, unless_false}
use Rattle.resolve_sound.proofs.Places.{kinds_numbered, kinds_of_map, places_within, plain_place_within}

module _ {I : Type 0} (input : FoundOf I) (sound : IsSoundFound input) where
  -- the same columns over a node of the same types
  pub sound_over : (node : Node) → IsWellFormed node → types node ≡ types input.node → IsSoundFound (over input node)
  sound_over node formed same = record { node = formed; columns = same ∙ sound.columns }

  -- other columns of the same types over the same node
  pub sound_under : (columns : List (ColumnOf I)) → kinds columns ≡ kinds input.columns → IsSoundFound (remade input input.node columns)
  sound_under columns same = record { node = sound.node; columns = sound.columns ∙ sym same }

  sliced : (skip : ℕ) (most : Option ℕ) → IsSoundFound (over input (V.Slice input.node skip most))
  sliced skip most = sound_over (V.Slice input.node skip most) (made-Slice IsSound input.node skip most tt sound.node)
      (types-Slice input.node skip most)

  limited : (number : ℤ) → IfOk (limit_rule input number) IsSoundFound
  unfolding limit_rule
  limited number = then_holds IsSoundFound (row_number number) _ (λ rows is. sliced 0 (Some rows))

  skipped : (number : ℤ) → IfOk (offset_rule input number) IsSoundFound
  unfolding offset_rule
  skipped number = then_holds IsSoundFound (row_number number) _ (λ rows is. sliced rows None)

  aliased : (alias : List ℕ) → IsSoundFound (alias_rule input alias)
  aliased alias = sound_under (map (qualified alias) input.columns) (kinds_of_map (qualified alias) (λ c. refl) input.columns)

  -- ---- places of keys

  abbrev Within : ℕ → Type 0
  Within place = place < length input.columns

  keys_within : (exact all : Bool) (names : List (List ℕ)) → IfOk (key_places exact input.columns all names) (All Within)
  keys_within exact all names =
      either_way (All Within) (all || length names == 0) _ _ (places_within input.columns)
      (all_hold Within _ (plain_place_within exact input.columns) names)

  as_many : length input.columns ≡ length (types input.node)
  as_many = sym (ap (λ (ks : List DataType). length ks) sound.columns ∙ length-map input.columns (λ column. column.kind))

  deduplicated : (exact all : Bool) (names : List (List ℕ)) → IfOk (deduplicate_rule exact input all names) IsSoundFound
  unfolding deduplicate_rule
  deduplicated exact all names = then_holds IsSoundFound (key_places exact input.columns all names) _ (λ places is.
      sound_over (V.DistinctOn input.node places)
      (made-DistinctOn IsSound input.node places
      (subst (λ (n : ℕ). All (λ place. place < n) places) as_many (IfOk-at_ok (All Within) is (keys_within exact all names))) sound.node)
      (types-DistinctOn input.node places))

  -- ---- other names

  all_new : (fresh : ℕ → I) (names : List (List ℕ)) → IfOk (to_df_rule fresh input names) IsSoundFound
  unfolding to_df_rule
  all_new fresh names = then_holds IsSoundFound (unless (not (nat_eq (length input.columns) (length names))) _) _ (λ u is.
      sound_under (numbered_from (new_column fresh names) 0 input.columns)
      (kinds_numbered (new_column fresh names) (λ column. column.kind) (λ n column. refl) 0 input.columns))

  renamed_kind : (id : I) (column : ColumnOf I) (name : Option (List ℕ)) → (renamed_to id column name).kind ≡ column.kind
  renamed_kind id column (Some name) = refl
  renamed_kind id column None = refl

  some_new : (exact : Bool) (fresh : ℕ → I) (entries : List _) → IsSoundFound (renamed_rule exact fresh input entries)
  unfolding renamed_rule
  some_new exact fresh entries =
      sound_under (numbered_from (rename_column exact fresh entries) 0 input.columns)
      (kinds_numbered (rename_column exact fresh entries) (λ column. column.kind)
      (λ n column. renamed_kind (fresh n) column (new_name exact entries column.name)) 0 input.columns)

pub kept_are_sound : (I : Type 0) → KeptRelationsAre I IsSoundFound
kept_are_sound I = record {
  limits = λ number input sound. limited input sound number;
  offsets = λ number input sound. skipped input sound number;
  aliases = λ alias input sound. aliased input sound alias;
  distinct_rows = λ exact all names input sound. deduplicated input sound exact all names;
}

pub renamed_are_sound : (I : Type 0) → RenamedRelationsAre I IsSoundFound
renamed_are_sound I = record {
  all_renamed = λ fresh names input sound. all_new input sound fresh names;
  some_renamed = λ exact fresh entries input sound. some_new input sound exact fresh entries;
}

-- ---- leaves

moves : (step : ℤ) → int_eq step (pos 0) ≡ false → step ≢ pos 0
moves step fails is = let h : int_eq step (pos 0) ≡ true = (Decides-int_eq step (pos 0)).1 is in cc

ranged : {I : Type 0} (fresh : ℕ → I) (start end step : ℤ) → IfOk (range_rule fresh start end step) IsSoundFound
unfolding range_rule
ranged fresh start end step = then_holds IsSoundFound (unless (int_eq step (pos 0)) _) _ (λ u is. record {
  node = made-Range IsSound start end step (IfOk-at_ok (λ _. step ≢ pos 0) is
      (unless_false (step ≢ pos 0) (int_eq step (pos 0)) _ (moves step)));
  columns = types-Range start end step;
})

table_sound : {I : Type 0} (fresh : ℕ → I) (tables : List NamedTable) (identifier : List ℕ) → HaveFittingRows tables →
    IfOk (read_rule fresh tables identifier) IsSoundFound
unfolding read_rule
table_sound fresh tables identifier fit =
    then_holds IsSoundFound (table_name identifier) _ (λ name is.
    then_holds IsSoundFound (or_refused _ (find (has_name name) tables)) _ (λ table there_is. record {
      node = made-Rows IsSound table.schema table.rows
          (IfOk-at_ok HasFittingRows there_is (there HasFittingRows _ (find (has_name name) tables)
          (found_holds HasFittingRows (has_name name) tables fit)));
      columns = types-Rows table.schema table.rows
          ∙ sym (kinds_numbered (table_column fresh table.name) (λ field. field.kind) (λ n field. refl) 0 table.schema.0);
    }))
  where
    HasFittingRows : NamedTable → Type 0
    HasFittingRows table = All (Fits table.schema) table.rows

pub leaves_are_sound : (I : Type 0) → LeavesAre I HaveFittingRows IsSoundFound
leaves_are_sound I = record { ranges = ranged; tables = table_sound }

-- ---- conditions and keys of a sort

module _ (exact : Bool) (input : FoundOf ℕ) (sound : IsSoundFound input) where
  filtered : (condition : Expr) → IfOk (filter_rule nat_eq exact input condition) IsSoundFound
  unfolding filter_rule
  filtered condition = then_holds IsSoundFound (condition_of nat_eq exact input.columns input.relations (codes "filter") condition) _
      (λ test is.
      sound_over input sound (V.Filter input.node test)
      (made-Filter IsSound input.node test
      (subst (λ (ks : List DataType). IsCondition ks test) (sym sound.columns)
      (conditions_are_well_formed exact input.columns input.relations (codes "filter") condition test is)) sound.node)
      (types-Filter input.node test))

  abbrev KeyOver : List DataType → SortKey → Type 0
  KeyOver columns key = IsOver columns key.expr

  key_over : (order : SortOrder Expr) → IfOk (sort_key_of nat_eq exact input.columns input.relations order) (KeyOver (kinds input.columns))
  unfolding sort_key_of
  key_over order = then_holds (KeyOver (kinds input.columns)) (value_of nat_eq exact input.columns input.relations order.child) _
      (λ expr is.
      values_are_well_formed exact input.columns input.relations order.child expr is)

  sorted : (orders : List (SortOrder Expr)) → IfOk (sort_rule nat_eq exact input orders) IsSoundFound
  unfolding sort_rule sort_keys_of
  sorted orders = then_holds IsSoundFound (all_checked (map (sort_key_of nat_eq exact input.columns input.relations) orders)) _ (λ keys are.
      sound_over input sound (V.Sort input.node keys)
      (made-Sort IsSound input.node keys
      (subst (λ (ks : List DataType). All (KeyOver ks) keys) (sym sound.columns)
      (IfOk-at_ok (All (KeyOver (kinds input.columns))) are (all_hold (KeyOver (kinds input.columns)) _ key_over orders))) sound.node)
      (types-Sort input.node keys))

pub tested_are_sound : TestedRelationsAre IsSoundFound
tested_are_sound = record {
  filters = λ exact condition input sound. filtered exact input sound condition;
  sorts = λ exact orders input sound. sorted exact input sound orders;
}
