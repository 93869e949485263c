-- Which relations give no null but where their columns may have one: those of one input, without groups.
use Rattle.std.proofs.Common.{◌≡◌, ℕ, ℤ, Bool, true, false, cond, List, [], ◌∷◌, ◌++◌, map, length, refl, sym, ap, subst, suc, Option, Some, None}
use Rattle.std.specs.Prelude.{pos, nat_eq, not, All, IfOk, Ok, Err, codes, find, filter, option_map}
use Rattle.std.specs.List.{AllByRecursion}
use Rattle.std.specs.Ordering.{int_eq}
use Rattle.std.proofs.lemmas.List.Elements.{All-from_recursion, recursion_from_All}
use Rattle.std.proofs.lemmas.Result.{IfOk-at_ok}
use Rattle.cn_types.specs.declared.row.Row.{Row}
use Rattle.table_store.specs.declared.tables.NamedTable.{NamedTable}
use Rattle.table_store.specs.Names.{has_name}
use Rattle.expression_messages.specs.declared.expression.Alias.{Alias}
use Rattle.expression_messages.specs.declared.expression.SortOrder.{SortOrder}
use Rattle.expression_messages.specs.declared.expression.Expr.{Expr}
use Rattle.plan_model.specs.declared.node.Node.TheVariants as V
use Rattle.plan_model.specs.Selections.{image}
use Rattle.resolve_names.specs.declared.scope.ColumnOf.{ColumnOf}
use Rattle.resolve_names.specs.Checks.{Checked, or_refused}
use Rattle.resolve_types.specs.Calls.{unless}
use Rattle.resolve_expressions.specs.declared.item.Item.{Item}
use Rattle.resolve_expressions.specs.Grouping.{all_checked}
use Rattle.resolve_expressions.specs.Outputs.{added_items, condition_of, projected, sort_key_of, sort_keys_of}
use Rattle.resolve_expressions.specs.Stars.{item_where, items_where}
use Rattle.resolve_relations.specs.declared.found.FoundOf.{FoundOf}
use Rattle.resolve_relations.specs.Columns.{column_limit, exprs_of, numbered_from, projection, remade}
use Rattle.resolve_relations.specs.Keeping.{alias_rule, deduplicate_rule, filter_rule, key_places, limit_rule, offset_rule, qualified, row_number, sort_rule}
use Rattle.resolve_relations.specs.Making.{drop_rule, is_kept, item_name, kept, later_twin, meant, new_column, new_name, no_twin, plain_projection, range_rule, read_rule, rename_column, renamed_rule, renamed_to, same_name, table_column, table_name, to_df_rule, with_added, with_columns_rule}
use Rattle.resolve_sound.specs.Laws.{FewerColumnsAre, KeptRelationsAre, LeavesAre, ProjectionsAre, RenamedRelationsAre, TestedRelationsAre}
use Rattle.resolve_sound.specs.Sound.{FitsNulls, HaveSafeRows, IsNullSafe, IsSoundFound, flags, schema_flags}
use Rattle.resolve_sound.proofs.Chains.{found_holds, then_holds, there}
use Rattle.resolve_sound.proofs.KeptRelations.{kept_are_sound, leaves_are_sound, renamed_are_sound, tested_are_sound}
use Rattle.resolve_sound.proofs.MadeRelations.{fewer_sound, projections_sound, with_added_hold}
use Rattle.resolve_sound.proofs.NodeRows.{Each, each_distinct, each_image, each_number, each_row, each_selected, each_sliced, each_sorted}
use Rattle.resolve_sound.proofs.NullFacts.{Gives, flags_numbered, flags_of_made, flags_of_map, image_may, item_flags}
use Rattle.resolve_sound.proofs.NullItems.{columns_give, typed_give}
use Rattle.resolve_sound.proofs.PlainItems.{all_added_hold, projected_hold}
use Rattle.resolve_sound.proofs.Places.{all_passing}

-- the rows of the relation have no other nulls
abbrev pub TellsNulls : {I : Type 0} → FoundOf I → Type 0
TellsNulls found = Each found.node (FitsNulls (flags found.columns))

pub told : {I : Type 0} (found : FoundOf I) → IsNullSafe found → TellsNulls found
told found safe rows allowed = recursion_from_All (FitsNulls (flags found.columns)) rows (safe.nulls rows allowed)

-- an answer that is sound and tells its nulls
pub safe_answer : {I : Type 0} (answer : Checked (FoundOf I)) → IfOk answer IsSoundFound → IfOk answer TellsNulls → IfOk answer IsNullSafe
safe_answer (Ok found) sound tells = record {
  sound = sound;
  nulls =
      λ rows allowed. All-from_recursion (FitsNulls (flags found.columns)) rows (tells rows allowed);
}
safe_answer (Err stop) sound tells = tt

module _ {I : Type 0} (input : FoundOf I) (tells : TellsNulls input) where
  abbrev Fit : Row → Type 0
  Fit = FitsNulls (flags input.columns)

  limited : (number : ℤ) → IfOk (limit_rule input number) TellsNulls
  unfolding limit_rule
  limited number = then_holds TellsNulls (row_number number) _ (λ rows is. each_sliced Fit input.node tells 0 (Some rows))

  skipped : (number : ℤ) → IfOk (offset_rule input number) TellsNulls
  unfolding offset_rule
  skipped number = then_holds TellsNulls (row_number number) _ (λ rows is. each_sliced Fit input.node tells rows None)

  deduplicated : (exact all : Bool) (names : List (List ℕ)) → IfOk (deduplicate_rule exact input all names) TellsNulls
  unfolding deduplicate_rule
  deduplicated exact all names = then_holds TellsNulls (key_places exact input.columns all names) _
      (λ places is. each_distinct Fit input.node tells places)

  -- other columns that may be null where the input's may
  under : (columns : List (ColumnOf I)) → flags columns ≡ flags input.columns → TellsNulls (remade input input.node columns)
  under columns same rows allowed = subst (λ (fs : List Bool). AllByRecursion (FitsNulls fs) rows) (sym same) (tells rows allowed)

  aliased : (alias : List ℕ) → TellsNulls (alias_rule input alias)
  aliased alias = under (map (qualified alias) input.columns) (flags_of_map (qualified alias) (λ c. refl) input.columns)

  all_new : (fresh : ℕ → I) (names : List (List ℕ)) → IfOk (to_df_rule fresh input names) TellsNulls
  unfolding to_df_rule
  all_new fresh names = then_holds TellsNulls (unless (not (nat_eq (length input.columns) (length names))) _) _ (λ u is.
      under (numbered_from (new_column fresh names) 0 input.columns)
      (flags_numbered (new_column fresh names) (λ column. column.nullable) (λ n column. refl) 0 input.columns))

  renamed_flag : (id : I) (column : ColumnOf I) (name : Option (List ℕ)) → (renamed_to id column name).nullable ≡ column.nullable
  renamed_flag id column (Some name) = refl
  renamed_flag id column None = refl

  some_new : (exact : Bool) (fresh : ℕ → I) (entries : List _) → TellsNulls (renamed_rule exact fresh input entries)
  unfolding renamed_rule
  some_new exact fresh entries =
      under (numbered_from (rename_column exact fresh entries) 0 input.columns)
      (flags_numbered (rename_column exact fresh entries) (λ column. column.nullable)
      (λ n column. renamed_flag (fresh n) column (new_name exact entries column.name)) 0 input.columns)

  -- ---- items over the input

  imaged : (columns : List (ColumnOf I)) (items : List Item) → flags columns ≡ item_flags items → All (Gives input.columns) items →
      Each (V.Project input.node (exprs_of items)) (FitsNulls (flags columns))
  imaged columns items same give = each_image Fit (FitsNulls (flags columns)) input.node tells (exprs_of items) (λ row fits.
      subst (λ (fs : List Bool). FitsNulls fs (image (exprs_of items) row)) (sym same)
      (image_may (Gives input.columns) row (λ item gives. gives row fits) items give))

  pub projection_tells : (fresh : ℕ → I) (items : List Item) → All (Gives input.columns) items → TellsNulls (projection fresh input items)
  projection_tells fresh items give = imaged (projection fresh input items).columns items (flags_of_made fresh input.columns items) give

  one_flag : (n : ℕ) (c : ColumnOf I) (cs : List (ColumnOf I)) (items : List Item) → flags cs ≡ item_flags items → (b : Bool) →
      flags (cond b (c ∷ cs) cs) ≡ item_flags (item_where b n c ++ items)
  one_flag n c cs items rest true = ap (λ (fs : List Bool). c.nullable ∷ fs) rest
  one_flag n c cs items rest false = rest

  flags_of_passing : (passes : ColumnOf I → Bool) (n : ℕ) (columns : List (ColumnOf I)) →
      flags (filter passes columns) ≡ item_flags (items_where passes n columns)
  flags_of_passing passes n [] = refl
  flags_of_passing passes n (c ∷ cs) = one_flag n c (filter passes cs) (items_where passes (suc n) cs) (flags_of_passing passes (suc n) cs)
      (passes c)

  kept_tells : (keeps : ColumnOf I → Bool) → TellsNulls (kept input keeps)
  kept_tells keeps = imaged (filter keeps input.columns) (items_where keeps 0 input.columns) (flags_of_passing keeps 0 input.columns)
      (all_passing (Gives input.columns) keeps input.columns (columns_give input.columns))

  fewer : (same : I → I → Bool) (exact : Bool) (exprs : List Expr) (names : List (List ℕ)) →
      IfOk (drop_rule same exact input exprs names) TellsNulls
  unfolding drop_rule
  fewer same exact exprs names = then_holds TellsNulls (all_checked (map (meant exact input.relations) exprs)) _
      (λ all is. kept_tells (is_kept same exact all names))

pub kept_are_safe : (I : Type 0) → KeptRelationsAre I IsNullSafe
kept_are_safe I = record {
  limits = λ number input safe. safe_answer (limit_rule input number) ((kept_are_sound I).limits number input safe.sound)
      (limited input (told input safe) number);
  offsets = λ number input safe. safe_answer (offset_rule input number) ((kept_are_sound I).offsets number input safe.sound)
      (skipped input (told input safe) number);
  aliases = λ alias input safe. safe_answer (Ok (alias_rule input alias)) ((kept_are_sound I).aliases alias input safe.sound)
      (aliased input (told input safe) alias);
  distinct_rows = λ exact all names input safe. safe_answer (deduplicate_rule exact input all names)
      ((kept_are_sound I).distinct_rows exact all names input safe.sound)
      (deduplicated input (told input safe) exact all names);
}

pub renamed_are_safe : (I : Type 0) → RenamedRelationsAre I IsNullSafe
renamed_are_safe I = record {
  all_renamed = λ fresh names input safe. safe_answer (to_df_rule fresh input names)
      ((renamed_are_sound I).all_renamed fresh names input safe.sound) (all_new input (told input safe) fresh names);
  some_renamed = λ exact fresh entries input safe. safe_answer (Ok (renamed_rule exact fresh input entries))
      ((renamed_are_sound I).some_renamed exact fresh entries input safe.sound)
      (some_new input (told input safe) exact fresh entries);
}

pub fewer_are_safe : (I : Type 0) → FewerColumnsAre I IsNullSafe
fewer_are_safe I = record {
  fewer_columns = λ same exact exprs names input safe. safe_answer (drop_rule same exact input exprs names)
      ((fewer_sound I).fewer_columns same exact exprs names input safe.sound)
      (fewer input (told input safe) same exact exprs names);
}

-- ---- leaves

ranged : {I : Type 0} (fresh : ℕ → I) (start end step : ℤ) → IfOk (range_rule fresh start end step) TellsNulls
unfolding range_rule
ranged fresh start end step = then_holds TellsNulls (unless (int_eq step (pos 0)) _) _
    (λ u is. each_number (FitsNulls (false ∷ [])) start end step (λ number. (refl, tt)))

SafeRows : NamedTable → Type 0
SafeRows table = All (FitsNulls (schema_flags table.schema)) table.rows

table_tells : {I : Type 0} (fresh : ℕ → I) (tables : List NamedTable) (identifier : List ℕ) → All SafeRows tables →
    IfOk (read_rule fresh tables identifier) TellsNulls
unfolding read_rule SafeRows
table_tells fresh tables identifier safe =
    then_holds TellsNulls (table_name identifier) _ (λ name is.
    then_holds TellsNulls (or_refused _ (find (has_name name) tables)) _ (λ table there_is.
    subst (λ (fs : List Bool). Each (V.Rows table.schema table.rows) (FitsNulls fs))
    (sym (flags_numbered (table_column fresh table.name) (λ field. field.nullable) (λ n field. refl) 0 table.schema.0))
    (each_row (FitsNulls (schema_flags table.schema)) table.schema table.rows
    (recursion_from_All (FitsNulls (schema_flags table.schema)) table.rows
    (IfOk-at_ok SafeRows there_is (there SafeRows _ (find (has_name name) tables) (found_holds SafeRows (has_name name) tables safe)))))))

pub leaves_are_safe : (I : Type 0) → LeavesAre I HaveSafeRows IsNullSafe
unfolding SafeRows
leaves_are_safe I = record {
  ranges = λ fresh start end step. safe_answer (range_rule fresh start end step) ((leaves_are_sound I).ranges fresh start end step)
      (ranged fresh start end step);
  tables = λ fresh tables identifier safe. safe_answer (read_rule fresh tables identifier)
      ((leaves_are_sound I).tables fresh tables identifier safe.fitting) (table_tells fresh tables identifier safe.nulls);
}

-- ---- over expressions

module _ (exact : Bool) (input : FoundOf ℕ) (tells : TellsNulls input) where
  filtered : (condition : Expr) → IfOk (filter_rule nat_eq exact input condition) TellsNulls
  unfolding filter_rule
  filtered condition = then_holds TellsNulls (condition_of nat_eq exact input.columns input.relations (codes "filter") condition) _
      (λ test is.
      each_selected (FitsNulls (flags input.columns)) input.node tells test)

  sorted : (orders : List (SortOrder Expr)) → IfOk (sort_rule nat_eq exact input orders) TellsNulls
  unfolding sort_rule sort_keys_of
  sorted orders = then_holds TellsNulls (all_checked (map (sort_key_of nat_eq exact input.columns input.relations) orders)) _ (λ keys are.
      each_sorted (FitsNulls (flags input.columns)) input.node tells keys)

  pub plain_tells : (fresh : ℕ → ℕ) (exprs : List Expr) → IfOk (plain_projection nat_eq exact fresh input exprs) TellsNulls
  unfolding plain_projection
  plain_tells fresh exprs = then_holds TellsNulls (projected nat_eq exact input.columns input.relations exprs) _ (λ items is.
      projection_tells input tells fresh items (IfOk-at_ok (All (Gives input.columns)) is
      (projected_hold exact input.columns input.relations (Gives input.columns) (typed_give exact input.columns input.relations)
      (columns_give input.columns) exprs)))

  more_tells : (fresh : ℕ → ℕ) (aliases : List (Alias Expr)) → IfOk (with_columns_rule nat_eq exact fresh input aliases) TellsNulls
  unfolding with_columns_rule
  more_tells fresh aliases =
      then_holds TellsNulls (added_items nat_eq exact input.columns input.relations aliases) _ (λ added is.
      then_holds TellsNulls (column_limit (length (with_added nat_eq exact input.columns added))) _ (λ u counted.
      then_holds TellsNulls (no_twin (option_map item_name (later_twin (same_name exact) [] added))) _ (λ v once.
      projection_tells input tells fresh (with_added nat_eq exact input.columns added)
      (with_added_hold exact input.columns (Gives input.columns) (columns_give input.columns) added
      (IfOk-at_ok (All (Gives input.columns)) is
      (all_added_hold exact input.columns input.relations (Gives input.columns)
      (typed_give exact input.columns input.relations) aliases))))))

pub tested_are_safe : TestedRelationsAre IsNullSafe
tested_are_safe = record {
  filters = λ exact condition input safe. safe_answer (filter_rule nat_eq exact input condition)
      (tested_are_sound.filters exact condition input safe.sound) (filtered exact input (told input safe) condition);
  sorts = λ exact orders input safe. safe_answer (sort_rule nat_eq exact input orders)
      (tested_are_sound.sorts exact orders input safe.sound) (sorted exact input (told input safe) orders);
}

pub projections_are_safe : ProjectionsAre IsNullSafe
projections_are_safe = record {
  values = λ exact fresh exprs input safe. safe_answer (plain_projection nat_eq exact fresh input exprs)
      (projections_sound.values exact fresh exprs input safe.sound)
      (plain_tells exact input (told input safe) fresh exprs);
  more_columns = λ exact fresh aliases input safe. safe_answer (with_columns_rule nat_eq exact fresh input aliases)
      (projections_sound.more_columns exact fresh aliases input safe.sound)
      (more_tells exact input (told input safe) fresh aliases);
}
