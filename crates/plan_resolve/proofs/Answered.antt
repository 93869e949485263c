-- A plan's answer shows no ids: it is the same with numbers and with places.
use Rattle.std.proofs.Common.{◌≡◌, ℕ, Bool, List, [], ◌∷◌, ◌++◌, Option, None, Some, Ok, Err, refl, sym, ap, ◌∙◌}
use Rattle.std.specs.List.{AllZip, list_any}
use Rattle.std.specs.Prelude.{◌||◌, cond, map, not, option_map, ℤ}
use Rattle.cn_types.specs.declared.schema.Field.{Field}
use Rattle.table_store.specs.declared.tables.NamedTable.{NamedTable}
use Rattle.command_messages.specs.declared.command.Command.TheVariants as C
use Rattle.command_messages.specs.declared.save_table.SaveTable.{SaveTable}
use Rattle.plan_messages.specs.declared.plan.Plan.{Plan}
use Rattle.plan_messages.specs.declared.plan.Plan.TheVariants as P
use Rattle.plan_model.specs.declared.plan.Resolved.{Resolved}
use Rattle.plan_model.specs.declared.plan.Save.{Save}
use Rattle.resolve_names.specs.declared.scope.ColumnOf.{ColumnOf}
use Rattle.resolve_names.specs.Checks.{Checked, ◌>>=◌}
use Rattle.resolve_names.specs.Matching.{name_matches}
use Rattle.resolve_relations.specs.declared.found.FoundOf.{FoundOf}
use Rattle.resolve_relations.specs.Making.{bad_option, later_twin, no_twin, table_name}
use Rattle.resolve_types.specs.Calls.{unless}
use Rattle.resolve_ids.specs.Together.{SameAnswer, SameColumn, SameFound}
use Rattle.plan_resolve.specs.Resolving.{answer, counted_from, field_of, plan_answer, resolved_from, rows_answer, schema_of, write_answer}
use Rattle.plan_resolve.specs.Saving.{column_name, folds_alike, is_method, is_mode, save_rule, saved, table_of}
use Rattle.plan_resolve.specs.Walk.{Id}
use Rattle.plan_resolve.proofs.Agreement.{resolved_same}
use Rattle.plan_resolve.proofs.Numbering.{Belongs}
use Rattle.plan_resolve.proofs.Paths.{places}

module _ {I J : Type 0} (Belong : I → J → Type 0) where
  abbrev Same : ColumnOf I → ColumnOf J → Type 0
  Same = SameColumn Belong

  abbrev AllSame : List (ColumnOf I) → List (ColumnOf J) → Type 0
  AllSame = AllZip Same

  -- ---- the schema

  field_same : (column : ColumnOf I) (other : ColumnOf J) → Same column other → field_of other ≡ field_of column
  unfolding field_of
  field_same column other same = λ i. record { name = same.name i; kind = same.kind i; nullable = same.nullable i }

  fields_same : (columns : List (ColumnOf I)) (others : List (ColumnOf J)) → AllSame columns others → map field_of others ≡ map field_of columns
  fields_same [] [] all = refl
  fields_same [] (other ∷ others) all = absurd all
  fields_same (column ∷ columns) [] all = absurd all
  fields_same (column ∷ columns) (other ∷ others) all =
      ap (λ (f : Field). f ∷ map field_of others) (field_same column other all.0) ∙ ap (λ (l : List Field). field_of column ∷ l) (fields_same columns others all.1)

  answer_same : (found : FoundOf I) (other : FoundOf J) (save : Option Save) → SameFound Belong found other → answer other save ≡ answer found save
  answer_same found other save same = λ i. record { node = same.node i; schema = record { 0 = fields_same found.columns other.columns same.columns i }; save = save }

  -- ---- the save

  any_same : (column : ColumnOf I) (other : ColumnOf J) → Same column other → (columns : List (ColumnOf I)) (others : List (ColumnOf J)) → AllSame columns others →
      list_any (folds_alike other) others ≡ list_any (folds_alike column) columns
  unfolding folds_alike
  any_same column other same [] [] all = refl
  any_same column other same [] (o ∷ os) all = absurd all
  any_same column other same (c ∷ cs) [] all = absurd all
  any_same column other same (c ∷ cs) (o ∷ os) all =
      ap (λ (b : Bool). b || list_any (folds_alike other) os) (λ i. name_matches Bool.false (same.name i) (all.0.name i))
      ∙ ap (λ (b : Bool). folds_alike column c || b) (any_same column other same cs os all.1)

  one_more : (xs : List (ColumnOf I)) (ys : List (ColumnOf J)) (x : ColumnOf I) (y : ColumnOf J) → AllSame xs ys → Same x y → AllSame (xs ++ x ∷ []) (ys ++ y ∷ [])
  one_more [] [] x y all one = (one, tt)
  one_more [] (z ∷ zs) x y all one = absurd all
  one_more (z ∷ zs) [] x y all one = absurd all
  one_more (w ∷ ws) (z ∷ zs) x y all one = (all.0, one_more ws zs x y all.1 one)

  abbrev named : {K : Type 0} → Option (ColumnOf K) → Option (List ℕ)
  named column = option_map column_name column

  by_test : (column : ColumnOf I) (other : ColumnOf J) (more : Option (ColumnOf I)) (more_too : Option (ColumnOf J)) (found : Bool) → other.name ≡ column.name →
      named more_too ≡ named more → named (cond found (Some other) more_too) ≡ named (cond found (Some column) more)
  by_test column other more more_too Bool.true same rest = ap Some same
  by_test column other more more_too Bool.false same rest = rest

  twins_same : (before : List (ColumnOf I)) (before_too : List (ColumnOf J)) → AllSame before before_too → (columns : List (ColumnOf I)) (others : List (ColumnOf J)) → AllSame columns others →
      named (later_twin folds_alike before_too others) ≡ named (later_twin folds_alike before columns)
  twins_same before before_too earlier [] [] all = refl
  twins_same before before_too earlier [] (other ∷ others) all = absurd all
  twins_same before before_too earlier (column ∷ columns) [] all = absurd all
  twins_same before before_too earlier (column ∷ columns) (other ∷ others) all =
      ap (λ (b : Bool). named (cond b (Some other) (later_twin folds_alike (before_too ++ other ∷ []) others))) (any_same column other all.0 before before_too earlier)
      ∙ by_test column other (later_twin folds_alike (before ++ column ∷ []) columns) (later_twin folds_alike (before_too ++ other ∷ []) others)
      (list_any (folds_alike column) before) all.0.name
      (twins_same (before ++ column ∷ []) (before_too ++ other ∷ []) (one_more before before_too column other earlier all.0) columns others all.1)

  abbrev by_twin : SaveTable → ℤ → Option (List ℕ) → Checked Save
  by_twin table mode twin =
      unless (not (is_method table.save_method)) (bad_option table.save_method) >>= λ method.
      unless (not (is_mode mode)) (bad_option mode) >>= λ mode_told.
      table_name table.table_name >>= λ name.
      no_twin twin >>= λ apart.
      Ok (record { name = table.table_name; method = table.save_method; mode = mode })

  saves_same : (columns : List (ColumnOf I)) (others : List (ColumnOf J)) (table : Option SaveTable) (mode : ℤ) → AllSame columns others →
      save_rule others table mode ≡ save_rule columns table mode
  unfolding saved
  saves_same columns others table mode all = ap (by_twin (table_of table) mode) (twins_same [] [] tt columns others all)

  -- ---- a relation's answer

  rows_same : (found : Checked (FoundOf I)) (other : Checked (FoundOf J)) → SameAnswer Belong found other →
      (other >>= λ f. Ok (answer f None)) ≡ (found >>= λ f. Ok (answer f None))
  rows_same (Ok found) (Ok other) same = ap (λ (r : Resolved). Ok r) (answer_same found other None same)
  rows_same (Ok found) (Err stop) same = absurd same
  rows_same (Err stop) (Ok other) same = absurd same
  rows_same (Err stop) (Err stop_too) same = ap Err same

  abbrev saving : {K : Type 0} → FoundOf K → Checked Save → Checked Resolved
  saving found save = save >>= λ s. Ok (answer found (Some s))

  saving_same : (found : FoundOf I) (other : FoundOf J) (save : Checked Save) → SameFound Belong found other → saving other save ≡ saving found save
  saving_same found other (Ok save) same = ap (λ (r : Resolved). Ok r) (answer_same found other (Some save) same)
  saving_same found other (Err stop) same = refl

  write_same : (table : Option SaveTable) (mode : ℤ) (found : Checked (FoundOf I)) (other : Checked (FoundOf J)) → SameAnswer Belong found other →
      (other >>= λ f. saving f (save_rule f.columns table mode)) ≡ (found >>= λ f. saving f (save_rule f.columns table mode))
  write_same table mode (Ok found) (Ok other) same =
      ap (saving other) (saves_same found.columns other.columns table mode same.columns) ∙ saving_same found other (save_rule found.columns table mode) same
  write_same table mode (Ok found) (Err stop) same = absurd same
  write_same table mode (Err stop) (Ok other) same = absurd same
  write_same table mode (Err stop) (Err stop_too) same = ap Err same

-- ---- a plan's answer

pub plans_same : (exact : Bool) (tables : List NamedTable) (plan : Plan) → plan_answer (resolved_from exact tables []) plan ≡ plan_answer (counted_from exact tables 0) plan
unfolding plan_answer
plans_same exact tables (P.Root relation) = rows_same (Belongs (places relation [])) _ _ (resolved_same exact tables relation)
plans_same exact tables (P.Command (C.WriteOperation it)) = write_same (Belongs (places it.input [])) it.table it.mode _ _ (resolved_same exact tables it.input)
plans_same exact tables (P.Command (C.Other number)) = refl
