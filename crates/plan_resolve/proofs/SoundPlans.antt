-- A plan that is resolved is well formed, and its schema tells its nulls.
use Rattle.std.proofs.Common.{◌≡◌, ℕ, Bool, List, [], ◌∷◌, map, Option, None, Some, Ok, Err, refl, sym, ap, subst, ◌∙◌}
use Rattle.std.specs.Prelude.{All, IfOk, ℤ}
use Rattle.cn_types.specs.declared.row.Row.{Row}
use Rattle.cn_types.specs.declared.schema.Schema.{Schema}
use Rattle.cn_types.specs.declared.value.DataType.{DataType}
use Rattle.cn_types.specs.declared.settings.Settings.{Settings}
use Rattle.table_store.specs.declared.tables.NamedTable.{NamedTable}
use Rattle.table_store.specs.declared.tables.Tables.{Tables}
use Rattle.command_messages.specs.declared.command.Command.TheVariants as C
use Rattle.plan_messages.specs.declared.plan.Plan.{Plan}
use Rattle.plan_messages.specs.declared.plan.Plan.TheVariants as P
use Rattle.plan_model.specs.declared.plan.Resolved.{Resolved}
use Rattle.plan_model.specs.declared.plan.Save.{Save}
use Rattle.plan_model.specs.Allows.{Allows}
use Rattle.plan_model.specs.NodeTypes.{schema_types, types}
use Rattle.plan_model.specs.WellFormed.{IsWellFormedPlan}
use Rattle.std.proofs.lemmas.Result.{IfOk-at_ok}
use Rattle.resolve_names.specs.declared.scope.ColumnOf.{ColumnOf}
use Rattle.resolve_names.specs.Checks.{Checked, ◌>>=◌}
use Rattle.resolve_names.specs.Matching.{case_sensitive}
use Rattle.resolve_relations.specs.declared.found.FoundOf.{FoundOf}
use Rattle.resolve_sound.specs.Sound.{FitsNulls, HaveFittingRows, HaveSafeRows, IsNullSafe, IsSoundFound, flags, kinds, schema_flags}
use Rattle.resolve_sound.proofs.Chains.{then_holds}
use Rattle.resolve_sound.proofs.JoinedRelations.{joins_sound}
use Rattle.resolve_sound.proofs.KeptRelations.{kept_are_sound, leaves_are_sound, renamed_are_sound, tested_are_sound}
use Rattle.resolve_sound.proofs.MadeRelations.{aggregates_sound, fewer_sound, projections_sound}
use Rattle.resolve_sound.proofs.NullGroups.{aggregates_are_safe}
use Rattle.resolve_sound.proofs.NullJoins.{joins_are_safe}
use Rattle.resolve_sound.proofs.NullRelations.{fewer_are_safe, kept_are_safe, leaves_are_safe, projections_are_safe, renamed_are_safe, tested_are_safe}
use Rattle.resolve_sound.proofs.NullSets.{sets_are_safe}
use Rattle.resolve_sound.proofs.SetRelations.{sets_sound}
use Rattle.plan_resolve.specs.Members.{tagged}
use Rattle.plan_resolve.specs.Resolving.{answer, counted_from, field_of, plan_answer, resolution, resolved_from, schema_of}
use Rattle.plan_resolve.specs.Safety.{IsSafePlan}
use Rattle.plan_resolve.specs.Saving.{save_rule}
use Rattle.plan_resolve.proofs.Answered.{plans_same}
use Rattle.plan_resolve.proofs.Kept.{AllKeep, found_is}
use Rattle.plan_resolve.proofs.LocalRows.{locals_are_safe, locals_are_sound}

-- ---- what every rule keeps

tagged_sound : (found : FoundOf ℕ) (plan : Option ℤ) → IsSoundFound found → IsSoundFound (tagged found plan)
tagged_sound found None sound = sound
tagged_sound found (Some plan) sound = record { node = sound.node; columns = sound.columns }

tagged_safe : (found : FoundOf ℕ) (plan : Option ℤ) → IsNullSafe found → IsNullSafe (tagged found plan)
tagged_safe found None safe = safe
tagged_safe found (Some plan) safe = record { sound = tagged_sound found (Some plan) safe.sound; nulls = safe.nulls }

all_sound : AllKeep HaveFittingRows IsSoundFound
all_sound = record {
  leaves = leaves_are_sound ℕ;
  locals = locals_are_sound;
  rows = kept_are_sound ℕ;
  names = renamed_are_sound ℕ;
  fewer = fewer_sound ℕ;
  tests = tested_are_sound;
  projections = projections_sound;
  aggregates = aggregates_sound;
  joins = joins_sound;
  sets = sets_sound ℕ;
  tags = tagged_sound;
}

all_safe : AllKeep HaveSafeRows IsNullSafe
all_safe = record {
  leaves = leaves_are_safe ℕ;
  locals = locals_are_safe;
  rows = kept_are_safe ℕ;
  names = renamed_are_safe ℕ;
  fewer = fewer_are_safe ℕ;
  tests = tested_are_safe;
  projections = projections_are_safe;
  aggregates = aggregates_are_safe;
  joins = joins_are_safe;
  sets = sets_are_safe ℕ;
  tags = tagged_safe;
}

-- ---- the answer

kinds_shown : {I : Type 0} (columns : List (ColumnOf I)) → schema_types (schema_of columns) ≡ kinds columns
unfolding field_of
kinds_shown [] = refl
kinds_shown (column ∷ columns) = ap (λ (ks : List DataType). column.kind ∷ ks) (kinds_shown columns)

flags_shown : {I : Type 0} (columns : List (ColumnOf I)) → schema_flags (schema_of columns) ≡ flags columns
unfolding field_of
flags_shown [] = refl
flags_shown (column ∷ columns) = ap (λ (fs : List Bool). column.nullable ∷ fs) (flags_shown columns)

answer_formed : (found : FoundOf ℕ) (save : Option Save) → IsSoundFound found → IsWellFormedPlan (answer found save)
answer_formed found save sound = record { node = sound.node; columns = sound.columns ∙ sym (kinds_shown found.columns) }

answer_safe : (found : FoundOf ℕ) (save : Option Save) → IsNullSafe found → IsSafePlan (answer found save)
answer_safe found save safe rows allowed = subst (λ (fs : List Bool). All (FitsNulls fs) rows) (sym (flags_shown found.columns)) (safe.nulls rows allowed)

module _ (Are : List NamedTable → Type 0) (Is : FoundOf ℕ → Type 0) (Shows : Resolved → Type 0) (keep : AllKeep Are Is)
    (shows : (found : FoundOf ℕ) (save : Option Save) → Is found → Shows (answer found save)) (exact : Bool) (tables : List NamedTable) (are : Are tables) where
  by_number : (plan : Plan) → IfOk (plan_answer (counted_from exact tables 0) plan) Shows
  unfolding plan_answer
  by_number (P.Root relation) = then_holds Shows (counted_from exact tables 0 relation) _ (λ found is. shows found None (IfOk-at_ok Is is (found_is Are Is keep exact tables are relation 0)))
  by_number (P.Command (C.WriteOperation it)) = then_holds Shows (counted_from exact tables 0 it.input) _ (λ found is.
      then_holds Shows (save_rule found.columns it.table it.mode) (λ save. Ok (answer found (Some save))) (λ save save_is. shows found (Some save) (IfOk-at_ok Is is (found_is Are Is keep exact tables are it.input 0))))
  by_number (P.Command (C.Other number)) = tt

  by_place : (plan : Plan) → IfOk (plan_answer (resolved_from exact tables []) plan) Shows
  by_place plan = subst (λ (r : Checked Resolved). IfOk r Shows) (sym (plans_same exact tables plan)) (by_number plan)

pub plans_formed : (exact : Bool) (tables : List NamedTable) → HaveFittingRows tables → (plan : Plan) → IfOk (plan_answer (resolved_from exact tables []) plan) IsWellFormedPlan
plans_formed exact tables fit plan = by_place HaveFittingRows IsSoundFound IsWellFormedPlan all_sound answer_formed exact tables fit plan

pub plans_safe : (exact : Bool) (tables : List NamedTable) → HaveSafeRows tables → (plan : Plan) → IfOk (plan_answer (resolved_from exact tables []) plan) IsSafePlan
plans_safe exact tables safe plan = by_place HaveSafeRows IsNullSafe IsSafePlan all_safe answer_safe exact tables safe plan

-- ---- of what is answered

of_result : (Shows : Resolved → Type 0) (answer : Checked Resolved) → IfOk answer Shows → (result : Checked Resolved) → IfOk result (λ r. answer ≡ Ok r) → IfOk result Shows
of_result Shows answer shows (Ok resolved) is = IfOk-at_ok Shows is shows
of_result Shows answer shows (Err stop) is = tt

module _ (plan : Plan) (tables : Tables) (settings : Settings) (result : Checked Resolved) (is : IfOk result (λ r. resolution plan tables settings ≡ Ok r)) where
  pub formed_result : HaveFittingRows tables.named → IfOk result IsWellFormedPlan
  unfolding resolution
  formed_result fit = of_result IsWellFormedPlan (resolution plan tables settings) (plans_formed (case_sensitive settings) tables.named fit plan) result is

  pub safe_result : HaveSafeRows tables.named → IfOk result IsSafePlan
  unfolding resolution
  safe_result safe = of_result IsSafePlan (resolution plan tables settings) (plans_safe (case_sensitive settings) tables.named safe plan) result is
