-- Tables whose columns may all be null.
use Rattle.std.proofs.Common.{◌≡◌, Bool, true, false, List, [], ◌∷◌, map, refl, sym, subst, Option, Some, None}
use Rattle.std.specs.Prelude.{All, if◌then◌else◌}
use Rattle.std.proofs.lemmas.List.Elements.{All-head, All-map, All-push, All-tail, All-weaker}
use Rattle.cn_types.specs.declared.schema.Field.{Field}
use Rattle.cn_types.specs.declared.value.Value.{Value}
use Rattle.cn_types.specs.Fit.{Fits, HaveTypes}
use Rattle.table_store.specs.declared.change.How.{How}
use Rattle.table_store.specs.declared.change.TableChange.{TableChange}
use Rattle.table_store.specs.declared.tables.NamedTable.{NamedTable}
use Rattle.table_store.specs.Applied.{after_change, changed, created, named_after, nullable_field}
use Rattle.table_store.specs.Names.{has_name, table_named}
use Rattle.resolve_sound.specs.Sound.{FitsNulls, HaveNullsWithin, schema_flags}
use Rattle.resolve_sound.specs.TableLaws.{AreNullable, ChangesKeepNullable, NullableTablesAreSafe}
use Rattle.resolve_sound.proofs.NullFacts.{May}

abbrev MayBeNull : Field → Type 0
MayBeNull field = field.nullable ≡ true

abbrev IsNullable : NamedTable → Type 0
IsNullable table = All MayBeNull table.schema.0

-- ---- rows that fit

values_within : (fields : List Field) (values : List Value) → All MayBeNull fields → HaveTypes (map (λ field. field.kind) fields) values →
    HaveNullsWithin (map (λ field. field.nullable) fields) values
values_within [] [] may typed = tt
values_within [] (v ∷ vs) may typed = absurd typed
values_within (f ∷ fs) [] may typed = absurd typed
values_within (f ∷ fs) (v ∷ vs) may typed =
    (subst (λ (b : Bool). May b v) (sym (All-head MayBeNull f fs may)) refl, values_within fs vs (All-tail MayBeNull f fs may) typed.1)

pub nullable_are_safe : NullableTablesAreSafe
nullable_are_safe tables may fitting = record {
  fitting = fitting;
  nulls = All-weaker HasBoth (λ table. All (FitsNulls (schema_flags table.schema)) table.rows) (λ table h.
      All-weaker (Fits table.schema) (FitsNulls (schema_flags table.schema))
      (λ row fits. values_within table.schema.0 row.0 h.0 fits) table.rows h.1)
      tables (λ k d lt. (may k d lt, fitting k d lt));
}
  where
    HasBoth : NamedTable → Type 0
    HasBoth table = IsNullable table × All (Fits table.schema) table.rows

-- ---- changes

created_may : (change : TableChange) → IsNullable (created change)
created_may change = All-map MayBeNull nullable_field change.schema.0 (λ k d lt. refl)

changed_may : (how : How) (change : TableChange) (table : NamedTable) → IsNullable table → IsNullable (changed how change table)
changed_may How.CreateOnly change table may = may
changed_may How.CreateOrSkip change table may = may
changed_may How.Append change table may = may
changed_may How.AppendOrCreate change table may = may
changed_may How.Replace change table may = created_may change
changed_may How.ReplaceRows change table may = may

after_may : (change : TableChange) (table : NamedTable) → IsNullable table → IsNullable (after_change change table)
after_may change table may = by (has_name change.name table)
  where
    by : (b : Bool) → IsNullable (if b then changed change.how change table else table)
    by true = changed_may change.how change table may
    by false = may

named_may : (change : TableChange) (found : Option NamedTable) (named : List NamedTable) → AreNullable named →
    AreNullable (named_after change found named)
named_may change None named may = All-push IsNullable named (created change) may (created_may change)
named_may change (Some table) named may =
    All-map IsNullable (after_change change) named
    (All-weaker IsNullable (λ one. IsNullable (after_change change one)) (after_may change) named may)

pub changes_keep : ChangesKeepNullable
changes_keep change tables may = named_may change (table_named change.name tables.named) tables.named may
