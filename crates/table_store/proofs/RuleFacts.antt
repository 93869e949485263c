-- The rule's answers have their causes.
use Rattle.std.proofs.Common.{◌≡◌, ◌⊎◌, Bool, true, false, Some, None, refl, subst, inl, inr}
use Rattle.std.specs.Prelude.{◌≢◌, if◌then◌else◌}
use lib.Pointwise.{pointwise_decides}
use Rattle.cn_types.specs.declared.value.DataType.{DataType}
use Rattle.cn_types.specs.declared.schema.Schema.{Schema}
use Rattle.table_store.specs.declared.change.How.{How}
use Rattle.table_store.specs.declared.rule.Ruling.{Ruling}
use Rattle.table_store.specs.declared.tables.NamedTable.{NamedTable}
use Rattle.table_store.specs.Laws.{HasCause, TheRuleHasCauses}
use Rattle.table_store.specs.Rule.{same_type, same_types, types_of}

same_type-same : (x y : DataType) → same_type x y ≡ true → x ≡ y
same_type-same DataType.Boolean DataType.Boolean e = refl
same_type-same DataType.Integer DataType.Integer e = refl
same_type-same DataType.Long DataType.Long e = refl
same_type-same DataType.Text DataType.Text e = refl
same_type-same DataType.Date DataType.Date e = refl
same_type-same x y e = cc

same_type-refl : (x : DataType) → same_type x x ≡ true
same_type-refl DataType.Boolean = refl
same_type-refl DataType.Integer = refl
same_type-refl DataType.Long = refl
same_type-refl DataType.Text = refl
same_type-refl DataType.Date = refl

-- the test of types is whether they are one
same_type-decides : (x y : DataType) → (same_type x y ≡ true → x ≡ y) × (x ≡ y → same_type x y ≡ true)
same_type-decides x y = (same_type-same x y, λ e. subst (λ (z : DataType). same_type x z ≡ true) e (same_type-refl x))

-- the test of columns is whether their types are the same
pub same_types-decides : (old new : Schema) → (same_types old new ≡ true → types_of old ≡ types_of new) × (types_of old ≡ types_of new → same_types old new ≡ true)
same_types-decides old new = pointwise_decides same_type-decides (types_of old) (types_of new)

-- the modes that take a table's columns as they are
abbrev KeepsColumns : How → Type 0
KeepsColumns how = (how ≡ How.Append) ⊎ ((how ≡ How.AppendOrCreate) ⊎ (how ≡ How.ReplaceRows))

on_columns : (how : How) (old : NamedTable) (schema : Schema) (same : Bool) → same_types old.schema schema ≡ same → KeepsColumns how →
    how ≢ How.CreateOrSkip → how ≢ How.CreateOnly → HasCause (if same then Ruling.Applies else Ruling.Mismatched) how (Some old) schema
on_columns how old schema true same keeps no_skip no_create =
    record {
      skipped = (λ e. cc, λ h. absurd (no_skip h.0));
      exists = (λ e. cc, λ h. absurd (no_create h.0));
      missing = (λ e. cc, λ h. cc);
      mismatched = (λ e. cc, λ h. absurd (h.1 ((same_types-decides old.schema schema).0 same)));
    }
on_columns how old schema false other keeps no_skip no_create =
    record {
      skipped = (λ e. cc, λ h. absurd (no_skip h.0));
      exists = (λ e. cc, λ h. absurd (no_create h.0));
      missing = (λ e. cc, λ h. cc);
      mismatched = (λ e. (keeps, λ is. let same = (same_types-decides old.schema schema).1 is in cc), λ h. refl);
    }

no_keeper : (how : How) → how ≢ How.Append → how ≢ How.AppendOrCreate → how ≢ How.ReplaceRows → KeepsColumns how → ⊥
no_keeper how a b c keeps = elim keeps [ inl e ↦ a e | inr other ↦ elim other [ inl e ↦ b e | inr e ↦ c e ] ]

no_missing : (how : How) → how ≢ How.Append → how ≢ How.ReplaceRows → (how ≡ How.Append) ⊎ (how ≡ How.ReplaceRows) → ⊥
no_missing how a b is = elim is [ inl e ↦ a e | inr e ↦ b e ]

-- whatever the rule says has its cause
pub rule_has_causes : TheRuleHasCauses
rule_has_causes How.CreateOnly None schema = record { skipped = (λ e. cc, λ h. cc); exists = (λ e. cc, λ h. cc); missing = (λ e. cc, λ h. absurd (no_missing How.CreateOnly (λ e. cc) (λ e. cc) h.0)); mismatched = (λ e. cc, λ h. absurd h.1) }
rule_has_causes How.CreateOnly (Some old) schema = record { skipped = (λ e. cc, λ h. cc); exists = (λ e. (refl, refl), λ h. refl); missing = (λ e. cc, λ h. cc); mismatched = (λ e. cc, λ h. absurd (no_keeper How.CreateOnly (λ e. cc) (λ e. cc) (λ e. cc) h.0)) }
rule_has_causes How.CreateOrSkip None schema = record { skipped = (λ e. cc, λ h. cc); exists = (λ e. cc, λ h. cc); missing = (λ e. cc, λ h. absurd (no_missing How.CreateOrSkip (λ e. cc) (λ e. cc) h.0)); mismatched = (λ e. cc, λ h. absurd h.1) }
rule_has_causes How.CreateOrSkip (Some old) schema = record { skipped = (λ e. (refl, refl), λ h. refl); exists = (λ e. cc, λ h. cc); missing = (λ e. cc, λ h. cc); mismatched = (λ e. cc, λ h. absurd (no_keeper How.CreateOrSkip (λ e. cc) (λ e. cc) (λ e. cc) h.0)) }
rule_has_causes How.Append None schema = record { skipped = (λ e. cc, λ h. cc); exists = (λ e. cc, λ h. cc); missing = (λ e. (inl refl, refl), λ h. refl); mismatched = (λ e. cc, λ h. absurd h.1) }
rule_has_causes How.Append (Some old) schema = on_columns How.Append old schema (same_types old.schema schema) refl (inl refl) (λ e. cc) (λ e. cc)
rule_has_causes How.AppendOrCreate None schema = record { skipped = (λ e. cc, λ h. cc); exists = (λ e. cc, λ h. cc); missing = (λ e. cc, λ h. absurd (no_missing How.AppendOrCreate (λ e. cc) (λ e. cc) h.0)); mismatched = (λ e. cc, λ h. absurd h.1) }
rule_has_causes How.AppendOrCreate (Some old) schema = on_columns How.AppendOrCreate old schema (same_types old.schema schema) refl (inr (inl refl)) (λ e. cc) (λ e. cc)
rule_has_causes How.Replace None schema = record { skipped = (λ e. cc, λ h. cc); exists = (λ e. cc, λ h. cc); missing = (λ e. cc, λ h. absurd (no_missing How.Replace (λ e. cc) (λ e. cc) h.0)); mismatched = (λ e. cc, λ h. absurd h.1) }
rule_has_causes How.Replace (Some old) schema = record { skipped = (λ e. cc, λ h. cc); exists = (λ e. cc, λ h. cc); missing = (λ e. cc, λ h. cc); mismatched = (λ e. cc, λ h. absurd (no_keeper How.Replace (λ e. cc) (λ e. cc) (λ e. cc) h.0)) }
rule_has_causes How.ReplaceRows None schema = record { skipped = (λ e. cc, λ h. cc); exists = (λ e. cc, λ h. cc); missing = (λ e. (inr refl, refl), λ h. refl); mismatched = (λ e. cc, λ h. absurd h.1) }
rule_has_causes How.ReplaceRows (Some old) schema = on_columns How.ReplaceRows old schema (same_types old.schema schema) refl (inr (inr refl)) (λ e. cc) (λ e. cc)
