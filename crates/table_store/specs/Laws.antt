-- What the definitions of names, of the rule and of changes come to.
use Rattle.std.specs.Prelude.{◌≡◌, ◌≢◌, ◌↔◌, ℕ, ◌+◌, ◌⊎◌, List, Option, None, Some, All, Contains, IsNone, IsSome, IsSomeAnd}
use Rattle.cn_types.specs.declared.schema.Schema.{Schema}
use Rattle.table_store.specs.declared.change.How.{How}
use Rattle.table_store.specs.declared.change.TableChange.{TableChange}
use Rattle.table_store.specs.declared.rule.Ruling.{Ruling}
use Rattle.table_store.specs.declared.tables.NamedTable.{NamedTable}
use Rattle.table_store.specs.declared.tables.Tables.{Tables}
use Rattle.table_store.specs.Applied.{applied, changed, created}
use Rattle.table_store.specs.Names.{folded, table_named}
use Rattle.table_store.specs.Rule.{ruling_on, types_of}
use Rattle.table_store.specs.Standing.{AreTables}

-- a name finds exactly the one table whose name folds to the same
abbrev pub ANameFindsItsTable : Type 0
ANameFindsItsTable =
    (tables : Tables) (name : List ℕ) (table : NamedTable) → AreTables tables →
    (table_named name tables.named ≡ Some table) ↔ (Contains tables.named table × (folded table.name ≡ folded name))

-- a name finds no table exactly where no table's name folds to the same
abbrev pub AnAbsentNameFindsNone : Type 0
AnAbsentNameFindsNone =
    (tables : Tables) (name : List ℕ) →
    (table_named name tables.named ≡ None) ↔ All (λ table. folded table.name ≢ folded name) tables.named

-- what the rule says has its cause: a change is skipped or refused exactly in these cases, and applied in all others
pub record HasCause (rule : Ruling) (how : How) (table : Option NamedTable) (schema : Schema) : Type 0 where
  pub skipped : (rule ≡ Ruling.Skips) ↔ ((how ≡ How.CreateOrSkip) × IsSome table)
  pub exists : (rule ≡ Ruling.Exists) ↔ ((how ≡ How.CreateOnly) × IsSome table)
  pub missing : (rule ≡ Ruling.Missing) ↔ (((how ≡ How.Append) ⊎ (how ≡ How.ReplaceRows)) × IsNone table)
  pub mismatched :
      (rule ≡ Ruling.Mismatched)
      ↔ (((how ≡ How.Append) ⊎ ((how ≡ How.AppendOrCreate) ⊎ (how ≡ How.ReplaceRows)))
      × IsSomeAnd table (λ old. types_of old.schema ≢ types_of schema))

-- whatever the rule says has its cause
abbrev pub TheRuleHasCauses : Type 0
TheRuleHasCauses = (how : How) (table : Option NamedTable) (schema : Schema) → HasCause (ruling_on how table schema) how table schema

-- what a change makes of the table of its name, where there is one
abbrev pub table_after : TableChange → Option NamedTable → NamedTable
table_after change None = created change
table_after change (Some table) = changed change.how change table

-- a change that is applied raises the version by one, gives its name its table, and leaves each other name the table that it had
pub record ChangesOneTable (change : TableChange) (tables : Tables) : Type 0 where
  pub version : (applied change tables).version ≡ tables.version + 1
  pub named : table_named change.name (applied change tables).named ≡ Some (table_after change (table_named change.name tables.named))
  pub others : (name : List ℕ) → folded name ≢ folded change.name → table_named name (applied change tables).named ≡ table_named name tables.named

-- each change that is applied changes one table
abbrev pub AChangeChangesOneTable : Type 0
AChangeChangesOneTable = (change : TableChange) (tables : Tables) → ChangesOneTable change tables
