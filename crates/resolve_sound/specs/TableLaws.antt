-- What holds of the tables of a store: every column may be null, and so their rows are safe where they fit.
use Rattle.std.specs.Prelude.{◌≡◌, true, List, All}
use Rattle.table_store.specs.declared.change.TableChange.{TableChange}
use Rattle.table_store.specs.declared.tables.NamedTable.{NamedTable}
use Rattle.table_store.specs.declared.tables.Tables.{Tables}
use Rattle.table_store.specs.Applied.{applied}
use Rattle.resolve_sound.specs.Sound.{HaveFittingRows, HaveSafeRows}

-- every column of the tables may be null
abbrev pub AreNullable : List NamedTable → Type 0
AreNullable tables = All (λ table. All (λ field. field.nullable ≡ true) table.schema.0) tables

abbrev pub NullableTablesAreSafe : Type 0
NullableTablesAreSafe = (tables : List NamedTable) → AreNullable tables → HaveFittingRows tables → HaveSafeRows tables

-- a change makes no column that is never null
abbrev pub ChangesKeepNullable : Type 0
ChangesKeepNullable = (change : TableChange) (tables : Tables) → AreNullable tables.named → AreNullable (applied change tables).named
