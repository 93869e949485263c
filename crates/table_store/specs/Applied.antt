-- The tables after a change that is applied.
use Rattle.std.specs.Prelude.{◌+◌, true, if◌then◌else◌, List, [], ◌∷◌, ◌++◌, Option, None, Some, map}
use Rattle.cn_types.specs.declared.schema.Field.{Field}
use Rattle.cn_types.specs.declared.schema.Schema.{Schema}
use Rattle.table_store.specs.declared.change.How.{How}
use Rattle.table_store.specs.declared.change.TableChange.{TableChange}
use Rattle.table_store.specs.declared.tables.NamedTable.{NamedTable}
use Rattle.table_store.specs.declared.tables.Tables.{Tables}
use Rattle.table_store.specs.Names.{has_name, table_named}

-- a column that may have nulls
abbrev pub nullable_field : Field → Field
nullable_field field = record field { nullable = true }

-- the same columns, all nullable
abbrev pub nullable : Schema → Schema
nullable schema = record { 0 = map nullable_field schema.0 }

-- the table that a change makes: its name and rows, and its columns, all nullable
abbrev pub created : TableChange → NamedTable
created change = record { name = change.name; schema = nullable change.schema; rows = change.rows }

-- what a change makes of the table of its name: another table, more rows after the old ones, or other rows
abbrev pub changed : How → TableChange → NamedTable → NamedTable
changed How.CreateOnly change table = table
changed How.CreateOrSkip change table = table
changed How.Append change table = record table { rows = table.rows ++ change.rows }
changed How.AppendOrCreate change table = record table { rows = table.rows ++ change.rows }
changed How.Replace change table = created change
changed How.ReplaceRows change table = record table { rows = change.rows }

-- a table after a change: changed where it has the change's name, and else as it was
abbrev pub after_change : TableChange → NamedTable → NamedTable
after_change change table = if has_name change.name table then changed change.how change table else table

-- the list of tables after a change, which makes its table at the end where there was none of its name
abbrev pub named_after : TableChange → Option NamedTable → List NamedTable → List NamedTable
named_after change None named = named ++ created change ∷ []
named_after change (Some table) named = map (after_change change) named

-- the tables after a change is applied, under the next version
abbrev pub applied : TableChange → Tables → Tables
applied change tables =
    record {
      version = tables.version + 1;
      named = named_after change (table_named change.name tables.named) tables.named;
    }
