-- The commit rule: whether a change is applied, skipped or refused.
use Rattle.std.specs.Prelude.{Bool, true, false, if◌then◌else◌, List, Option, None, Some, map}
use lib.Pointwise.{pointwise}
use Rattle.cn_types.specs.declared.value.DataType.{DataType}
use Rattle.cn_types.specs.declared.schema.Schema.{Schema}
use Rattle.table_store.specs.declared.change.How.{How}
use Rattle.table_store.specs.declared.change.TableChange.{TableChange}
use Rattle.table_store.specs.declared.rule.Ruling.{Ruling}
use Rattle.table_store.specs.declared.tables.NamedTable.{NamedTable}
use Rattle.table_store.specs.declared.tables.Tables.{Tables}
use Rattle.table_store.specs.Names.{table_named}

-- the types of the columns, from the left
abbrev pub types_of : Schema → List DataType
types_of schema = map (λ field. field.kind) schema.0

-- whether two types are the same
abbrev pub same_type : DataType → DataType → Bool
same_type DataType.Boolean DataType.Boolean = true
same_type DataType.Integer DataType.Integer = true
same_type DataType.Long DataType.Long = true
same_type DataType.Text DataType.Text = true
same_type DataType.Date DataType.Date = true
same_type one other = false

-- whether two schemas have the same number and the same types of columns, by position; names and flags don't matter
abbrev pub same_types : Schema → Schema → Bool
same_types one other = pointwise same_type (types_of one) (types_of other)

-- a table takes the rows of a change only where its columns have the types of the change's
abbrev pub where_types_match : Schema → Schema → Ruling
where_types_match old schema = if same_types old schema then Ruling.Applies else Ruling.Mismatched

-- the commit rule, by what the change is to do and by the table of its name, where there is one
abbrev pub ruling_on : How → Option NamedTable → Schema → Ruling
ruling_on How.CreateOnly None schema = Ruling.Applies
ruling_on How.CreateOnly (Some table) schema = Ruling.Exists
ruling_on How.CreateOrSkip None schema = Ruling.Applies
ruling_on How.CreateOrSkip (Some table) schema = Ruling.Skips
ruling_on How.Append None schema = Ruling.Missing
ruling_on How.Append (Some table) schema = where_types_match table.schema schema
ruling_on How.AppendOrCreate None schema = Ruling.Applies
ruling_on How.AppendOrCreate (Some table) schema = where_types_match table.schema schema
ruling_on How.Replace None schema = Ruling.Applies
ruling_on How.Replace (Some table) schema = Ruling.Applies
ruling_on How.ReplaceRows None schema = Ruling.Missing
ruling_on How.ReplaceRows (Some table) schema = where_types_match table.schema schema

-- what the commit rule makes of a change to these tables
abbrev pub ruling : TableChange → Tables → Ruling
ruling change tables = ruling_on change.how (table_named change.name tables.named) change.schema
