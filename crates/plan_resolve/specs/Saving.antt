-- Where a write command puts its rows (`commands.proto`, WriteOperation).
use Rattle.std.specs.Prelude.{ℕ, ℤ, pos, ◌||◌, not, int_lt, Bool, List, [], Option, Some, None, Ok, option_map}
use Rattle.std.specs.Ordering.{int_eq}
use Rattle.command_messages.specs.declared.save_table.SaveTable.{SaveTable}
use Rattle.plan_model.specs.declared.plan.Save.{Save}
use Rattle.resolve_names.specs.declared.scope.ColumnOf.{ColumnOf}
use Rattle.resolve_names.specs.Checks.{Checked, ◌>>=◌}
use Rattle.resolve_names.specs.Matching.{name_matches}
use Rattle.resolve_types.specs.Calls.{unless}
use Rattle.resolve_relations.specs.Making.{bad_option, later_twin, no_twin, table_name}

-- the methods are to save as a table and to insert into one
abbrev pub is_method : ℤ → Bool
is_method method = int_eq method (pos 1) || int_eq method (pos 2)

-- the modes go from 0, which is none, to 4
abbrev pub is_mode : ℤ → Bool
is_mode mode = not (int_lt mode (pos 0) || int_lt (pos 4) mode)

-- a command without a table has no method
abbrev pub table_of : Option SaveTable → SaveTable
table_of (Some table) = table
table_of None = record { table_name = []; save_method = pos 0 }

-- columns of a table have names that differ in lower case
unfoldable pub folds_alike : {I : Type 0} → ColumnOf I → ColumnOf I → Bool
folds_alike column other = name_matches Bool.false column.name other.name

abbrev pub column_name : {I : Type 0} → ColumnOf I → List ℕ
column_name column = column.name

-- the method, the mode, the table's name, and then the names of the columns; the table is told as it was given
unfoldable pub saved : {I : Type 0} → List (ColumnOf I) → SaveTable → ℤ → Checked Save
saved columns table mode = do
  method ← unless (not (is_method table.save_method)) (bad_option table.save_method)
  mode_told ← unless (not (is_mode mode)) (bad_option mode)
  name ← table_name table.table_name
  apart ← no_twin (option_map column_name (later_twin folds_alike [] columns))
  Ok (record { name = table.table_name; method = table.save_method; mode = mode })

abbrev pub save_rule : {I : Type 0} → List (ColumnOf I) → Option SaveTable → ℤ → Checked Save
save_rule columns table mode = saved columns (table_of table) mode
