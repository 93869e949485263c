-- The answer of a plan: its node with its columns and its save, or the first error.
use Rattle.std.specs.Prelude.{ℕ, Bool, List, [], ◌++◌, map, Option, Some, None, Ok, codes}
use Rattle.std.specs.Fmt.{decimal}
use Rattle.cn_types.specs.declared.schema.Field.{Field}
use Rattle.cn_types.specs.declared.schema.Schema.{Schema}
use Rattle.cn_types.specs.declared.settings.Settings.{Settings}
use Rattle.table_store.specs.declared.tables.NamedTable.{NamedTable}
use Rattle.table_store.specs.declared.tables.Tables.{Tables}
use Rattle.command_messages.specs.declared.command.Command.{Command}
use Rattle.command_messages.specs.declared.command.Command.TheVariants as C
use Rattle.command_messages.specs.declared.write_operation.WriteOperation.{WriteOperation}
use Rattle.relation_messages.specs.declared.relation.Relation.{Relation}
use Rattle.plan_messages.specs.declared.plan.Plan.{Plan}
use Rattle.plan_messages.specs.declared.plan.Plan.TheVariants as P
use Rattle.plan_model.specs.declared.plan.Resolved.{Resolved}
use Rattle.plan_model.specs.declared.plan.Save.{Save}
use Rattle.resolve_names.specs.declared.error.ErrorName.TheVariants.{Unsupported}
use Rattle.resolve_names.specs.declared.scope.ColumnOf.{ColumnOf}
use Rattle.resolve_names.specs.Checks.{Checked, ◌>>=◌, refused}
use Rattle.resolve_names.specs.Matching.{case_sensitive}
use Rattle.resolve_names.specs.Refusals.{refusal}
use Rattle.resolve_relations.specs.declared.found.FoundOf.{FoundOf}
use Rattle.plan_resolve.specs.Saving.{save_rule}
use Rattle.plan_resolve.specs.Drawing.{counted}
use Rattle.plan_resolve.specs.Walk.{Id, Path, resolved}

-- a column as the schema shows it
unfoldable pub field_of : {I : Type 0} → ColumnOf I → Field
field_of column = record { name = column.name; kind = column.kind; nullable = column.nullable }

abbrev pub schema_of : {I : Type 0} → List (ColumnOf I) → Schema
schema_of columns = record { 0 = map field_of columns }

abbrev pub answer : {I : Type 0} → FoundOf I → Option Save → Resolved
answer found save = record { node = found.node; schema = schema_of found.columns; save = save }

module _ {I : Type 0} (resolver : Relation → Checked (FoundOf I)) where
  -- a relation whose rows are asked for
  abbrev pub rows_answer : Relation → Checked Resolved
  rows_answer relation = resolver relation >>= λ found. Ok (answer found None)

  -- a write command's checks follow those of its input
  abbrev pub write_answer : WriteOperation Relation → Checked Resolved
  write_answer it = do
    found ← resolver it.input
    save ← save_rule found.columns it.table it.mode
    Ok (answer found (Some save))

  abbrev pub command_answer : Command Relation → Checked Resolved
  command_answer (C.WriteOperation it) = write_answer it
  command_answer (C.Other number) = refused (refusal Unsupported (codes "command " ++ decimal number))

  unfoldable pub plan_answer : Plan → Checked Resolved
  plan_answer (P.Root relation) = rows_answer relation
  plan_answer (P.Command command) = command_answer command

-- a root's place is the empty path
abbrev pub resolved_from : Bool → List NamedTable → Path → Relation → Checked (FoundOf Id)
resolved_from exact tables path relation = resolved exact tables relation path

-- what a plan is resolved to, over tables and settings
unfoldable pub resolution : Plan → Tables → Settings → Checked Resolved
resolution plan tables settings = plan_answer (resolved_from (case_sensitive settings) tables.named []) plan

-- the same by numbers for ids
abbrev pub counted_from : Bool → List NamedTable → ℕ → Relation → Checked (FoundOf ℕ)
counted_from exact tables base relation = (counted exact tables relation).found base
