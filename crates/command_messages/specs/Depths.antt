-- How many messages are nested in the spelling of a command, its own message among them.
use Rattle.std.specs.Prelude.{ℕ, ◌+◌, max, Option, Some, None}
use Rattle.command_messages.specs.declared.save_table.SaveTable.{SaveTable}
use Rattle.command_messages.specs.declared.write_operation.WriteOperation.{WriteOperation}
use Rattle.command_messages.specs.declared.command.Command.{Command}
use Rattle.command_messages.specs.declared.command.Command.TheVariants as command

-- what an operation's table adds
abbrev pub table_depth : Option SaveTable → ℕ
table_depth None = 0
table_depth (Some table) = 1

-- the operation's message, where its relation is so deep
abbrev pub write_operation_depth : {R : Type 0} → (R → ℕ) → WriteOperation R → ℕ
write_operation_depth inner operation = 1 + max (inner operation.input) (table_depth operation.table)

abbrev pub command_depth : {R : Type 0} → (R → ℕ) → Command R → ℕ
command_depth inner (command.WriteOperation it) = 1 + write_operation_depth inner it
command_depth inner (command.Other number) = 1
