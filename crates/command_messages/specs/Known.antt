-- Which commands have a spelling, where so much is known of a relation, and that the numbers and texts in them are values of their types.
use Rattle.std.specs.Prelude.{Bool, false, IfSome, FitsSigned, IsUtf8}
use Rattle.std.specs.Int.{w32}
use Rattle.command_messages.specs.declared.save_table.SaveTable.{SaveTable}
use Rattle.command_messages.specs.declared.write_operation.WriteOperation.{WriteOperation}
use Rattle.command_messages.specs.declared.command.Command.{Command}
use Rattle.command_messages.specs.declared.command.Command.TheVariants as command

abbrev pub is_known_command : {R : Type 0} → (R → Bool) → Command R → Bool
is_known_command inner (command.WriteOperation it) = inner it.input
is_known_command inner (command.Other number) = false

pub record HasSaveTableBits (table : SaveTable) : Type 0 where
  pub table_name : IsUtf8 table.table_name
  pub save_method : FitsSigned w32 table.save_method

-- an operation, its relation aside
pub record HasWriteOperationBits {R : Type 0} (operation : WriteOperation R) : Type 0 where
  pub source : IfSome operation.source IsUtf8
  pub table : IfSome operation.table HasSaveTableBits
  pub mode : FitsSigned w32 operation.mode
