-- Commands as fields, in one spelling: by ascending number, a scalar left out at its default, a present optional and a message that is present
-- written. What is outside the profile has no fields.
use Rattle.std.specs.Prelude.{List, [], ◌++◌, option_map}
use Rattle.proto_fields.specs.Fields.{Field}
use Rattle.proto_fields.specs.Spelling.{spell, payload_fields, int_fields, text_fields, optional_payload_fields}
use Rattle.command_messages.specs.declared.save_table.SaveTable.{SaveTable}
use Rattle.command_messages.specs.declared.write_operation.WriteOperation.{WriteOperation}
use Rattle.command_messages.specs.declared.command.Command.{Command}
use Rattle.command_messages.specs.declared.command.Command.TheVariants as command

-- table_name 1, save_method 2
abbrev pub save_table_fields : SaveTable → List Field
save_table_fields table = text_fields 1 table.table_name ++ int_fields 2 table.save_method

-- source 2, table 4, mode 5
abbrev pub write_operation_rest : {R : Type 0} → WriteOperation R → List Field
write_operation_rest operation =
    optional_payload_fields 2 operation.source ++ optional_payload_fields 4 (option_map (λ table. spell (save_table_fields table)) operation.table)
    ++ int_fields 5 operation.mode

-- input 1 and the rest, where a relation is spelled so
abbrev pub write_operation_fields : {R : Type 0} → (R → List Field) → WriteOperation R → List Field
write_operation_fields inner operation = payload_fields 1 (spell (inner operation.input)) ++ write_operation_rest operation

-- write_operation 2
abbrev pub command_fields : {R : Type 0} → (R → List Field) → Command R → List Field
command_fields inner (command.WriteOperation it) = payload_fields 2 (spell (write_operation_fields inner it))
command_fields inner (command.Other number) = []
