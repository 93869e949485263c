-- Commands, read of the fields of their messages (`commands.proto`), where relations are read so.
use Rattle.std.specs.Prelude.{◌==◌, if◌then◌else◌, List, option_map, unwrap_or}
use Rattle.proto_fields.specs.declared.kind.MessageKind.TheVariants as kinds
use Rattle.proto_fields.specs.Fields.{Field}
use Rattle.proto_fields.specs.Readings.{int32_field, text_field, optional_text, merged, Member, latest}
use Rattle.expression_messages.specs.Messages.{message_at}
use Rattle.command_messages.specs.declared.save_table.SaveTable.{SaveTable}
use Rattle.command_messages.specs.declared.write_operation.WriteOperation.{WriteOperation}
use Rattle.command_messages.specs.declared.command.Command.{Command}
use Rattle.command_messages.specs.declared.command.Command.TheVariants as command

-- table_name 1, save_method 2
abbrev pub save_table_of : List Field → SaveTable
save_table_of fields = record { table_name = text_field 1 fields; save_method = int32_field 2 fields }

-- input 1, source 2, table 4, mode 5; no table where it is absent
abbrev pub write_operation_of : {R : Type 0} → R → List Field → WriteOperation R
write_operation_of input fields = record {
  input = input;
  source = optional_text 2 fields;
  table = option_map save_table_of (merged 4 fields);
  mode = int32_field 5 fields;
}

-- write_operation 2; another member stands for itself
abbrev pub command_member : {R : Type 0} → (List Field → R) → Member → Command R
command_member inner member =
    if member.number == 2 then command.WriteOperation (write_operation_of (inner (message_at 1 (message_at 2 member.since))) (message_at 2 member.since))
    else command.Other member.number

-- an absent command is Other 0
abbrev pub command_of : {R : Type 0} → (List Field → R) → List Field → Command R
command_of inner fields = unwrap_or (option_map (command_member inner) (latest kinds.Command fields)) (command.Other 0)
