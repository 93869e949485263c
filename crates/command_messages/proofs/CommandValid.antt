-- Whatever fields are read, the numbers of a write operation have the bits of their types, and its texts are UTF-8.
use Rattle.std.proofs.Common.{List}
use Rattle.proto_fields.specs.Fields.{Field}
use Rattle.proto_fields.specs.Readings.{merged}
use Rattle.proto_fields.proofs.TextReadings.{int32_valid, text_valid, optional_text_valid}
use Rattle.expression_messages.proofs.Valid.{if_there}
use Rattle.command_messages.specs.Commands.{save_table_of, write_operation_of}
use Rattle.command_messages.specs.Known.{HasSaveTableBits, HasWriteOperationBits}

save_table_valid : (fields : List Field) → HasSaveTableBits (save_table_of fields)
save_table_valid fields = record { table_name = text_valid 1 fields; save_method = int32_valid 2 fields }

pub write_operation_valid : {R : Type 0} (input : R) (fields : List Field) → HasWriteOperationBits (write_operation_of input fields)
write_operation_valid input fields = record {
  source = optional_text_valid 2 fields;
  table = if_there HasSaveTableBits save_table_of save_table_valid (merged 4 fields);
  mode = int32_valid 5 fields;
}
