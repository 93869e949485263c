-- the tables of the fields so far
use Rattle.std.proofs.Common.{◌≡◌, take, map}
use Rattle.arrow_ipc.specs.Messages.{field_table}
use Rattle.arrow_ipc.proofs.messages.field_tables.Given as goal

abbrev pub invariant-loop-field : goal.invariant-loop-field
invariant-loop-field l = l.tables ≡ map field_table (take l.field-index l.fields)
