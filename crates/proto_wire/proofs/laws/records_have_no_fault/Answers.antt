use Rattle.proto_wire.proofs.RecordLists.{message_or_fault}
use Rattle.proto_wire.proofs.laws.records_have_no_fault.Goals as goal

pub returns : goal.returns
returns c = message_or_fault
