use Rattle.proto_wire.proofs.RecordLists.{one_message}
use Rattle.proto_wire.proofs.laws.records_are_one.Goals as goal

pub returns : goal.returns
returns c = one_message
