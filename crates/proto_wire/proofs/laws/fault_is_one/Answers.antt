use Rattle.proto_wire.proofs.RecordLists.{one_fault}
use Rattle.proto_wire.proofs.laws.fault_is_one.Goals as goal

pub returns : goal.returns
returns c = one_fault
