use Rattle.proto_wire.proofs.Whole.{each_message}
use Rattle.proto_wire.proofs.laws.records_or_fault.Goals as goal

pub returns : goal.returns
returns c = each_message
