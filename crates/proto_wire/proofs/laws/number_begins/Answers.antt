use Rattle.proto_wire.proofs.Written.{number_first}
use Rattle.proto_wire.proofs.laws.number_begins.Goals as goal

pub returns : goal.returns
returns c = number_first
