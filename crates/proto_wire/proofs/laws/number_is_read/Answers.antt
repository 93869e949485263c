use Rattle.proto_wire.proofs.Written.{number_read}
use Rattle.proto_wire.proofs.laws.number_is_read.Goals as goal

pub returns : goal.returns
returns c = number_read
