use Rattle.proto_wire.proofs.Written.{payload_read}
use Rattle.proto_wire.proofs.laws.payload_is_slice.Goals as goal

pub returns : goal.returns
returns c = payload_read
