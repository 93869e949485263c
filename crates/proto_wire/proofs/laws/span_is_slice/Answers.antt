use Rattle.proto_wire.proofs.Places.{payload_between}
use Rattle.proto_wire.proofs.laws.span_is_slice.Goals as goal

pub returns : goal.returns
returns c = payload_between
