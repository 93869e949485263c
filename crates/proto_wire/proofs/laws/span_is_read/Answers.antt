use Rattle.proto_wire.proofs.Written.{span_read}
use Rattle.proto_wire.proofs.laws.span_is_read.Goals as goal

pub returns : goal.returns
returns c = span_read
