use Rattle.proto_wire.proofs.Written.{span_first}
use Rattle.proto_wire.proofs.laws.span_begins.Goals as goal

pub returns : goal.returns
returns c = span_first
