use Rattle.proto_wire.proofs.VarintLaws.{shortest_varint}
use Rattle.proto_wire.proofs.laws.varint_is_shortest.Goals as goal

pub returns : goal.returns
returns c = shortest_varint
