use Rattle.proto_wire.proofs.RecordLists.{RecordsFrom-append}
use Rattle.proto_wire.proofs.laws.records_join.Goals as goal

pub returns : goal.returns
returns c = λ at front back fields others first second. RecordsFrom-append fields others at front back first second
