use Rattle.proto_fields.proofs.LawLemmas.{one_fault}
use Rattle.proto_fields.proofs.laws.fault_is_one.Goals as goal

pub returns : goal.returns
returns c = one_fault
