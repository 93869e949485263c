use Rattle.proto_fields.proofs.FaultLemmas.{fault_from_some, some_from_fault}
use Rattle.proto_fields.proofs.laws.first_fault_is_fault.Goals as goal

pub returns : goal.returns
returns c = λ levels kind base bytes fault fits. (λ e. fault_from_some levels kind base bytes fault fits e, λ has. some_from_fault levels kind base bytes fault has)
