use Rattle.proto_fields.proofs.LawLemmas.{sound_or_fault}
use Rattle.proto_fields.proofs.laws.sound_or_faulty.Goals as goal

pub returns : goal.returns
returns c = sound_or_fault
