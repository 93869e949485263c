use Rattle.proto_fields.proofs.LawLemmas.{sound_not_faulty}
use Rattle.proto_fields.proofs.laws.sound_is_not_faulty.Goals as goal

pub returns : goal.returns
returns c = sound_not_faulty
