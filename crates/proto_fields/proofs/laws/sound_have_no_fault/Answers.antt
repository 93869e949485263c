use Rattle.proto_fields.proofs.FaultLemmas.{sound_from_none, none_from_sound}
use Rattle.proto_fields.proofs.laws.sound_have_no_fault.Goals as goal

pub returns : goal.returns
returns c = λ levels kind base bytes fits. (λ e. sound_from_none levels kind base bytes fits e, λ sound. none_from_sound levels kind base bytes sound)
