use Rattle.proto_fields.proofs.LawLemmas.{fields_from_sound, sound_from_fields}
use Rattle.proto_fields.proofs.laws.sound_by_fields.Goals as goal

pub returns : goal.returns
returns c = λ levels kind bytes. (fields_from_sound levels kind bytes, sound_from_fields levels kind bytes)
