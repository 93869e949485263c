use Rattle.proto_fields.proofs.SpellLemmas.{spelled_sound}
use Rattle.proto_fields.proofs.laws.spelled_is_sound.Goals as goal

pub returns : goal.returns
returns c = spelled_sound
