use Rattle.resolve_sound.proofs.JoinedRelations.{joins_sound}
use Rattle.resolve_sound.proofs.pair_laws.joins_are_sound.Goals as goal

pub returns : goal.returns
returns c = joins_sound
