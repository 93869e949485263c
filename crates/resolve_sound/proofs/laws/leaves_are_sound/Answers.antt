use Rattle.resolve_sound.proofs.KeptRelations.{leaves_are_sound}
use Rattle.resolve_sound.proofs.laws.leaves_are_sound.Goals as goal

pub returns : goal.returns
returns g c = leaves_are_sound _
