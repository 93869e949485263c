use Rattle.resolve_sound.proofs.SetRelations.{sets_sound}
use Rattle.resolve_sound.proofs.pair_laws.set_operations_are_sound.Goals as goal

pub returns : goal.returns
returns g c = sets_sound _
