use Rattle.resolve_sound.proofs.NullSets.{sets_are_safe}
use Rattle.resolve_sound.proofs.pair_laws.set_operations_are_null_safe.Goals as goal

pub returns : goal.returns
returns g c = sets_are_safe _
