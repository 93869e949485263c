use Rattle.resolve_sound.proofs.NullRelations.{leaves_are_safe}
use Rattle.resolve_sound.proofs.null_laws.leaves_are_null_safe.Goals as goal

pub returns : goal.returns
returns g c = leaves_are_safe _
