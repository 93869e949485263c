use Rattle.resolve_sound.proofs.NullRelations.{kept_are_safe}
use Rattle.resolve_sound.proofs.null_laws.kept_relations_are_null_safe.Goals as goal

pub returns : goal.returns
returns g c = kept_are_safe _
