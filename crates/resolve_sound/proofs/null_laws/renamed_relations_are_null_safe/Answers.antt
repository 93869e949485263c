use Rattle.resolve_sound.proofs.NullRelations.{renamed_are_safe}
use Rattle.resolve_sound.proofs.null_laws.renamed_relations_are_null_safe.Goals as goal

pub returns : goal.returns
returns g c = renamed_are_safe _
