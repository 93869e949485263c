use Rattle.resolve_sound.proofs.KeptRelations.{renamed_are_sound}
use Rattle.resolve_sound.proofs.laws.renamed_relations_are_sound.Goals as goal

pub returns : goal.returns
returns g c = renamed_are_sound _
