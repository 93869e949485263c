use Rattle.resolve_sound.proofs.KeptRelations.{kept_are_sound}
use Rattle.resolve_sound.proofs.laws.kept_relations_are_sound.Goals as goal

pub returns : goal.returns
returns g c = kept_are_sound _
