use Rattle.resolve_sound.proofs.KeptRelations.{tested_are_sound}
use Rattle.resolve_sound.proofs.laws.tested_relations_are_sound.Goals as goal

pub returns : goal.returns
returns c = tested_are_sound
