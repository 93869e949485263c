use Rattle.resolve_sound.proofs.NullRelations.{tested_are_safe}
use Rattle.resolve_sound.proofs.null_laws.tested_relations_are_null_safe.Goals as goal

pub returns : goal.returns
returns c = tested_are_safe
