use Rattle.resolve_sound.proofs.MadeRelations.{projections_sound}
use Rattle.resolve_sound.proofs.laws.projections_are_sound.Goals as goal

pub returns : goal.returns
returns c = projections_sound
