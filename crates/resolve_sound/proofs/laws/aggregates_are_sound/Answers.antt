use Rattle.resolve_sound.proofs.MadeRelations.{aggregates_sound}
use Rattle.resolve_sound.proofs.laws.aggregates_are_sound.Goals as goal

pub returns : goal.returns
returns c = aggregates_sound
