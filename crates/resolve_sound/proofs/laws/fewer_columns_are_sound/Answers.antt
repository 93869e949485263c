use Rattle.resolve_sound.proofs.MadeRelations.{fewer_sound}
use Rattle.resolve_sound.proofs.laws.fewer_columns_are_sound.Goals as goal

pub returns : goal.returns
returns g c = fewer_sound _
