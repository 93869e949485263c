use Rattle.resolve_sound.proofs.NullRelations.{fewer_are_safe}
use Rattle.resolve_sound.proofs.null_laws.fewer_columns_are_null_safe.Goals as goal

pub returns : goal.returns
returns g c = fewer_are_safe _
