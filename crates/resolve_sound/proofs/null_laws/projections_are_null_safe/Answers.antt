use Rattle.resolve_sound.proofs.NullRelations.{projections_are_safe}
use Rattle.resolve_sound.proofs.null_laws.projections_are_null_safe.Goals as goal

pub returns : goal.returns
returns c = projections_are_safe
