use Rattle.resolve_sound.proofs.NullGroups.{aggregates_are_safe}
use Rattle.resolve_sound.proofs.null_laws.aggregates_are_null_safe.Goals as goal

pub returns : goal.returns
returns c = aggregates_are_safe
