use Rattle.resolve_sound.proofs.NullJoins.{joins_are_safe}
use Rattle.resolve_sound.proofs.pair_laws.joins_are_null_safe.Goals as goal

pub returns : goal.returns
returns c = joins_are_safe
