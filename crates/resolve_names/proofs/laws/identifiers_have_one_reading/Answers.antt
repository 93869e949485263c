use Rattle.resolve_names.proofs.Sound.{one_reading}
use Rattle.resolve_names.proofs.laws.identifiers_have_one_reading.Goals as goal

pub returns : goal.returns
returns c = one_reading
