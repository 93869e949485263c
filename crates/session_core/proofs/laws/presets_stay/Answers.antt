use Rattle.session_core.proofs.PresetLemmas.{presets_stay}
use Rattle.session_core.proofs.laws.presets_stay.Goals as goal

pub returns : goal.returns
returns c = presets_stay
