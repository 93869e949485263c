-- A key that is none of the five has no preset.
use Rattle.session_core.proofs.AnswerLemmas.{no_preset}
use Rattle.session_core.proofs.presets.preset_value.Goals as goal

pub returns-in_default : goal.returns-in_default
returns-in_default c =
    no_preset c.args.key.now c.in_default.not-text c.in_default.not-text-2 c.in_default.not-text-3 c.in_default.not-text-4 c.in_default.not-text-5
