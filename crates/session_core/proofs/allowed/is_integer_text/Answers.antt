-- A text that isn't read as a number of 32 bits isn't written for one.
use Rattle.session_core.proofs.IntegerLemmas.{unread-integer_text}
use Rattle.session_core.proofs.allowed.is_integer_text.Goals as goal

pub returns-in_default : goal.returns-in_default
returns-in_default c = unread-integer_text c.args.text.now c.parse.result c.parse.ensures.value.0 c.in_default.not-Ok
