use Rattle.connect_messages.proofs.AskedValid.{asked_texts}
use Rattle.connect_messages.proofs.laws.asked_texts_are_kept.Goals as goal

pub returns : goal.returns
returns c = asked_texts
