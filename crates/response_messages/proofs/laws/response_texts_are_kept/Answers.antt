use Rattle.response_messages.proofs.ResponseTexts.{response_texts}
use Rattle.response_messages.proofs.laws.response_texts_are_kept.Goals as goal

pub returns : goal.returns
returns c = response_texts
