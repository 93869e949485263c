use Rattle.request_messages.proofs.RequestTexts.{request_texts}
use Rattle.request_messages.proofs.laws.request_texts_are_kept.Goals as goal

pub returns : goal.returns
returns c = request_texts
