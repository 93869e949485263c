use Rattle.request_messages.proofs.FieldsBack.{user_context_back}
use Rattle.request_messages.proofs.laws.user_contexts_are_read_back.Goals as goal

pub returns : goal.returns
returns c = user_context_back
