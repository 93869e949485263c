use Rattle.request_messages.proofs.FieldsBack.{reattachable_back}
use Rattle.request_messages.proofs.laws.reattachable_is_read_back.Goals as goal

pub returns : goal.returns
returns c = reattachable_back
