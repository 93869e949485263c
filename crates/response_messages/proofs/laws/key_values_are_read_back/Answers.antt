use Rattle.response_messages.proofs.PairBack.{key_value_read_back}
use Rattle.response_messages.proofs.laws.key_values_are_read_back.Goals as goal

pub returns : goal.returns
returns c = key_value_read_back
