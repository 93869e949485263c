use Rattle.response_messages.proofs.ResponsesValid.{key_value_valid, response_valid}
use Rattle.response_messages.proofs.laws.responses_are_valid.Goals as goal

pub returns : goal.returns
returns c = record { key_values = key_value_valid; responses = response_valid }
