use Rattle.request_messages.proofs.RequestsValid.{user_context_valid, reattach_valid, release_valid, interrupt_valid, config_valid}
use Rattle.request_messages.proofs.laws.requests_are_valid.Goals as goal

pub returns : goal.returns
returns c = record {
  user_contexts = user_context_valid;
  reattach_requests = reattach_valid;
  release_requests = release_valid;
  interrupt_requests = interrupt_valid;
  config_requests = config_valid;
}
