-- What requests are spelled as is read as the requests, whatever their method.
use Rattle.std.proofs.Common.{ℕ, ◌≤◌}
use Rattle.proto_fields.specs.declared.kind.MessageKind.TheVariants as kinds
use Rattle.expression_messages.specs.Laws.{IsShort, IsReadBack}
use Rattle.request_messages.specs.Requests.{reattach_request_of, release_request_of, interrupt_request_of}
use Rattle.request_messages.specs.Spelled.{reattach_fields, release_fields, interrupt_fields}
use Rattle.request_messages.specs.Configs.{config_request_of, config_fields}
use Rattle.request_messages.proofs.RequestsBack.{reattach_back, release_back, interrupt_back}
use Rattle.request_messages.proofs.ConfigBack.{config_back}
use Rattle.connect_messages.specs.declared.request.Request.{Request}
use Rattle.connect_messages.specs.declared.request.Request.TheVariants as requests
use Rattle.connect_messages.specs.Requests.{execute_request_at, analyze_request_at, request_kind, request_at, method_asked}
use Rattle.connect_messages.specs.Spelled.{execute_fields, analyze_fields, request_fields}
use Rattle.connect_messages.specs.Depths.{request_depth}
use Rattle.connect_messages.specs.Known.{IsKnownRequest, HasRequestBits}
use Rattle.connect_messages.proofs.ExecuteBack.{execute_back}
use Rattle.connect_messages.proofs.AnalyzeBack.{analyze_back}
use Rattle.response_messages.proofs.ResponseBack.{around}

pub request_read_back : (level : ℕ) (request : Request) → IsKnownRequest request → HasRequestBits request → IsShort (request_fields request) → request_depth request ≤ level →
    IsReadBack level (request_kind (method_asked request)) (request_fields request) (request_at level (method_asked request)) request
request_read_back level (requests.ExecutePlan request) known bits short deep =
    around (λ r. requests.ExecutePlan r) level kinds.ExecutePlanRequest (execute_fields request) (execute_request_at level) request (execute_back level request known bits short deep)
request_read_back level (requests.AnalyzePlan request) known bits short deep =
    around (λ r. requests.AnalyzePlan r) level kinds.AnalyzePlanRequest (analyze_fields request) (analyze_request_at level) request (analyze_back level request known bits short deep)
request_read_back level (requests.Config request) known bits short deep =
    around (λ r. requests.Config r) level kinds.ConfigRequest (config_fields request) config_request_of request (config_back level request bits short deep)
request_read_back level (requests.Interrupt request) known bits short deep =
    around (λ r. requests.Interrupt r) level kinds.InterruptRequest (interrupt_fields request) interrupt_request_of request (interrupt_back level request bits short deep)
request_read_back level (requests.ReattachExecute request) known bits short deep =
    around (λ r. requests.ReattachExecute r) level kinds.ReattachExecuteRequest (reattach_fields request) reattach_request_of request (reattach_back level request bits short deep)
request_read_back level (requests.ReleaseExecute request) known bits short deep =
    around (λ r. requests.ReleaseExecute r) level kinds.ReleaseExecuteRequest (release_fields request) release_request_of request (release_back level request bits short deep)
