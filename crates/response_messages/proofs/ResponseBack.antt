-- What responses are spelled as is read as the responses, whatever their method.
use Rattle.std.proofs.Common.{ℕ, ◌≤◌, List, ap}
use Rattle.proto_fields.specs.declared.kind.MessageKind.{MessageKind}
use Rattle.proto_fields.specs.declared.kind.MessageKind.TheVariants as kinds
use Rattle.proto_fields.specs.Fields.{Field}
use Rattle.expression_messages.specs.Laws.{IsShort, IsReadBack}
use Rattle.response_messages.specs.declared.response.Response.{Response}
use Rattle.response_messages.specs.declared.response.Response.TheVariants as responses
use Rattle.response_messages.specs.Responses.{execute_response_at, analyze_response_at, config_response_of, interrupt_response_of, release_response_of, response_kind, method_answered, response_at}
use Rattle.response_messages.specs.Spelled.{execute_response_fields, analyze_response_fields, config_response_fields, interrupt_response_fields, release_response_fields, response_fields}
use Rattle.response_messages.specs.Depths.{response_depth}
use Rattle.response_messages.specs.Known.{IsKnownResponse, HasResponseBits}
use Rattle.response_messages.proofs.ExecuteBack.{execute_back}
use Rattle.response_messages.proofs.AnswerBack.{analyze_back, config_back, interrupt_back, release_back}

-- one more constructor around what is read
pub around : {A B : Type 0} (make : A → B) (level : ℕ) (kind : MessageKind) (fields : List Field) (read : List Field → A) (value : A) → IsReadBack level kind fields read value →
    IsReadBack level kind fields (λ found. make (read found)) (make value)
around make level kind fields read value back = record { sound = back.sound; same = ap make back.same }

pub response_read_back : (level : ℕ) (response : Response) → IsKnownResponse response → HasResponseBits response → IsShort (response_fields response) → response_depth response ≤ level →
    IsReadBack level (response_kind (method_answered response)) (response_fields response) (response_at level (method_answered response)) response
response_read_back level (responses.ExecutePlan response) known bits short deep =
    around (λ r. responses.ExecutePlan r) level kinds.ExecutePlanResponse (execute_response_fields response) (execute_response_at level) response (execute_back level response known bits short deep)
response_read_back level (responses.AnalyzePlan response) known bits short deep =
    around (λ r. responses.AnalyzePlan r) level kinds.AnalyzePlanResponse (analyze_response_fields response) (analyze_response_at level) response (analyze_back level response known bits short deep)
response_read_back level (responses.Config response) known bits short deep =
    around (λ r. responses.Config r) level kinds.ConfigResponse (config_response_fields response) config_response_of response (config_back level response bits short deep)
response_read_back level (responses.Interrupt response) known bits short deep =
    around (λ r. responses.Interrupt r) level kinds.InterruptResponse (interrupt_response_fields response) interrupt_response_of response (interrupt_back level response bits short deep)
response_read_back level (responses.ReattachExecute response) known bits short deep =
    around (λ r. responses.ReattachExecute r) level kinds.ExecutePlanResponse (execute_response_fields response) (execute_response_at level) response (execute_back level response known bits short deep)
response_read_back level (responses.ReleaseExecute response) known bits short deep =
    around (λ r. responses.ReleaseExecute r) level kinds.ReleaseExecuteResponse (release_response_fields response) release_response_of response (release_back level response bits short deep)
