-- Laws over the definitions, for all requests.
use Rattle.std.specs.Prelude.{◌≡◌, ℕ, ◌≤◌, List}
use Rattle.proto_fields.specs.declared.kind.MessageKind.TheVariants as kinds
use Rattle.proto_fields.specs.Fields.{Field, fields_of}
use Rattle.proto_fields.specs.Texts.{KeepsText, KeepsOptionalText, KeepsTexts}
use Rattle.proto_fields.specs.Faults.{IsSound}
use Rattle.expression_messages.specs.Laws.{IsShort, IsReadBack}
use Rattle.response_messages.specs.declared.method.Method.{Method}
use Rattle.connect_messages.specs.declared.request.Request.{Request}
use Rattle.connect_messages.specs.Requests.{execute_request_at, analyze_request_at, request_kind, request_at, method_asked}
use Rattle.connect_messages.specs.Spelled.{request_fields}
use Rattle.connect_messages.specs.Depths.{request_depth}
use Rattle.connect_messages.specs.Known.{IsKnownRequest, HasRequestBits}

-- what a request is spelled as is sound wherever its depth is allowed, and is read back by its method
abbrev pub RequestsAreReadBack : Type 0
RequestsAreReadBack = (level : ℕ) (request : Request) → IsKnownRequest request → HasRequestBits request → IsShort (request_fields request) → request_depth request ≤ level →
    IsReadBack level (request_kind (method_asked request)) (request_fields request) (request_at level (method_asked request)) request

-- what is read of a sound message is the same at every level that suffices
abbrev pub RequestLevelsAgree : Type 0
RequestLevelsAgree = (level more : ℕ) (method : Method) (bytes : List ℕ) → level ≤ more → IsSound level (request_kind method) bytes →
    request_at more method (fields_of bytes) ≡ request_at level method (fields_of bytes)

-- whatever fields are read, the numbers have the bits of their types and the texts are UTF-8, so that what was read can be written again
abbrev pub RequestsAreValid : Type 0
RequestsAreValid = (level : ℕ) (method : Method) (fields : List Field) → HasRequestBits (request_at level method fields)

-- every text of a sound request is read as it stands
pub record AskedTextsAreKept : Type 0 where
  pub execute_session : (level : ℕ) → KeepsText kinds.ExecutePlanRequest 1 (λ fields. (execute_request_at level fields).session_id)
  pub operation_id : (level : ℕ) → KeepsOptionalText kinds.ExecutePlanRequest 6 (λ fields. (execute_request_at level fields).operation_id)
  pub tags : (level : ℕ) → KeepsTexts kinds.ExecutePlanRequest 7 (λ fields. (execute_request_at level fields).tags)
  pub analyze_session : (level : ℕ) → KeepsText kinds.AnalyzePlanRequest 1 (λ fields. (analyze_request_at level fields).session_id)
