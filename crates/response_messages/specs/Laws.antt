-- Laws over the definitions, for all responses.
use Rattle.std.specs.Prelude.{◌≡◌, ℕ, ◌≤◌, List, [], unwrap_or}
use Rattle.proto_fields.specs.declared.kind.MessageKind.TheVariants as kinds
use Rattle.proto_fields.specs.Fields.{Field, fields_of}
use Rattle.proto_fields.specs.Readings.{last_payload}
use Rattle.proto_fields.specs.Texts.{AreSoundFields, KeepsText, KeepsOptionalText, KeepsTexts}
use Rattle.expression_messages.specs.Messages.{message_at}
use Rattle.expression_messages.specs.Types.{type_at}
use Rattle.response_messages.specs.declared.answers.AnalyzeResult.TheVariants as said
use Rattle.proto_fields.specs.Faults.{IsSound}
use Rattle.expression_messages.specs.Laws.{IsShort, IsReadBack}
use Rattle.response_messages.specs.declared.method.Method.{Method}
use Rattle.response_messages.specs.declared.key_value.KeyValue.{KeyValue}
use Rattle.response_messages.specs.declared.response.Response.{Response}
use Rattle.response_messages.specs.KeyValues.{key_value_of, key_value_fields, HasKeyValueBits}
use Rattle.response_messages.specs.Responses.{execute_response_at, analyze_member, analyze_response_at, config_response_of, interrupt_response_of, release_response_of, response_kind, method_answered, response_at}
use Rattle.response_messages.specs.Spelled.{response_fields}
use Rattle.response_messages.specs.Depths.{response_depth}
use Rattle.response_messages.specs.Known.{IsKnownResponse, HasResponseBits}

-- what a pair is spelled as is sound and read back wherever a message may stand
abbrev pub KeyValuesAreReadBack : Type 0
KeyValuesAreReadBack = (level : ℕ) (pair : KeyValue) → HasKeyValueBits pair → IsShort (key_value_fields pair) → 1 ≤ level →
    IsReadBack level kinds.KeyValue (key_value_fields pair) key_value_of pair

-- what a response is spelled as is a sound message of its method and is read back by it, wherever its depth is allowed
abbrev pub ResponsesAreReadBack : Type 0
ResponsesAreReadBack = (level : ℕ) (response : Response) → IsKnownResponse response → HasResponseBits response → IsShort (response_fields response) → response_depth response ≤ level →
    IsReadBack level (response_kind (method_answered response)) (response_fields response) (response_at level (method_answered response)) response

-- what is read of a sound response is the same at every level that suffices
abbrev pub ResponseLevelsAgree : Type 0
ResponseLevelsAgree = (level more : ℕ) (method : Method) (bytes : List ℕ) → level ≤ more → IsSound level (response_kind method) bytes →
    response_at more method (fields_of bytes) ≡ response_at level method (fields_of bytes)

-- whatever fields are read, the numbers have the bits of their types and the texts are UTF-8, so that what was read can be written again
pub record ResponsesAreValid : Type 0 where
  pub key_values : (fields : List Field) → HasKeyValueBits (key_value_of fields)
  pub responses : (level : ℕ) (method : Method) (fields : List Field) → HasResponseBits (response_at level method fields)

-- every text of a sound response is read as it stands
pub record ResponseTextsAreKept : Type 0 where
  pub key : KeepsText kinds.KeyValue 1 (λ fields. (key_value_of fields).key)
  pub value : KeepsOptionalText kinds.KeyValue 2 (λ fields. (key_value_of fields).value)
  pub execute_session : (level : ℕ) → KeepsText kinds.ExecutePlanResponse 1 (λ fields. (execute_response_at level fields).session_id)
  pub execute_operation : (level : ℕ) → KeepsText kinds.ExecutePlanResponse 12 (λ fields. (execute_response_at level fields).operation_id)
  pub response_id : (level : ℕ) → KeepsText kinds.ExecutePlanResponse 13 (λ fields. (execute_response_at level fields).response_id)
  pub analyze_session : (level : ℕ) → KeepsText kinds.AnalyzePlanResponse 1 (λ fields. (analyze_response_at level fields).session_id)
  pub spark_version : (level levels : ℕ) (since : List Field) → AreSoundFields levels kinds.SparkVersionAnswer (message_at 8 since) →
      analyze_member (type_at level) (record { number = 8; since = since }) ≡ said.SparkVersion (unwrap_or (last_payload 1 (message_at 8 since)) [])
  pub config_session : KeepsText kinds.ConfigResponse 1 (λ fields. (config_response_of fields).session_id)
  pub interrupt_session : KeepsText kinds.InterruptResponse 1 (λ fields. (interrupt_response_of fields).session_id)
  pub interrupted_ids : KeepsTexts kinds.InterruptResponse 2 (λ fields. (interrupt_response_of fields).interrupted_ids)
  pub release_session : KeepsText kinds.ReleaseExecuteResponse 1 (λ fields. (release_response_of fields).session_id)
  pub release_operation : KeepsOptionalText kinds.ReleaseExecuteResponse 2 (λ fields. (release_response_of fields).operation_id)
