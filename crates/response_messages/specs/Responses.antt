-- Responses, read of the fields of their messages (`base.proto`). A level is how many messages may be nested, the response itself among them.
use Rattle.std.specs.Prelude.{ℕ, ◌-◌, ◌==◌, if◌then◌else◌, List, [], option_map, unwrap_or}
use Rattle.proto_fields.specs.declared.kind.MessageKind.{MessageKind}
use Rattle.proto_fields.specs.declared.kind.MessageKind.TheVariants as kinds
use Rattle.proto_fields.specs.Fields.{Field}
use Rattle.proto_fields.specs.Readings.{bool_field, int64_field, text_field, optional_text, texts, last_payload, merged, Member, latest}
use Rattle.expression_messages.specs.declared.data_type.TypeMessage.{TypeMessage}
use Rattle.expression_messages.specs.Messages.{message_at, messages_at}
use Rattle.expression_messages.specs.Types.{type_at}
use Rattle.response_messages.specs.declared.method.Method.{Method}
use Rattle.response_messages.specs.declared.method.Method.TheVariants as methods
use Rattle.response_messages.specs.declared.execute.ArrowBatch.{ArrowBatch}
use Rattle.response_messages.specs.declared.execute.ResponseType.{ResponseType}
use Rattle.response_messages.specs.declared.execute.ResponseType.TheVariants as part
use Rattle.response_messages.specs.declared.execute.ExecutePlanResponse.{ExecutePlanResponse}
use Rattle.response_messages.specs.declared.answers.AnalyzeResult.{AnalyzeResult}
use Rattle.response_messages.specs.declared.answers.AnalyzeResult.TheVariants as said
use Rattle.response_messages.specs.declared.answers.AnalyzePlanResponse.{AnalyzePlanResponse}
use Rattle.response_messages.specs.declared.answers.ConfigResponse.{ConfigResponse}
use Rattle.response_messages.specs.declared.answers.InterruptResponse.{InterruptResponse}
use Rattle.response_messages.specs.declared.answers.ReleaseExecuteResponse.{ReleaseExecuteResponse}
use Rattle.response_messages.specs.declared.response.Response.{Response}
use Rattle.response_messages.specs.declared.response.Response.TheVariants as responses
use Rattle.response_messages.specs.KeyValues.{key_value_of}

-- ---- the responses of a running plan

-- plain bytes, which are empty where no record has them
abbrev pub bytes_field : ℕ → List Field → List ℕ
bytes_field number fields = unwrap_or (last_payload number fields) []

-- row_count 1, data 2
abbrev pub arrow_batch_of : List Field → ArrowBatch
arrow_batch_of fields = record { row_count = int64_field 1 fields; payload = bytes_field 2 fields }

-- arrow_batch 2, result_complete 14, whose fields say nothing
abbrev pub execute_member : Member → ResponseType
execute_member member =
    if member.number == 2 then part.ArrowBatch (arrow_batch_of (message_at 2 member.since)) else part.ResultComplete

abbrev pub response_type_of : List Field → ResponseType
response_type_of fields = unwrap_or (option_map execute_member (latest kinds.ExecutePlanResponse fields)) part.Absent

-- session_id 1, arrow_batch 2, schema 7, operation_id 12, response_id 13, result_complete 14, where the type of a schema is read so
abbrev pub execute_response_of : (List Field → TypeMessage) → List Field → ExecutePlanResponse
execute_response_of types fields = record {
  session_id = text_field 1 fields;
  response_type = response_type_of fields;
  schema = option_map types (merged 7 fields);
  operation_id = text_field 12 fields;
  response_id = text_field 13 fields;
}

abbrev pub execute_response_at : ℕ → List Field → ExecutePlanResponse
execute_response_at level fields = execute_response_of (type_at (level - 1)) fields

-- ---- the other responses

-- schema 2, whose message holds the type as 1; is_streaming 6 and spark_version 8, whose messages hold the bool and the text as 1
abbrev pub analyze_member : (List Field → TypeMessage) → Member → AnalyzeResult
analyze_member types member =
    if member.number == 2 then said.Schema (types (message_at 1 (message_at 2 member.since)))
    else if member.number == 6 then said.IsStreaming (bool_field 1 (message_at 6 member.since))
    else said.SparkVersion (text_field 1 (message_at 8 member.since))

abbrev pub result_of : (List Field → TypeMessage) → List Field → AnalyzeResult
result_of types fields = unwrap_or (option_map (analyze_member types) (latest kinds.AnalyzePlanResponse fields)) said.Absent

-- session_id 1, schema 2, is_streaming 6, spark_version 8, where the type of a schema is read so
abbrev pub analyze_response_of : (List Field → TypeMessage) → List Field → AnalyzePlanResponse
analyze_response_of types fields = record { session_id = text_field 1 fields; result = result_of types fields }

abbrev pub analyze_response_at : ℕ → List Field → AnalyzePlanResponse
analyze_response_at level fields = analyze_response_of (type_at (level - 2)) fields

-- session_id 1, pairs 2
abbrev pub config_response_of : List Field → ConfigResponse
config_response_of fields = record { session_id = text_field 1 fields; pairs = messages_at key_value_of 2 fields }

-- session_id 1, interrupted_ids 2
abbrev pub interrupt_response_of : List Field → InterruptResponse
interrupt_response_of fields = record { session_id = text_field 1 fields; interrupted_ids = texts 2 fields }

-- session_id 1, operation_id 2
abbrev pub release_response_of : List Field → ReleaseExecuteResponse
release_response_of fields = record { session_id = text_field 1 fields; operation_id = optional_text 2 fields }

-- ---- the response of a method

-- the message that a method answers; ReattachExecute answers those of ExecutePlan
abbrev pub response_kind : Method → MessageKind
response_kind methods.ExecutePlan = kinds.ExecutePlanResponse
response_kind methods.AnalyzePlan = kinds.AnalyzePlanResponse
response_kind methods.Config = kinds.ConfigResponse
response_kind methods.Interrupt = kinds.InterruptResponse
response_kind methods.ReattachExecute = kinds.ExecutePlanResponse
response_kind methods.ReleaseExecute = kinds.ReleaseExecuteResponse

-- the method that a response answers
abbrev pub method_answered : Response → Method
method_answered (responses.ExecutePlan response) = methods.ExecutePlan
method_answered (responses.AnalyzePlan response) = methods.AnalyzePlan
method_answered (responses.Config response) = methods.Config
method_answered (responses.Interrupt response) = methods.Interrupt
method_answered (responses.ReattachExecute response) = methods.ReattachExecute
method_answered (responses.ReleaseExecute response) = methods.ReleaseExecute

-- what the fields of a method's response say, where so many messages may be nested
abbrev pub response_at : ℕ → Method → List Field → Response
response_at level methods.ExecutePlan fields = responses.ExecutePlan (execute_response_at level fields)
response_at level methods.AnalyzePlan fields = responses.AnalyzePlan (analyze_response_at level fields)
response_at level methods.Config fields = responses.Config (config_response_of fields)
response_at level methods.Interrupt fields = responses.Interrupt (interrupt_response_of fields)
response_at level methods.ReattachExecute fields = responses.ReattachExecute (execute_response_at level fields)
response_at level methods.ReleaseExecute fields = responses.ReleaseExecute (release_response_of fields)
