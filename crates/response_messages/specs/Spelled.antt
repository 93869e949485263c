-- Responses as fields, in one spelling: by ascending number, a scalar left out at its default, a present optional and a set member of a oneof
-- written (`base.proto`).
use Rattle.std.specs.Prelude.{List, [], ◌++◌, Option, option_map}
use Rattle.proto_fields.specs.Fields.{Field}
use Rattle.proto_fields.specs.Spelling.{spell, payload_fields, int_fields, bool_fields, text_fields, optional_payload_fields}
use Rattle.expression_messages.specs.declared.data_type.TypeMessage.{TypeMessage}
use Rattle.expression_messages.specs.Messages.{repeated_fields, messages_fields}
use Rattle.expression_messages.specs.Spelled.{type_fields}
use Rattle.response_messages.specs.declared.execute.ArrowBatch.{ArrowBatch}
use Rattle.response_messages.specs.declared.execute.ResponseType.{ResponseType}
use Rattle.response_messages.specs.declared.execute.ResponseType.TheVariants as part
use Rattle.response_messages.specs.declared.execute.ExecutePlanResponse.{ExecutePlanResponse}
use Rattle.response_messages.specs.declared.answers.AnalyzeResult.{AnalyzeResult}
use Rattle.response_messages.specs.declared.answers.AnalyzeResult.TheVariants as said
use Rattle.response_messages.specs.declared.answers.AnalyzePlanResponse.{AnalyzePlanResponse}
use Rattle.response_messages.specs.declared.answers.ConfigResponse.{ConfigResponse}
use Rattle.response_messages.specs.declared.answers.InterruptResponse.{InterruptResponse}
use Rattle.response_messages.specs.declared.answers.ReleaseExecuteResponse.{ReleaseExecuteResponse}
use Rattle.response_messages.specs.declared.response.Response.{Response}
use Rattle.response_messages.specs.declared.response.Response.TheVariants as responses
use Rattle.response_messages.specs.KeyValues.{key_value_fields}

-- ---- the responses of a running plan

-- row_count 1, data 2
abbrev pub arrow_batch_fields : ArrowBatch → List Field
arrow_batch_fields batch = int_fields 1 batch.row_count ++ text_fields 2 batch.payload

-- arrow_batch 2, where that is the member of the oneof
abbrev pub batch_fields : ResponseType → List Field
batch_fields (part.ArrowBatch batch) = payload_fields 2 (spell (arrow_batch_fields batch))
batch_fields part.ResultComplete = []
batch_fields part.Absent = []

-- result_complete 14, where that is the member of the oneof: an empty message
abbrev pub complete_fields : ResponseType → List Field
complete_fields (part.ArrowBatch batch) = []
complete_fields part.ResultComplete = payload_fields 14 []
complete_fields part.Absent = []

-- schema 7, where there is one
abbrev pub schema_fields : Option TypeMessage → List Field
schema_fields schema = optional_payload_fields 7 (option_map (λ kind. spell (type_fields kind)) schema)

-- session_id 1, arrow_batch 2, schema 7, operation_id 12, response_id 13, result_complete 14
abbrev pub execute_response_fields : ExecutePlanResponse → List Field
execute_response_fields response =
    text_fields 1 response.session_id ++ batch_fields response.response_type ++ schema_fields response.schema
    ++ text_fields 12 response.operation_id ++ text_fields 13 response.response_id ++ complete_fields response.response_type

-- ---- the other responses

-- schema 2, is_streaming 6 and spark_version 8, each a message with the field 1
abbrev pub result_fields : AnalyzeResult → List Field
result_fields (said.Schema kind) = payload_fields 2 (spell (payload_fields 1 (spell (type_fields kind))))
result_fields (said.IsStreaming value) = payload_fields 6 (spell (bool_fields 1 value))
result_fields (said.SparkVersion version) = payload_fields 8 (spell (text_fields 1 version))
result_fields said.Absent = []

-- session_id 1, schema 2, is_streaming 6, spark_version 8
abbrev pub analyze_response_fields : AnalyzePlanResponse → List Field
analyze_response_fields response = text_fields 1 response.session_id ++ result_fields response.result

-- session_id 1, pairs 2
abbrev pub config_response_fields : ConfigResponse → List Field
config_response_fields response = text_fields 1 response.session_id ++ messages_fields key_value_fields 2 response.pairs

-- session_id 1, interrupted_ids 2
abbrev pub interrupt_response_fields : InterruptResponse → List Field
interrupt_response_fields response = text_fields 1 response.session_id ++ repeated_fields 2 response.interrupted_ids

-- session_id 1, operation_id 2
abbrev pub release_response_fields : ReleaseExecuteResponse → List Field
release_response_fields response = text_fields 1 response.session_id ++ optional_payload_fields 2 response.operation_id

-- a response, whatever its method
abbrev pub response_fields : Response → List Field
response_fields (responses.ExecutePlan response) = execute_response_fields response
response_fields (responses.AnalyzePlan response) = analyze_response_fields response
response_fields (responses.Config response) = config_response_fields response
response_fields (responses.Interrupt response) = interrupt_response_fields response
response_fields (responses.ReattachExecute response) = execute_response_fields response
response_fields (responses.ReleaseExecute response) = release_response_fields response
