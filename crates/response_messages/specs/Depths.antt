-- How many messages are nested in the spelling of a response, the response itself among them. An empty message is a message.
use Rattle.std.specs.Prelude.{ℕ, ◌+◌, List, [], ◌∷◌, Option, Some, None, max}
use Rattle.expression_messages.specs.declared.data_type.TypeMessage.{TypeMessage}
use Rattle.expression_messages.specs.Depths.{type_depth}
use Rattle.response_messages.specs.declared.execute.ResponseType.{ResponseType}
use Rattle.response_messages.specs.declared.execute.ResponseType.TheVariants as part
use Rattle.response_messages.specs.declared.execute.ExecutePlanResponse.{ExecutePlanResponse}
use Rattle.response_messages.specs.declared.answers.AnalyzeResult.{AnalyzeResult}
use Rattle.response_messages.specs.declared.answers.AnalyzeResult.TheVariants as said
use Rattle.response_messages.specs.declared.response.Response.{Response}
use Rattle.response_messages.specs.declared.response.Response.TheVariants as responses
use Rattle.response_messages.specs.declared.key_value.KeyValue.{KeyValue}

-- what a batch or the mark of the end adds
abbrev pub response_type_depth : ResponseType → ℕ
response_type_depth (part.ArrowBatch batch) = 1
response_type_depth part.ResultComplete = 1
response_type_depth part.Absent = 0

-- what a schema adds
abbrev pub schema_depth : Option TypeMessage → ℕ
schema_depth None = 0
schema_depth (Some kind) = type_depth kind

abbrev pub execute_response_depth : ExecutePlanResponse → ℕ
execute_response_depth response = 1 + max (response_type_depth response.response_type) (schema_depth response.schema)

-- what the result of an analysis adds
abbrev pub result_depth : AnalyzeResult → ℕ
result_depth (said.Schema kind) = 1 + type_depth kind
result_depth (said.IsStreaming value) = 1
result_depth (said.SparkVersion version) = 1
result_depth said.Absent = 0

-- what pairs add
abbrev pub pairs_depth : List KeyValue → ℕ
pairs_depth [] = 0
pairs_depth (pair ∷ pairs) = 1

-- a response, whatever its method
abbrev pub response_depth : Response → ℕ
response_depth (responses.ExecutePlan response) = execute_response_depth response
response_depth (responses.AnalyzePlan response) = 1 + result_depth response.result
response_depth (responses.Config response) = 1 + pairs_depth response.pairs
response_depth (responses.Interrupt response) = 1
response_depth (responses.ReattachExecute response) = execute_response_depth response
response_depth (responses.ReleaseExecute response) = 1
