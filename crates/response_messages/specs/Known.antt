-- Which responses have a spelling, and that the numbers and texts in them are values of their types.
use Rattle.std.specs.Prelude.{Bool, true, IsTrue, Option, Some, None, IfSome, FitsSigned, IsUtf8}
use Rattle.std.specs.Int.{w64}
use Rattle.std.specs.List.{AllByRecursion}
use Rattle.expression_messages.specs.declared.data_type.TypeMessage.{TypeMessage}
use Rattle.expression_messages.specs.Known.{is_known_type, HasTypeBits}
use Rattle.response_messages.specs.declared.execute.ResponseType.{ResponseType}
use Rattle.response_messages.specs.declared.execute.ResponseType.TheVariants as part
use Rattle.response_messages.specs.declared.execute.ExecutePlanResponse.{ExecutePlanResponse}
use Rattle.response_messages.specs.declared.answers.AnalyzeResult.{AnalyzeResult}
use Rattle.response_messages.specs.declared.answers.AnalyzeResult.TheVariants as said
use Rattle.response_messages.specs.declared.answers.AnalyzePlanResponse.{AnalyzePlanResponse}
use Rattle.response_messages.specs.declared.answers.ConfigResponse.{ConfigResponse}
use Rattle.response_messages.specs.declared.answers.InterruptResponse.{InterruptResponse}
use Rattle.response_messages.specs.declared.answers.ReleaseExecuteResponse.{ReleaseExecuteResponse}
use Rattle.response_messages.specs.declared.response.Response.{Response}
use Rattle.response_messages.specs.declared.response.Response.TheVariants as responses
use Rattle.response_messages.specs.KeyValues.{HasKeyValueBits}

-- ---- nothing is outside the profile

abbrev pub is_known_schema : Option TypeMessage → Bool
is_known_schema None = true
is_known_schema (Some kind) = is_known_type kind

abbrev pub is_known_result : AnalyzeResult → Bool
is_known_result (said.Schema kind) = is_known_type kind
is_known_result (said.IsStreaming value) = true
is_known_result (said.SparkVersion version) = true
is_known_result said.Absent = true

-- a response whose types are all of the profile
abbrev pub is_known_response : Response → Bool
is_known_response (responses.ExecutePlan response) = is_known_schema response.schema
is_known_response (responses.AnalyzePlan response) = is_known_result response.result
is_known_response (responses.Config response) = true
is_known_response (responses.Interrupt response) = true
is_known_response (responses.ReattachExecute response) = is_known_schema response.schema
is_known_response (responses.ReleaseExecute response) = true

abbrev pub IsKnownResponse : Response → Type 0
IsKnownResponse response = IsTrue (is_known_response response)

-- ---- numbers have the bits of their types, and texts are UTF-8

abbrev pub HasResponseTypeBits : ResponseType → Type 0
HasResponseTypeBits (part.ArrowBatch batch) = FitsSigned w64 batch.row_count
HasResponseTypeBits part.ResultComplete = Unit {0}
HasResponseTypeBits part.Absent = Unit {0}

pub record HasExecuteResponseBits (response : ExecutePlanResponse) : Type 0 where
  pub session_id : IsUtf8 response.session_id
  pub response_type : HasResponseTypeBits response.response_type
  pub schema : IfSome response.schema HasTypeBits
  pub operation_id : IsUtf8 response.operation_id
  pub response_id : IsUtf8 response.response_id

abbrev pub HasResultBits : AnalyzeResult → Type 0
HasResultBits (said.Schema kind) = HasTypeBits kind
HasResultBits (said.IsStreaming value) = Unit {0}
HasResultBits (said.SparkVersion version) = IsUtf8 version
HasResultBits said.Absent = Unit {0}

pub record HasAnalyzeResponseBits (response : AnalyzePlanResponse) : Type 0 where
  pub session_id : IsUtf8 response.session_id
  pub result : HasResultBits response.result

pub record HasConfigResponseBits (response : ConfigResponse) : Type 0 where
  pub session_id : IsUtf8 response.session_id
  pub pairs : AllByRecursion HasKeyValueBits response.pairs

pub record HasInterruptResponseBits (response : InterruptResponse) : Type 0 where
  pub session_id : IsUtf8 response.session_id
  pub interrupted_ids : AllByRecursion IsUtf8 response.interrupted_ids

pub record HasReleaseResponseBits (response : ReleaseExecuteResponse) : Type 0 where
  pub session_id : IsUtf8 response.session_id
  pub operation_id : IfSome response.operation_id IsUtf8

abbrev pub HasResponseBits : Response → Type 0
HasResponseBits (responses.ExecutePlan response) = HasExecuteResponseBits response
HasResponseBits (responses.AnalyzePlan response) = HasAnalyzeResponseBits response
HasResponseBits (responses.Config response) = HasConfigResponseBits response
HasResponseBits (responses.Interrupt response) = HasInterruptResponseBits response
HasResponseBits (responses.ReattachExecute response) = HasExecuteResponseBits response
HasResponseBits (responses.ReleaseExecute response) = HasReleaseResponseBits response
