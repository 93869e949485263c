-- What is read of any fields is valid.
use Rattle.std.proofs.Common.{◌≡◌, ℕ, ◌-◌, ◌==◌, List, refl, sym, ap, ◌∙◌, subst}
use Rattle.proto_fields.specs.declared.kind.MessageKind.TheVariants as kinds
use Rattle.proto_fields.specs.Fields.{Field}
use Rattle.proto_fields.specs.Readings.{bool_field, text_field, merged, Member, latest}
use Rattle.proto_fields.proofs.TextReadings.{int64_valid, text_valid, optional_text_valid, texts_valid}
use Rattle.expression_messages.specs.Messages.{message_at}
use Rattle.expression_messages.specs.Types.{type_at}
use Rattle.expression_messages.specs.Known.{HasTypeBits}
use Rattle.expression_messages.proofs.Valid.{either, one_of, if_there, each_read, type_valid}
use Rattle.response_messages.specs.declared.method.Method.{Method}
use Rattle.response_messages.specs.declared.response.Response.{Response}
use Rattle.response_messages.specs.declared.method.Method.TheVariants as methods
use Rattle.response_messages.specs.declared.execute.ResponseType.TheVariants as part
use Rattle.response_messages.specs.declared.answers.AnalyzeResult.TheVariants as said
use Rattle.response_messages.specs.KeyValues.{key_value_of, HasKeyValueBits}
use Rattle.response_messages.specs.Responses.{arrow_batch_of, execute_member, response_type_of, execute_response_at, analyze_member, result_of, analyze_response_at, config_response_of, interrupt_response_of, release_response_of, method_answered, response_at}
use Rattle.response_messages.specs.Known.{HasResponseTypeBits, HasExecuteResponseBits, HasResultBits, HasAnalyzeResponseBits, HasConfigResponseBits, HasInterruptResponseBits, HasReleaseResponseBits, HasResponseBits}

pub key_value_valid : (fields : List Field) → HasKeyValueBits (key_value_of fields)
key_value_valid fields = record { key = text_valid 1 fields; value = optional_text_valid 2 fields }

response_type_valid : (fields : List Field) → HasResponseTypeBits (response_type_of fields)
response_type_valid fields =
    one_of HasResponseTypeBits execute_member part.Absent
    (λ member. either HasResponseTypeBits (member.number == 2) (part.ArrowBatch (arrow_batch_of (message_at 2 member.since))) part.ResultComplete
    (int64_valid 1 (message_at 2 member.since)) tt)
    tt (latest kinds.ExecutePlanResponse fields)

execute_valid : (level : ℕ) (fields : List Field) → HasExecuteResponseBits (execute_response_at level fields)
execute_valid level fields = record {
  session_id = text_valid 1 fields;
  response_type = response_type_valid fields;
  schema = if_there HasTypeBits (type_at (level - 1)) (type_valid (level - 1)) (merged 7 fields);
  operation_id = text_valid 12 fields;
  response_id = text_valid 13 fields;
}

result_valid : (level : ℕ) (fields : List Field) → HasResultBits (result_of (type_at level) fields)
result_valid level fields = one_of HasResultBits (analyze_member (type_at level)) said.Absent each tt (latest kinds.AnalyzePlanResponse fields)
  where
    each : (member : Member) → HasResultBits (analyze_member (type_at level) member)
    each member =
        either HasResultBits (member.number == 2) (said.Schema (type_at level (message_at 1 (message_at 2 member.since)))) _ (type_valid level (message_at 1 (message_at 2 member.since)))
        (either HasResultBits (member.number == 6) (said.IsStreaming (bool_field 1 (message_at 6 member.since))) (said.SparkVersion (text_field 1 (message_at 8 member.since))) tt
        (text_valid 1 (message_at 8 member.since)))

analyze_valid : (level : ℕ) (fields : List Field) → HasAnalyzeResponseBits (analyze_response_at level fields)
analyze_valid level fields = record { session_id = text_valid 1 fields; result = result_valid (level - 2) fields }

config_valid : (fields : List Field) → HasConfigResponseBits (config_response_of fields)
config_valid fields = record { session_id = text_valid 1 fields; pairs = each_read HasKeyValueBits key_value_of key_value_valid 2 fields }

interrupt_valid : (fields : List Field) → HasInterruptResponseBits (interrupt_response_of fields)
interrupt_valid fields = record { session_id = text_valid 1 fields; interrupted_ids = texts_valid 2 fields }

release_valid : (fields : List Field) → HasReleaseResponseBits (release_response_of fields)
release_valid fields = record { session_id = text_valid 1 fields; operation_id = optional_text_valid 2 fields }

pub response_valid : (level : ℕ) (method : Method) (fields : List Field) → HasResponseBits (response_at level method fields)
response_valid level methods.ExecutePlan fields = execute_valid level fields
response_valid level methods.AnalyzePlan fields = analyze_valid level fields
response_valid level methods.Config fields = config_valid fields
response_valid level methods.Interrupt fields = interrupt_valid fields
response_valid level methods.ReattachExecute fields = execute_valid level fields
response_valid level methods.ReleaseExecute fields = release_valid fields

-- what is read by a method answers it
pub response_method : (level : ℕ) (method : Method) (fields : List Field) → method_answered (response_at level method fields) ≡ method
response_method level methods.ExecutePlan fields = refl
response_method level methods.AnalyzePlan fields = refl
response_method level methods.Config fields = refl
response_method level methods.Interrupt fields = refl
response_method level methods.ReattachExecute fields = refl
response_method level methods.ReleaseExecute fields = refl

-- the response that a call read of any fields
pub response_is_valid : (method : Method) (fields : List Field) (response : Response) → response ≡ response_at 200 method fields → HasResponseBits response
response_is_valid method fields response is = subst HasResponseBits (sym is) (response_valid 200 method fields)

pub response_answers : (method : Method) (fields : List Field) (response : Response) → response ≡ response_at 200 method fields → method_answered response ≡ method
response_answers method fields response is = ap method_answered is ∙ response_method 200 method fields
