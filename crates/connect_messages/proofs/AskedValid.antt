-- What is read of any fields is valid, and the texts are those of the fault table.
use Rattle.std.proofs.Common.{◌≡◌, ℕ, ◌-◌, ◌==◌, List, refl, sym, ap, ◌∙◌, subst}
use Rattle.proto_fields.specs.declared.kind.MessageKind.TheVariants as kinds
use Rattle.proto_fields.specs.Fields.{Field}
use Rattle.proto_fields.specs.Kinds.{payload_of}
use Rattle.proto_fields.specs.Readings.{Member, latest}
use Rattle.proto_fields.proofs.TextReadings.{text_valid, optional_text_valid, texts_valid, keeps_text, keeps_optional_text, keeps_texts}
use Rattle.expression_messages.specs.Messages.{message_at}
use Rattle.expression_messages.proofs.Valid.{either, one_of}
use Rattle.plan_messages.proofs.PlanValid.{plan_valid}
use Rattle.request_messages.proofs.RequestsValid.{context_valid, reattach_valid, release_valid, interrupt_valid, config_valid}
use Rattle.response_messages.specs.declared.method.Method.{Method}
use Rattle.response_messages.specs.declared.method.Method.TheVariants as method
use Rattle.connect_messages.specs.declared.analyze.Analysis.TheVariants as analysis
use Rattle.connect_messages.specs.declared.request.Request.{Request}
use Rattle.connect_messages.specs.Requests.{execute_request_at, analyzed_plan, analysis_member, analysis_at, analyze_request_at, request_at, method_asked}
use Rattle.connect_messages.specs.Known.{HasExecuteBits, HasAnalysisBits, HasAnalyzeBits, HasRequestBits}
use Rattle.connect_messages.specs.Laws.{AskedTextsAreKept}

execute_valid : (level : ℕ) (fields : List Field) → HasExecuteBits (execute_request_at level fields)
execute_valid level fields = record {
  session_id = text_valid 1 fields;
  user_context = context_valid fields;
  plan = plan_valid (level - 1) (message_at 3 fields);
  operation_id = optional_text_valid 6 fields;
  tags = texts_valid 7 fields;
}

analysis_valid : (level : ℕ) (fields : List Field) → HasAnalysisBits (analysis_at level fields)
analysis_valid level fields = one_of HasAnalysisBits (analysis_member level) (analysis.Other 0) each tt (latest kinds.AnalyzePlanRequest fields)
  where
    each : (member : Member) → HasAnalysisBits (analysis_member level member)
    each member =
        either HasAnalysisBits (member.number == 4) (analysis.Schema (analyzed_plan level 4 member)) _ (plan_valid (level - 1) (message_at 1 (message_at 4 member.since)))
        (either HasAnalysisBits (member.number == 8) (analysis.IsStreaming (analyzed_plan level 8 member)) _ (plan_valid (level - 1) (message_at 1 (message_at 8 member.since)))
        (either HasAnalysisBits (member.number == 10) analysis.SparkVersion (analysis.Other member.number) tt tt))

analyze_valid : (level : ℕ) (fields : List Field) → HasAnalyzeBits (analyze_request_at level fields)
analyze_valid level fields = record { session_id = text_valid 1 fields; user_context = context_valid fields; analysis = analysis_valid (level - 1) fields }

pub request_valid : (level : ℕ) (method : Method) (fields : List Field) → HasRequestBits (request_at level method fields)
request_valid level method.ExecutePlan fields = execute_valid level fields
request_valid level method.AnalyzePlan fields = analyze_valid level fields
request_valid level method.Config fields = config_valid fields
request_valid level method.Interrupt fields = interrupt_valid fields
request_valid level method.ReattachExecute fields = reattach_valid fields
request_valid level method.ReleaseExecute fields = release_valid fields

-- what is read by a method asks it
pub request_method : (level : ℕ) (asked : Method) (fields : List Field) → method_asked (request_at level asked fields) ≡ asked
request_method level method.ExecutePlan fields = refl
request_method level method.AnalyzePlan fields = refl
request_method level method.Config fields = refl
request_method level method.Interrupt fields = refl
request_method level method.ReattachExecute fields = refl
request_method level method.ReleaseExecute fields = refl

pub asked_texts : AskedTextsAreKept
unfolding payload_of
asked_texts = record {
  execute_session = λ level. keeps_text kinds.ExecutePlanRequest 1 refl;
  operation_id = λ level. keeps_optional_text kinds.ExecutePlanRequest 6 refl;
  tags = λ level. keeps_texts kinds.ExecutePlanRequest 7 refl;
  analyze_session = λ level. keeps_text kinds.AnalyzePlanRequest 1 refl;
}

-- the request that a call read of any fields
pub request_is_valid : (asked : Method) (fields : List Field) (request : Request) → request ≡ request_at 200 asked fields → HasRequestBits request
request_is_valid asked fields request is = subst HasRequestBits (sym is) (request_valid 200 asked fields)

pub request_asks : (asked : Method) (fields : List Field) (request : Request) → request ≡ request_at 200 asked fields → method_asked request ≡ asked
request_asks asked fields request is = ap method_asked is ∙ request_method 200 asked fields
