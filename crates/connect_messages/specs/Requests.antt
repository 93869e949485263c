-- Requests, read of the fields of their messages (`base.proto`). A level is how many messages may be nested, the message itself among them.
use Rattle.std.specs.Prelude.{ℕ, ◌-◌, ◌==◌, if◌then◌else◌, List, option_map, unwrap_or}
use Rattle.proto_fields.specs.declared.kind.MessageKind.{MessageKind}
use Rattle.proto_fields.specs.declared.kind.MessageKind.TheVariants as kinds
use Rattle.proto_fields.specs.Fields.{Field}
use Rattle.proto_fields.specs.Readings.{text_field, optional_text, texts, Member, latest}
use Rattle.expression_messages.specs.Messages.{message_at}
use Rattle.plan_messages.specs.declared.plan.Plan.{Plan}
use Rattle.plan_messages.specs.Plans.{plan_at}
use Rattle.request_messages.specs.Requests.{context_of, reattachable_of, reattach_request_of, release_request_of, interrupt_request_of}
use Rattle.request_messages.specs.Configs.{config_request_of}
use Rattle.response_messages.specs.declared.method.Method.{Method}
use Rattle.response_messages.specs.declared.method.Method.TheVariants as method
use Rattle.connect_messages.specs.declared.execute.ExecuteRequest.{ExecuteRequest}
use Rattle.connect_messages.specs.declared.analyze.Analysis.{Analysis}
use Rattle.connect_messages.specs.declared.analyze.Analysis.TheVariants as analysis
use Rattle.connect_messages.specs.declared.analyze.AnalyzeRequest.{AnalyzeRequest}
use Rattle.connect_messages.specs.declared.request.Request.{Request}
use Rattle.connect_messages.specs.declared.request.Request.TheVariants as request

-- session_id 1, user_context 2, plan 3, request_options 5, operation_id 6, tags 7
abbrev pub execute_request_at : ℕ → List Field → ExecuteRequest
execute_request_at level fields = record {
  session_id = text_field 1 fields;
  user_context = context_of fields;
  plan = plan_at (level - 1) (message_at 3 fields);
  reattachable = reattachable_of fields;
  operation_id = optional_text 6 fields;
  tags = texts 7 fields;
}

-- the plan 1 of a member of this number, whose message may nest so much
abbrev pub analyzed_plan : ℕ → ℕ → Member → Plan
analyzed_plan level number member = plan_at (level - 1) (message_at 1 (message_at number member.since))

-- schema 4, is_streaming 8, spark_version 10; another member stands for itself
abbrev pub analysis_member : ℕ → Member → Analysis
analysis_member level member =
    if member.number == 4 then analysis.Schema (analyzed_plan level 4 member)
    else if member.number == 8 then analysis.IsStreaming (analyzed_plan level 8 member)
    else if member.number == 10 then analysis.SparkVersion
    else analysis.Other member.number

-- an absent member is Other 0
abbrev pub analysis_at : ℕ → List Field → Analysis
analysis_at level fields = unwrap_or (option_map (analysis_member level) (latest kinds.AnalyzePlanRequest fields)) (analysis.Other 0)

-- session_id 1, user_context 2
abbrev pub analyze_request_at : ℕ → List Field → AnalyzeRequest
analyze_request_at level fields = record {
  session_id = text_field 1 fields;
  user_context = context_of fields;
  analysis = analysis_at (level - 1) fields;
}

-- the message that a method is asked with
abbrev pub request_kind : Method → MessageKind
request_kind method.ExecutePlan = kinds.ExecutePlanRequest
request_kind method.AnalyzePlan = kinds.AnalyzePlanRequest
request_kind method.Config = kinds.ConfigRequest
request_kind method.Interrupt = kinds.InterruptRequest
request_kind method.ReattachExecute = kinds.ReattachExecuteRequest
request_kind method.ReleaseExecute = kinds.ReleaseExecuteRequest

-- the request of a method
abbrev pub request_at : ℕ → Method → List Field → Request
request_at level method.ExecutePlan fields = request.ExecutePlan (execute_request_at level fields)
request_at level method.AnalyzePlan fields = request.AnalyzePlan (analyze_request_at level fields)
request_at level method.Config fields = request.Config (config_request_of fields)
request_at level method.Interrupt fields = request.Interrupt (interrupt_request_of fields)
request_at level method.ReattachExecute fields = request.ReattachExecute (reattach_request_of fields)
request_at level method.ReleaseExecute fields = request.ReleaseExecute (release_request_of fields)

-- the method that a request asks
abbrev pub method_asked : Request → Method
method_asked (request.ExecutePlan it) = method.ExecutePlan
method_asked (request.AnalyzePlan it) = method.AnalyzePlan
method_asked (request.Config it) = method.Config
method_asked (request.Interrupt it) = method.Interrupt
method_asked (request.ReattachExecute it) = method.ReattachExecute
method_asked (request.ReleaseExecute it) = method.ReleaseExecute
