-- Requests as fields, in one spelling.
use Rattle.std.specs.Prelude.{ℕ, List, [], ◌++◌}
use Rattle.proto_fields.specs.Fields.{Field}
use Rattle.proto_fields.specs.Spelling.{spell, payload_fields, text_fields, optional_payload_fields}
use Rattle.expression_messages.specs.Messages.{repeated_fields}
use Rattle.plan_messages.specs.declared.plan.Plan.{Plan}
use Rattle.plan_messages.specs.Spelled.{plan_fields}
use Rattle.request_messages.specs.Spelled.{context_fields, reattachable_fields, reattach_fields, release_fields, interrupt_fields}
use Rattle.request_messages.specs.Configs.{config_fields}
use Rattle.connect_messages.specs.declared.execute.ExecuteRequest.{ExecuteRequest}
use Rattle.connect_messages.specs.declared.analyze.Analysis.{Analysis}
use Rattle.connect_messages.specs.declared.analyze.Analysis.TheVariants as analysis
use Rattle.connect_messages.specs.declared.analyze.AnalyzeRequest.{AnalyzeRequest}
use Rattle.connect_messages.specs.declared.request.Request.{Request}
use Rattle.connect_messages.specs.declared.request.Request.TheVariants as request

-- request_options 5, operation_id 6, tags 7
abbrev pub execute_option_fields : ExecuteRequest → List Field
execute_option_fields request = reattachable_fields request.reattachable ++ optional_payload_fields 6 request.operation_id ++ repeated_fields 7 request.tags

-- session_id 1, user_context 2, plan 3, and the options
abbrev pub execute_fields : ExecuteRequest → List Field
execute_fields request =
    text_fields 1 request.session_id ++ context_fields request.user_context ++ payload_fields 3 (spell (plan_fields request.plan)) ++ execute_option_fields request

-- a member whose message has a plan 1
abbrev pub analyzed_fields : ℕ → Plan → List Field
analyzed_fields number plan = payload_fields number (spell (payload_fields 1 (spell (plan_fields plan))))

-- schema 4, is_streaming 8, spark_version 10; what is outside the profile has no fields
abbrev pub analysis_fields : Analysis → List Field
analysis_fields (analysis.Schema plan) = analyzed_fields 4 plan
analysis_fields (analysis.IsStreaming plan) = analyzed_fields 8 plan
analysis_fields analysis.SparkVersion = payload_fields 10 []
analysis_fields (analysis.Other number) = []

-- session_id 1, user_context 2
abbrev pub analyze_fields : AnalyzeRequest → List Field
analyze_fields request = text_fields 1 request.session_id ++ context_fields request.user_context ++ analysis_fields request.analysis

abbrev pub request_fields : Request → List Field
request_fields (request.ExecutePlan it) = execute_fields it
request_fields (request.AnalyzePlan it) = analyze_fields it
request_fields (request.Config it) = config_fields it
request_fields (request.Interrupt it) = interrupt_fields it
request_fields (request.ReattachExecute it) = reattach_fields it
request_fields (request.ReleaseExecute it) = release_fields it
