-- How many messages are nested in the spelling of a request, its own message among them.
use Rattle.std.specs.Prelude.{ℕ, ◌+◌, max}
use Rattle.plan_messages.specs.Depths.{plan_depth}
use Rattle.request_messages.specs.Depths.{context_depth, reattachable_depth, reattach_depth, release_depth, interrupt_depth, config_depth}
use Rattle.connect_messages.specs.declared.execute.ExecuteRequest.{ExecuteRequest}
use Rattle.connect_messages.specs.declared.analyze.Analysis.{Analysis}
use Rattle.connect_messages.specs.declared.analyze.Analysis.TheVariants as analysis
use Rattle.connect_messages.specs.declared.analyze.AnalyzeRequest.{AnalyzeRequest}
use Rattle.connect_messages.specs.declared.request.Request.{Request}
use Rattle.connect_messages.specs.declared.request.Request.TheVariants as request

abbrev pub execute_depth : ExecuteRequest → ℕ
execute_depth request = 1 + max (max (plan_depth request.plan) (context_depth request.user_context)) (reattachable_depth request.reattachable)

-- what a request asks adds
abbrev pub analysis_depth : Analysis → ℕ
analysis_depth (analysis.Schema plan) = 1 + plan_depth plan
analysis_depth (analysis.IsStreaming plan) = 1 + plan_depth plan
analysis_depth analysis.SparkVersion = 1
analysis_depth (analysis.Other number) = 0

abbrev pub analyze_depth : AnalyzeRequest → ℕ
analyze_depth request = 1 + max (analysis_depth request.analysis) (context_depth request.user_context)

abbrev pub request_depth : Request → ℕ
request_depth (request.ExecutePlan it) = execute_depth it
request_depth (request.AnalyzePlan it) = analyze_depth it
request_depth (request.Config it) = config_depth it
request_depth (request.Interrupt it) = interrupt_depth it
request_depth (request.ReattachExecute it) = reattach_depth it
request_depth (request.ReleaseExecute it) = release_depth it
