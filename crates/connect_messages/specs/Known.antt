-- Which requests have a spelling, and that the numbers and texts in them are values of their types.
use Rattle.std.specs.Prelude.{Bool, true, false, IsTrue, IfSome, IsUtf8}
use Rattle.std.specs.List.{AllByRecursion}
use Rattle.plan_messages.specs.Known.{is_known_plan, HasPlanBits}
use Rattle.request_messages.specs.Bits.{HasContextBits, HasReattachBits, HasReleaseBits, HasInterruptBits}
use Rattle.request_messages.specs.Configs.{HasConfigBits}
use Rattle.connect_messages.specs.declared.execute.ExecuteRequest.{ExecuteRequest}
use Rattle.connect_messages.specs.declared.analyze.Analysis.{Analysis}
use Rattle.connect_messages.specs.declared.analyze.Analysis.TheVariants as analysis
use Rattle.connect_messages.specs.declared.analyze.AnalyzeRequest.{AnalyzeRequest}
use Rattle.connect_messages.specs.declared.request.Request.{Request}
use Rattle.connect_messages.specs.declared.request.Request.TheVariants as request

-- ---- what has a spelling

abbrev pub is_known_analysis : Analysis → Bool
is_known_analysis (analysis.Schema plan) = is_known_plan plan
is_known_analysis (analysis.IsStreaming plan) = is_known_plan plan
is_known_analysis analysis.SparkVersion = true
is_known_analysis (analysis.Other number) = false

-- no part of a plan is outside the profile, and neither is what is asked
abbrev pub is_known_request : Request → Bool
is_known_request (request.ExecutePlan it) = is_known_plan it.plan
is_known_request (request.AnalyzePlan it) = is_known_analysis it.analysis
is_known_request (request.Config it) = true
is_known_request (request.Interrupt it) = true
is_known_request (request.ReattachExecute it) = true
is_known_request (request.ReleaseExecute it) = true

abbrev pub IsKnownRequest : Request → Type 0
IsKnownRequest it = IsTrue (is_known_request it)

-- ---- numbers have the bits of their types, and texts are UTF-8

pub record HasExecuteBits (request : ExecuteRequest) : Type 0 where
  pub session_id : IsUtf8 request.session_id
  pub user_context : HasContextBits request.user_context
  pub plan : HasPlanBits request.plan
  pub operation_id : IfSome request.operation_id IsUtf8
  pub tags : AllByRecursion IsUtf8 request.tags

abbrev pub HasAnalysisBits : Analysis → Type 0
HasAnalysisBits (analysis.Schema plan) = HasPlanBits plan
HasAnalysisBits (analysis.IsStreaming plan) = HasPlanBits plan
HasAnalysisBits analysis.SparkVersion = Unit {0}
HasAnalysisBits (analysis.Other number) = Unit {0}

pub record HasAnalyzeBits (request : AnalyzeRequest) : Type 0 where
  pub session_id : IsUtf8 request.session_id
  pub user_context : HasContextBits request.user_context
  pub analysis : HasAnalysisBits request.analysis

abbrev pub HasRequestBits : Request → Type 0
HasRequestBits (request.ExecutePlan it) = HasExecuteBits it
HasRequestBits (request.AnalyzePlan it) = HasAnalyzeBits it
HasRequestBits (request.Config it) = HasConfigBits it
HasRequestBits (request.Interrupt it) = HasInterruptBits it
HasRequestBits (request.ReattachExecute it) = HasReattachBits it
HasRequestBits (request.ReleaseExecute it) = HasReleaseBits it
