-- What is read of sound requests is the same at every level that suffices.
use Rattle.std.proofs.Common.{◌≡◌, ℕ, ◌-◌, ◌≤◌, ◌==◌, List, Option, None, Some, refl, sym, ap, ◌∙◌, arith}
use Rattle.std.specs.Prelude.{option_map, unwrap_or, if◌then◌else◌}
use Rattle.proto_fields.specs.declared.kind.MessageKind.TheVariants as kinds
use Rattle.proto_fields.specs.declared.kind.PayloadKind.TheVariants.{Message}
use Rattle.proto_fields.specs.Fields.{Field, fields_of}
use Rattle.proto_fields.specs.Kinds.{payload_of}
use Rattle.proto_fields.specs.Faults.{IsSound}
use Rattle.proto_fields.specs.Readings.{text_field, optional_text, texts, Member, latest}
use Rattle.expression_messages.specs.Messages.{message_at}
use Rattle.expression_messages.proofs.Agreement.{AreSound, fields_sound, payloads_sound, message_sound, since_sound}
use Rattle.request_messages.specs.Requests.{context_of, reattachable_of}
use Rattle.response_messages.specs.declared.method.Method.{Method}
use Rattle.response_messages.specs.declared.method.Method.TheVariants as methods
use Rattle.plan_messages.specs.declared.plan.Plan.{Plan}
use Rattle.connect_messages.specs.declared.execute.ExecuteRequest.{ExecuteRequest}
use Rattle.connect_messages.specs.declared.analyze.Analysis.{Analysis}
use Rattle.connect_messages.specs.declared.analyze.Analysis.TheVariants as analysis
use Rattle.connect_messages.specs.declared.analyze.AnalyzeRequest.{AnalyzeRequest}
use Rattle.connect_messages.specs.declared.request.Request.TheVariants as requests
use Rattle.connect_messages.specs.Requests.{execute_request_at, analyzed_plan, analysis_member, analysis_at, analyze_request_at, request_kind, request_at}
use Rattle.connect_messages.proofs.PlansAgree.{inner_plan_agrees}

-- ---- a plan to execute

with_plan : List Field → Plan → ExecuteRequest
with_plan fields plan = record {
  session_id = text_field 1 fields;
  user_context = context_of fields;
  plan = plan;
  reattachable = reattachable_of fields;
  operation_id = optional_text 6 fields;
  tags = texts 7 fields;
}

execute_same : (level more : ℕ) (fields : List Field) → level ≤ more → AreSound level kinds.ExecutePlanRequest fields → execute_request_at more fields ≡ execute_request_at level fields
unfolding payload_of with_plan
execute_same level more fields upper sound =
    ap (with_plan fields)
    (inner_plan_agrees (level - 1) (more - 1) 3 fields (omega arith) (payloads_sound (level - 1) kinds.ExecutePlanRequest kinds.Plan 3 refl fields sound))

-- ---- what is asked of a plan

-- the plan in the member of this number
analyzed_same : (level more number : ℕ) (member : Member) → level ≤ more → payload_of kinds.AnalyzePlanRequest number ≡ Message kinds.AnalyzedPlan → AreSound level kinds.AnalyzePlanRequest member.since →
    analyzed_plan (more - 1) number member ≡ analyzed_plan (level - 1) number member
unfolding payload_of
analyzed_same level more number member upper is sound =
    let inner = message_at number member.since in
    let inner_sound : AreSound (level - 1) kinds.AnalyzedPlan inner = message_sound level kinds.AnalyzePlanRequest kinds.AnalyzedPlan number is member.since sound in
    inner_plan_agrees (level - 1 - 1) (more - 1 - 1) 1 inner (omega arith) (payloads_sound (level - 1 - 1) kinds.AnalyzedPlan kinds.Plan 1 refl inner inner_sound)

-- the member of this number with one of these plans
asked : ℕ → Plan → Plan → Analysis
asked number schema streaming =
    if number == 4 then analysis.Schema schema
    else if number == 8 then analysis.IsStreaming streaming
    else if number == 10 then analysis.SparkVersion
    else analysis.Other number

asked_same : {schema schema2 streaming streaming2 : Plan} (number : ℕ) → schema ≡ schema2 → streaming ≡ streaming2 → asked number schema streaming ≡ asked number schema2 streaming2
asked_same number schema_is streaming_is = rw schema_is (rw streaming_is refl)

member_same : (level more : ℕ) (member : Member) → level ≤ more → AreSound level kinds.AnalyzePlanRequest member.since → analysis_member (more - 1) member ≡ analysis_member (level - 1) member
unfolding payload_of asked
member_same level more member upper sound =
    asked_same member.number (analyzed_same level more 4 member upper refl sound) (analyzed_same level more 8 member upper refl sound)

analysis_same : (level more : ℕ) (fields : List Field) → level ≤ more → AreSound level kinds.AnalyzePlanRequest fields → (found : Option Member) → latest kinds.AnalyzePlanRequest fields ≡ found →
    analysis_at (more - 1) fields ≡ analysis_at (level - 1) fields
analysis_same level more fields upper sound None is =
    let none : (n : ℕ) → analysis_at n fields ≡ analysis.Other 0 = λ n. ap (λ (m : Option Member). unwrap_or (option_map (analysis_member n) m) (analysis.Other 0)) is in
    none (more - 1) ∙ sym (none (level - 1))
analysis_same level more fields upper sound (Some member) is =
    let some : (n : ℕ) → analysis_at n fields ≡ analysis_member n member = λ n. ap (λ (m : Option Member). unwrap_or (option_map (analysis_member n) m) (analysis.Other 0)) is in
    some (more - 1) ∙ member_same level more member upper (since_sound level kinds.AnalyzePlanRequest fields member is sound) ∙ sym (some (level - 1))

with_analysis : List Field → Analysis → AnalyzeRequest
with_analysis fields found = record { session_id = text_field 1 fields; user_context = context_of fields; analysis = found }

analyze_same : (level more : ℕ) (fields : List Field) → level ≤ more → AreSound level kinds.AnalyzePlanRequest fields → analyze_request_at more fields ≡ analyze_request_at level fields
unfolding with_analysis
analyze_same level more fields upper sound = ap (with_analysis fields) (analysis_same level more fields upper sound (latest kinds.AnalyzePlanRequest fields) refl)

-- ---- all requests

pub request_agrees : (level more : ℕ) (method : Method) (bytes : List ℕ) → level ≤ more → IsSound level (request_kind method) bytes →
    request_at more method (fields_of bytes) ≡ request_at level method (fields_of bytes)
request_agrees level more methods.ExecutePlan bytes upper sound =
    ap (λ (r : ExecuteRequest). requests.ExecutePlan r) (execute_same level more (fields_of bytes) upper (fields_sound level kinds.ExecutePlanRequest bytes sound))
request_agrees level more methods.AnalyzePlan bytes upper sound =
    ap (λ (r : AnalyzeRequest). requests.AnalyzePlan r) (analyze_same level more (fields_of bytes) upper (fields_sound level kinds.AnalyzePlanRequest bytes sound))
request_agrees level more methods.Config bytes upper sound = refl
request_agrees level more methods.Interrupt bytes upper sound = refl
request_agrees level more methods.ReattachExecute bytes upper sound = refl
request_agrees level more methods.ReleaseExecute bytes upper sound = refl
