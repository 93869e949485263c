-- What is read of sound responses is the same at every level that suffices.
use Rattle.std.proofs.Common.{◌≡◌, ◌≢◌, ℕ, ◌-◌, ◌≤◌, ◌==◌, ◌⊎◌, inl, inr, true, false, List, [], ◌∷◌, Option, None, Some, refl, sym, ap, ◌∙◌, arith}
use Rattle.std.specs.Prelude.{option_map, unwrap_or, if◌then◌else◌}
use Rattle.std.specs.List.{AllByRecursion}
use Rattle.std.proofs.lemmas.Bool.Decides.{eqb_tells}
use Rattle.proto_fields.specs.declared.kind.MessageKind.TheVariants as kinds
use Rattle.proto_fields.specs.Fields.{Field, fields_of}
use Rattle.proto_fields.specs.Kinds.{payload_of}
use Rattle.proto_fields.specs.Faults.{IsSound}
use Rattle.proto_fields.specs.Readings.{text_field, payloads, joined, bool_field, Member, latest}
use Rattle.expression_messages.specs.declared.data_type.TypeMessage.{TypeMessage}
use Rattle.expression_messages.specs.Messages.{message_at}
use Rattle.expression_messages.specs.Types.{type_at}
use Rattle.expression_messages.proofs.Agreement.{AreSound, fields_sound, fields_in, payloads_sound, message_sound, since_sound}
use Rattle.expression_messages.proofs.Levels.{at_same, at_other}
use Rattle.expression_messages.proofs.SameTypes.{types_agree, inner_type_agrees}
use Rattle.response_messages.specs.declared.method.Method.{Method}
use Rattle.response_messages.specs.declared.method.Method.TheVariants as methods
use Rattle.response_messages.specs.declared.execute.ExecutePlanResponse.{ExecutePlanResponse}
use Rattle.response_messages.specs.declared.answers.AnalyzeResult.{AnalyzeResult}
use Rattle.response_messages.specs.declared.answers.AnalyzeResult.TheVariants as said
use Rattle.response_messages.specs.declared.answers.AnalyzePlanResponse.{AnalyzePlanResponse}
use Rattle.response_messages.specs.declared.response.Response.TheVariants as responses
use Rattle.response_messages.specs.Responses.{response_type_of, execute_response_at, analyze_member, result_of, analyze_response_at, response_kind, response_at}

-- ---- the schema of a running plan's response

schema_same : (level more : ℕ) → level ≤ more → (messages : List (List ℕ)) → AllByRecursion (IsSound level kinds.DataType) messages →
    option_map (type_at more) (joined messages) ≡ option_map (type_at level) (joined messages)
unfolding fields_in
schema_same level more upper [] sound = refl
schema_same level more upper (message ∷ messages) sound = ap (λ (kind : TypeMessage). Some kind) (types_agree level more upper (message ∷ messages) sound)

with_schema : List Field → Option TypeMessage → ExecutePlanResponse
with_schema fields schema = record {
  session_id = text_field 1 fields;
  response_type = response_type_of fields;
  schema = schema;
  operation_id = text_field 12 fields;
  response_id = text_field 13 fields;
}

execute_same : (level more : ℕ) (fields : List Field) → level ≤ more → AreSound level kinds.ExecutePlanResponse fields → execute_response_at more fields ≡ execute_response_at level fields
unfolding payload_of with_schema
execute_same level more fields upper sound =
    ap (with_schema fields)
    (schema_same (level - 1) (more - 1) (omega arith) (payloads 7 fields) (payloads_sound (level - 1) kinds.ExecutePlanResponse kinds.DataType 7 refl fields sound))

-- ---- the schema of an analysis

member_same : (level more : ℕ) (member : Member) → level ≤ more → AreSound level kinds.AnalyzePlanResponse member.since →
    analyze_member (type_at (more - 1 - 1)) member ≡ analyze_member (type_at (level - 1 - 1)) member
unfolding payload_of
member_same level more member upper sound = by_test (eqb_tells member.number 2)
  where
    answer : List Field
    answer = message_at 2 member.since

    answer_sound : AreSound (level - 1) kinds.SchemaAnswer answer
    answer_sound = message_sound level kinds.AnalyzePlanResponse kinds.SchemaAnswer 2 refl member.since sound

    schema : type_at (more - 1 - 1) (message_at 1 answer) ≡ type_at (level - 1 - 1) (message_at 1 answer)
    schema = inner_type_agrees (level - 1 - 1) (more - 1 - 1) 1 answer (omega arith) (payloads_sound (level - 1 - 1) kinds.SchemaAnswer kinds.DataType 1 refl answer answer_sound)

    other : AnalyzeResult
    other = if member.number == 6 then said.IsStreaming (bool_field 1 (message_at 6 member.since)) else said.SparkVersion (text_field 1 (message_at 8 member.since))

    at_schema : (n : ℕ) → member.number ≡ 2 → analyze_member (type_at n) member ≡ said.Schema (type_at n (message_at 1 answer))
    at_schema n is = at_same member.number 2 (said.Schema (type_at n (message_at 1 answer))) other is

    beside_schema : (n : ℕ) → member.number ≢ 2 → analyze_member (type_at n) member ≡ other
    beside_schema n is = at_other member.number 2 (said.Schema (type_at n (message_at 1 answer))) other is

    by_test : ((member.number == 2 ≡ true) × (member.number ≡ 2)) ⊎ ((member.number == 2 ≡ false) × (member.number ≢ 2)) →
        analyze_member (type_at (more - 1 - 1)) member ≡ analyze_member (type_at (level - 1 - 1)) member
    by_test (inl schema_is) = at_schema (more - 1 - 1) schema_is.1 ∙ ap (λ (kind : TypeMessage). said.Schema kind) schema ∙ sym (at_schema (level - 1 - 1) schema_is.1)
    by_test (inr other_is) = beside_schema (more - 1 - 1) other_is.1 ∙ sym (beside_schema (level - 1 - 1) other_is.1)

result_same : (level more : ℕ) (fields : List Field) → level ≤ more → AreSound level kinds.AnalyzePlanResponse fields → (found : Option Member) → latest kinds.AnalyzePlanResponse fields ≡ found →
    result_of (type_at (more - 1 - 1)) fields ≡ result_of (type_at (level - 1 - 1)) fields
result_same level more fields upper sound None is =
    let none : (n : ℕ) → result_of (type_at n) fields ≡ said.Absent =
    λ n. ap (λ (m : Option Member). unwrap_or (option_map (analyze_member (type_at n)) m) said.Absent) is in
    none (more - 1 - 1) ∙ sym (none (level - 1 - 1))
result_same level more fields upper sound (Some member) is =
    let some : (n : ℕ) → result_of (type_at n) fields ≡ analyze_member (type_at n) member =
    λ n. ap (λ (m : Option Member). unwrap_or (option_map (analyze_member (type_at n)) m) said.Absent) is in
    some (more - 1 - 1) ∙ member_same level more member upper (since_sound level kinds.AnalyzePlanResponse fields member is sound) ∙ sym (some (level - 1 - 1))

with_result : List Field → AnalyzeResult → AnalyzePlanResponse
with_result fields found = record { session_id = text_field 1 fields; result = found }

analyze_same : (level more : ℕ) (fields : List Field) → level ≤ more → AreSound level kinds.AnalyzePlanResponse fields → analyze_response_at more fields ≡ analyze_response_at level fields
unfolding with_result
analyze_same level more fields upper sound =
    let more_left : more - 2 ≡ more - 1 - 1 = omega arith in
    let level_left : level - 1 - 1 ≡ level - 2 = omega arith in
    ap (with_result fields)
    (ap (λ (n : ℕ). result_of (type_at n) fields) more_left
    ∙ result_same level more fields upper sound (latest kinds.AnalyzePlanResponse fields) refl
    ∙ ap (λ (n : ℕ). result_of (type_at n) fields) level_left)

-- ---- all responses

pub response_agrees : (level more : ℕ) (method : Method) (bytes : List ℕ) → level ≤ more → IsSound level (response_kind method) bytes →
    response_at more method (fields_of bytes) ≡ response_at level method (fields_of bytes)
response_agrees level more methods.ExecutePlan bytes upper sound =
    ap (λ (r : ExecutePlanResponse). responses.ExecutePlan r) (execute_same level more (fields_of bytes) upper (fields_sound level kinds.ExecutePlanResponse bytes sound))
response_agrees level more methods.AnalyzePlan bytes upper sound =
    ap (λ (r : AnalyzePlanResponse). responses.AnalyzePlan r) (analyze_same level more (fields_of bytes) upper (fields_sound level kinds.AnalyzePlanResponse bytes sound))
response_agrees level more methods.Config bytes upper sound = refl
response_agrees level more methods.Interrupt bytes upper sound = refl
response_agrees level more methods.ReattachExecute bytes upper sound =
    ap (λ (r : ExecutePlanResponse). responses.ReattachExecute r) (execute_same level more (fields_of bytes) upper (fields_sound level kinds.ExecutePlanResponse bytes sound))
response_agrees level more methods.ReleaseExecute bytes upper sound = refl
