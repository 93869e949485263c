-- What requests that ask something of a plan are spelled as is read as the requests.
use Rattle.std.proofs.Common.{◌≡◌, ℕ, ◌+◌, ◌-◌, ◌≤◌, List, [], ◌++◌, Option, refl, ap, ◌∙◌, arith}
use Rattle.std.specs.Prelude.{IsTrue, option_map, unwrap_or}
use Rattle.std.proofs.lemmas.Bool.{false≢true}
use Rattle.proto_fields.specs.declared.kind.MessageKind.TheVariants as kinds
use Rattle.proto_fields.specs.declared.kind.PayloadKind.TheVariants.{Message}
use Rattle.proto_fields.specs.Fields.{Field}
use Rattle.proto_fields.specs.Kinds.{payload_of}
use Rattle.proto_fields.specs.Readings.{Member}
use Rattle.proto_fields.specs.Spelling.{spell, payload_fields, text_fields}
use Rattle.expression_messages.specs.Messages.{message_at}
use Rattle.expression_messages.specs.Laws.{IsShort, IsReadBack}
use Rattle.expression_messages.proofs.Pieces.{Stands, three_stand, read_back, short_payload, IsNumber, is_numbered, Piece, payload_piece, text_piece, payloads_one, message_at-one}
use Rattle.expression_messages.proofs.TypeBack.{empty_sound}
use Rattle.field_groups.specs.Groups.{AreOthers}
use Rattle.field_groups.proofs.Among.{are_others, behind, two_others}
use Rattle.field_groups.proofs.Members.{AreNoMembers, no_members, latest_behind, two_no_members}
use Rattle.field_groups.proofs.Groups.{ThreeRead, three_read, ThreeShort, three_short, MemberBack}
use Rattle.request_messages.specs.declared.user_context.UserContext.{UserContext}
use Rattle.request_messages.specs.Spelled.{context_fields}
use Rattle.field_groups.proofs.Scalars.{is_1, is_4, text_read}
use Rattle.request_messages.proofs.FieldsBack.{context_piece, context_read}
use Rattle.plan_messages.specs.declared.plan.Plan.{Plan}
use Rattle.plan_messages.specs.Plans.{plan_at}
use Rattle.plan_messages.specs.Spelled.{plan_fields}
use Rattle.plan_messages.specs.Depths.{plan_depth}
use Rattle.plan_messages.specs.Known.{IsKnownPlan, HasPlanBits}
use Rattle.plan_messages.proofs.PlanBack.{plan_read_back}
use Rattle.connect_messages.specs.declared.analyze.Analysis.{Analysis}
use Rattle.connect_messages.specs.declared.analyze.Analysis.TheVariants as analysis
use Rattle.connect_messages.specs.declared.analyze.AnalyzeRequest.{AnalyzeRequest}
use Rattle.connect_messages.specs.Requests.{analysis_member, analysis_at, analyze_request_at}
use Rattle.connect_messages.specs.Spelled.{analyzed_fields, analysis_fields, analyze_fields}
use Rattle.connect_messages.specs.Depths.{analysis_depth, analyze_depth}
use Rattle.connect_messages.specs.Known.{is_known_analysis, HasAnalysisBits, HasAnalyzeBits}

is_8 : IsNumber 8
is_8 = is_numbered 8 (omega arith) (omega arith)

is_10 : IsNumber 10
is_10 = is_numbered 10 (omega arith) (omega arith)

-- ---- the plan of a member

plan_message : Plan → List Field
plan_message plan = payload_fields 1 (spell (plan_fields plan))

analyzed_back : (level : ℕ) (plan : Plan) → IsKnownPlan plan → HasPlanBits plan → IsShort (plan_message plan) → 1 + plan_depth plan ≤ level →
    IsReadBack level kinds.AnalyzedPlan (plan_message plan) (λ fields. plan_at (level - 1) (message_at 1 fields)) plan
unfolding payload_of plan_message
analyzed_back level plan known bits short deep =
    let payload = spell (plan_fields plan) in
    let few = short_payload 1 payload short in
    let back = plan_read_back (level - 1) plan known bits few (omega arith) in
    read_back level kinds.AnalyzedPlan (payload_fields 1 payload) (λ fields. plan_at (level - 1) (message_at 1 fields)) plan (omega arith)
    (payload_piece (level - 1) kinds.AnalyzedPlan 1 (Message kinds.Plan) payload is_1 refl back.sound few).stands
    (ap (plan_at (level - 1)) (message_at-one 1 (payload_fields 1 payload) payload (payloads_one 1 payload)) ∙ back.same)

-- the plan that is read of the member, behind other fields
analyzed_read : (level number : ℕ) (front : List Field) (plan : Plan) → AreOthers number front → IsReadBack level kinds.AnalyzedPlan (plan_message plan) (λ fields. plan_at (level - 1) (message_at 1 fields)) plan →
    plan_at (level - 1) (message_at 1 (message_at number (front ++ analyzed_fields number plan))) ≡ plan
unfolding plan_message
analyzed_read level number front plan others back =
    let payload = spell (plan_message plan) in
    ap (λ (fields : List Field). plan_at (level - 1) (message_at 1 fields))
    (message_at-one number (front ++ payload_fields number payload) payload ((behind number front (payload_fields number payload) others).payloads_are ∙ payloads_one number payload))
    ∙ back.same

-- ---- what is asked

analysis_by : ℕ → Option Member → Analysis
analysis_by level member = unwrap_or (option_map (analysis_member level) member) (analysis.Other 0)

analysis_back : (level : ℕ) (it : Analysis) → IsTrue (is_known_analysis it) → HasAnalysisBits it → IsShort (analysis_fields it) → analysis_depth it ≤ level →
    MemberBack level kinds.AnalyzePlanRequest 2 (analysis_fields it) (analysis_at level) it
unfolding payload_of analysis_by plan_message
analysis_back level (analysis.Schema plan) known bits short deep =
    let payload = spell (plan_message plan) in
    let few = short_payload 4 payload short in
    let back = analyzed_back level plan known bits few deep in
    record {
      number = 4;
      above = omega arith;
      piece = payload_piece level kinds.AnalyzePlanRequest 4 (Message kinds.AnalyzedPlan) payload is_4 refl back.sound few;
      same = λ front apart others.
          ap (analysis_by level) (latest_behind kinds.AnalyzePlanRequest 4 front payload apart refl)
          ∙ ap (λ (p : Plan). analysis.Schema p) (analyzed_read level 4 front plan others back);
    }
analysis_back level (analysis.IsStreaming plan) known bits short deep =
    let payload = spell (plan_message plan) in
    let few = short_payload 8 payload short in
    let back = analyzed_back level plan known bits few deep in
    record {
      number = 8;
      above = omega arith;
      piece = payload_piece level kinds.AnalyzePlanRequest 8 (Message kinds.AnalyzedPlan) payload is_8 refl back.sound few;
      same = λ front apart others.
          ap (analysis_by level) (latest_behind kinds.AnalyzePlanRequest 8 front payload apart refl)
          ∙ ap (λ (p : Plan). analysis.IsStreaming p) (analyzed_read level 8 front plan others back);
    }
analysis_back level analysis.SparkVersion known bits short deep = record {
  number = 10;
  above = omega arith;
  piece = payload_piece level kinds.AnalyzePlanRequest 10 (Message kinds.Empty) [] is_10 refl (empty_sound level (omega arith)) (omega arith);
  same = λ front apart others. ap (analysis_by level) (latest_behind kinds.AnalyzePlanRequest 10 front [] apart refl);
}
analysis_back level (analysis.Other number) known bits short deep = absurd (false≢true known)

-- ---- requests

same_analyze : {session session2 : List ℕ} {context context2 : Option UserContext} {it it2 : Analysis} → session ≡ session2 → context ≡ context2 → it ≡ it2 →
    ◌≡◌ {A = AnalyzeRequest} (record { session_id = session; user_context = context; analysis = it }) (record { session_id = session2; user_context = context2; analysis = it2 })
same_analyze session_is context_is it_is = rw session_is (rw context_is (rw it_is refl))

pub analyze_back : (level : ℕ) (request : AnalyzeRequest) → IsTrue (is_known_analysis request.analysis) → HasAnalyzeBits request → IsShort (analyze_fields request) → analyze_depth request ≤ level →
    IsReadBack level kinds.AnalyzePlanRequest (analyze_fields request) (analyze_request_at level) request
unfolding payload_of
analyze_back level request known bits short deep = read_back level kinds.AnalyzePlanRequest whole (analyze_request_at level) request (omega arith) stands same
  where
    session : List Field
    session = text_fields 1 request.session_id

    context : List Field
    context = context_fields request.user_context

    member : List Field
    member = analysis_fields request.analysis

    whole : List Field
    whole = session ++ context ++ member

    shorts : ThreeShort session context member
    shorts = three_short session context member short

    session_piece : Piece (level - 1) kinds.AnalyzePlanRequest 1 session
    session_piece = text_piece (level - 1) kinds.AnalyzePlanRequest 1 request.session_id is_1 refl bits.session_id shorts.first

    a_piece : Piece (level - 1) kinds.AnalyzePlanRequest 2 context
    a_piece = context_piece (level - 1) kinds.AnalyzePlanRequest request.user_context refl bits.user_context shorts.second (omega arith)

    back : MemberBack (level - 1) kinds.AnalyzePlanRequest 2 member (analysis_at (level - 1)) request.analysis
    back = analysis_back (level - 1) request.analysis known bits.analysis shorts.third (omega arith)

    stands : Stands (level - 1) kinds.AnalyzePlanRequest whole
    stands = three_stand (level - 1) kinds.AnalyzePlanRequest session context member session_piece.stands a_piece.stands back.piece.stands

    reads : ThreeRead 1 2 back.number session context member
    reads = three_read 1 2 back.number session context member session_piece.numbered a_piece.numbered back.piece.numbered (omega arith) back.above

    apart : AreNoMembers kinds.AnalyzePlanRequest (session ++ context)
    apart = two_no_members kinds.AnalyzePlanRequest session context
        (no_members kinds.AnalyzePlanRequest 1 session (record { payload = refl; varint = refl }) session_piece.numbered)
        (no_members kinds.AnalyzePlanRequest 2 context (record { payload = refl; varint = refl }) a_piece.numbered)

    others : AreOthers back.number (session ++ context)
    others =
        let above = back.above in
        two_others back.number session context
        (are_others back.number 1 session session_piece.numbered (omega arith)) (are_others back.number 2 context a_piece.numbered (omega arith))

    same : analyze_request_at level whole ≡ request
    same = same_analyze
        (text_read 1 whole request.session_id reads.first bits.session_id)
        (context_read whole request.user_context reads.second bits.user_context shorts.second)
        (back.same (session ++ context) apart others)
