-- What requests to execute a plan are spelled as is read as the requests.
use Rattle.std.proofs.Common.{◌≡◌, ℕ, ◌-◌, ◌<◌, ◌≤◌, Bool, List, ◌++◌, Option, refl, ap, ◌∙◌, arith}
use Rattle.proto_fields.specs.declared.kind.MessageKind.TheVariants as kinds
use Rattle.proto_fields.specs.declared.kind.PayloadKind.TheVariants.{Message}
use Rattle.proto_fields.specs.Fields.{Field}
use Rattle.proto_fields.specs.Kinds.{payload_of}
use Rattle.proto_fields.specs.Spelling.{spell, payload_fields, text_fields, optional_payload_fields}
use Rattle.expression_messages.specs.Messages.{message_at, repeated_fields}
use Rattle.expression_messages.specs.Laws.{IsShort, IsReadBack}
use Rattle.expression_messages.proofs.Pieces.{Stands, two_stand, three_stand, read_back, short_two, short_payload, short_repeated, Piece, payload_piece, text_piece, optional_text_piece, texts_piece, payloads_one, message_at-one}
use Rattle.field_groups.specs.Groups.{AreOthers, ReadsAs}
use Rattle.field_groups.proofs.Among.{before_others, behind_others}
use Rattle.field_groups.proofs.Groups.{ThreeRead, three_read, ThreeShort, three_short, three_others}
use Rattle.request_messages.specs.declared.user_context.UserContext.{UserContext}
use Rattle.request_messages.specs.Spelled.{context_fields, reattachable_fields}
use Rattle.field_groups.proofs.Scalars.{is_1, is_3, is_6, is_7, text_read, optional_text_read, texts_read}
use Rattle.request_messages.proofs.FieldsBack.{context_piece, context_read, reattachable_piece, reattachable_read}
use Rattle.plan_messages.specs.declared.plan.Plan.{Plan}
use Rattle.plan_messages.specs.Plans.{plan_at}
use Rattle.plan_messages.specs.Spelled.{plan_fields}
use Rattle.plan_messages.specs.Known.{IsKnownPlan}
use Rattle.plan_messages.proofs.PlanBack.{plan_read_back}
use Rattle.connect_messages.specs.declared.execute.ExecuteRequest.{ExecuteRequest}
use Rattle.connect_messages.specs.Requests.{execute_request_at}
use Rattle.connect_messages.specs.Spelled.{execute_fields}
use Rattle.connect_messages.specs.Depths.{execute_depth}
use Rattle.connect_messages.specs.Known.{HasExecuteBits}

same_execute : {session session2 : List ℕ} {context context2 : Option UserContext} {plan plan2 : Plan} {flag flag2 : Bool} {operation operation2 : Option (List ℕ)} {tags tags2 : List (List ℕ)} →
    session ≡ session2 → context ≡ context2 → plan ≡ plan2 → flag ≡ flag2 → operation ≡ operation2 → tags ≡ tags2 →
    ◌≡◌ {A = ExecuteRequest} (record { session_id = session; user_context = context; plan = plan; reattachable = flag; operation_id = operation; tags = tags })
    (record { session_id = session2; user_context = context2; plan = plan2; reattachable = flag2; operation_id = operation2; tags = tags2 })
same_execute session_is context_is plan_is flag_is operation_is tags_is =
    rw session_is (rw context_is (rw plan_is (rw flag_is (rw operation_is (rw tags_is refl)))))

pub execute_back : (level : ℕ) (request : ExecuteRequest) → IsKnownPlan request.plan → HasExecuteBits request → IsShort (execute_fields request) → execute_depth request ≤ level →
    IsReadBack level kinds.ExecutePlanRequest (execute_fields request) (execute_request_at level) request
unfolding payload_of
execute_back level request known bits short deep = read_back level kinds.ExecutePlanRequest whole (execute_request_at level) request (omega arith) stands same
  where
    session : List Field
    session = text_fields 1 request.session_id

    context : List Field
    context = context_fields request.user_context

    message : List ℕ
    message = spell (plan_fields request.plan)

    plan : List Field
    plan = payload_fields 3 message

    front : List Field
    front = session ++ context ++ plan

    flag : List Field
    flag = reattachable_fields request.reattachable

    operation : List Field
    operation = optional_payload_fields 6 request.operation_id

    tags : List Field
    tags = repeated_fields 7 request.tags

    options : List Field
    options = flag ++ operation ++ tags

    whole : List Field
    whole = front ++ options

    halves : IsShort front × IsShort options
    halves = short_two front options short

    front_shorts : ThreeShort session context plan
    front_shorts = three_short session context plan halves.0

    option_shorts : ThreeShort flag operation tags
    option_shorts = three_short flag operation tags halves.1

    plan_back : IsReadBack (level - 1) kinds.Plan (plan_fields request.plan) (plan_at (level - 1)) request.plan
    plan_back = plan_read_back (level - 1) request.plan known bits.plan (short_payload 3 message front_shorts.third) (omega arith)

    session_piece : Piece (level - 1) kinds.ExecutePlanRequest 1 session
    session_piece = text_piece (level - 1) kinds.ExecutePlanRequest 1 request.session_id is_1 refl bits.session_id front_shorts.first

    a_piece : Piece (level - 1) kinds.ExecutePlanRequest 2 context
    a_piece = context_piece (level - 1) kinds.ExecutePlanRequest request.user_context refl bits.user_context front_shorts.second (omega arith)

    plan_piece : Piece (level - 1) kinds.ExecutePlanRequest 3 plan
    plan_piece = payload_piece (level - 1) kinds.ExecutePlanRequest 3 (Message kinds.Plan) message is_3 refl plan_back.sound (short_payload 3 message front_shorts.third)

    flag_piece : Piece (level - 1) kinds.ExecutePlanRequest 5 flag
    flag_piece = reattachable_piece (level - 1) kinds.ExecutePlanRequest request.reattachable refl option_shorts.first (omega arith)

    operation_piece : Piece (level - 1) kinds.ExecutePlanRequest 6 operation
    operation_piece = optional_text_piece (level - 1) kinds.ExecutePlanRequest 6 request.operation_id is_6 refl bits.operation_id option_shorts.second

    tags_piece : Piece (level - 1) kinds.ExecutePlanRequest 7 tags
    tags_piece = texts_piece (level - 1) kinds.ExecutePlanRequest 7 request.tags is_7 refl bits.tags (short_repeated 7 request.tags option_shorts.third)

    stands : Stands (level - 1) kinds.ExecutePlanRequest whole
    stands = two_stand (level - 1) kinds.ExecutePlanRequest front options
        (three_stand (level - 1) kinds.ExecutePlanRequest session context plan session_piece.stands a_piece.stands plan_piece.stands)
        (three_stand (level - 1) kinds.ExecutePlanRequest flag operation tags flag_piece.stands operation_piece.stands tags_piece.stands)

    front_reads : ThreeRead 1 2 3 session context plan
    front_reads = three_read 1 2 3 session context plan session_piece.numbered a_piece.numbered plan_piece.numbered (omega arith) (omega arith)

    option_reads : ThreeRead 5 6 7 flag operation tags
    option_reads = three_read 5 6 7 flag operation tags flag_piece.numbered operation_piece.numbered tags_piece.numbered (omega arith) (omega arith)

    front_others : (number : ℕ) → 3 < number → AreOthers number front
    front_others number above = three_others number 1 2 3 session context plan session_piece.numbered a_piece.numbered plan_piece.numbered (omega arith) (omega arith) (omega arith)

    option_others : (number : ℕ) → number < 5 → AreOthers number options
    option_others number below = three_others number 5 6 7 flag operation tags flag_piece.numbered operation_piece.numbered tags_piece.numbered (omega arith) (omega arith) (omega arith)

    in_front : (number : ℕ) (part : List Field) → number < 5 → ReadsAs number front part → ReadsAs number whole part
    in_front number part below reads = before_others number front part options reads (option_others number below)

    in_options : (number : ℕ) (part : List Field) → 3 < number → ReadsAs number options part → ReadsAs number whole part
    in_options number part above reads = behind_others number front options part reads (front_others number above)

    plan_is : plan_at (level - 1) (message_at 3 whole) ≡ request.plan
    plan_is =
        ap (plan_at (level - 1)) (message_at-one 3 whole message ((in_front 3 plan (omega arith) front_reads.third).payloads_are ∙ payloads_one 3 message))
        ∙ plan_back.same

    same : execute_request_at level whole ≡ request
    same = same_execute
        (text_read 1 whole request.session_id (in_front 1 session (omega arith) front_reads.first) bits.session_id)
        (context_read whole request.user_context (in_front 2 context (omega arith) front_reads.second) bits.user_context front_shorts.second)
        plan_is
        (reattachable_read whole request.reattachable (in_options 5 flag (omega arith) option_reads.first))
        (optional_text_read 6 whole request.operation_id (in_options 6 operation (omega arith) option_reads.second) bits.operation_id)
        (texts_read 7 whole request.tags (in_options 7 tags (omega arith) option_reads.third) bits.tags)
