-- What requests are spelled as is read as the requests.
use Rattle.std.proofs.Common.{◌≡◌, ℕ, ℤ, ◌-◌, ◌<◌, ◌≤◌, List, [], ◌++◌, Option, refl, ap, ◌∙◌, arith}
use Rattle.std.specs.Prelude.{IsUtf8, option_map, unwrap_or}
use Rattle.proto_fields.specs.declared.kind.MessageKind.TheVariants as kinds
use Rattle.proto_fields.specs.declared.kind.PayloadKind.TheVariants.{Message, Text}
use Rattle.proto_fields.specs.Fields.{Field}
use Rattle.proto_fields.specs.Kinds.{payload_of}
use Rattle.proto_fields.specs.Readings.{text_field, Member}
use Rattle.proto_fields.specs.Spelling.{spell, payload_fields, int_fields, text_fields, optional_payload_fields}
use Rattle.proto_fields.proofs.ReturnLemmas.{text_back}
use Rattle.expression_messages.specs.Laws.{IsShort, IsReadBack}
use Rattle.expression_messages.proofs.Pieces.{Stands, nothing_stands, read_back, short_payload, Piece, payload_piece, text_piece, optional_text_piece, int_piece, wider, payloads_one, message_at-one}
use Rattle.expression_messages.proofs.TypeBack.{empty_sound}
use Rattle.request_messages.specs.declared.user_context.UserContext.{UserContext}
use Rattle.request_messages.specs.declared.reattach.ReattachRequest.{ReattachRequest}
use Rattle.request_messages.specs.declared.release.Release.{Release}
use Rattle.request_messages.specs.declared.release.Release.TheVariants as release
use Rattle.request_messages.specs.declared.release.ReleaseRequest.{ReleaseRequest}
use Rattle.request_messages.specs.declared.interrupt.InterruptTarget.{InterruptTarget}
use Rattle.request_messages.specs.declared.interrupt.InterruptTarget.TheVariants as target
use Rattle.request_messages.specs.declared.interrupt.InterruptRequest.{InterruptRequest}
use Rattle.request_messages.specs.Requests.{reattach_request_of, release_member, release_in, release_request_of, interrupt_target_member, target_in, interrupt_request_of}
use Rattle.request_messages.specs.Spelled.{context_fields, reattach_fields, release_member_fields, release_fields, interrupt_target_fields, interrupt_fields}
use Rattle.request_messages.specs.Depths.{reattach_depth, release_member_depth, release_depth, interrupt_depth}
use Rattle.request_messages.specs.Bits.{HasReattachBits, HasReleaseMemberBits, HasReleaseBits, HasInterruptTargetBits, HasInterruptBits}
use Rattle.field_groups.proofs.Among.{behind}
use Rattle.field_groups.proofs.Members.{two_no_members, latest_none, latest_behind}
use Rattle.field_groups.proofs.Groups.{FourRead, four_read, FourShort, four_short, four_stand, MemberBack, member_read}
use Rattle.field_groups.proofs.Scalars.{is_1, is_3, is_4, is_5, is_6, text_read, payload_read, optional_text_read, int32_read}
use Rattle.request_messages.proofs.FieldsBack.{context_piece, context_read}

-- ---- reattaching

same_reattach : {session session2 operation operation2 : List ℕ} {context context2 : Option UserContext} {response response2 : Option (List ℕ)} →
    session ≡ session2 → context ≡ context2 → operation ≡ operation2 → response ≡ response2 →
    ◌≡◌ {A = ReattachRequest} (record { session_id = session; user_context = context; operation_id = operation; last_response_id = response })
    (record { session_id = session2; user_context = context2; operation_id = operation2; last_response_id = response2 })
same_reattach session_is context_is operation_is response_is = rw session_is (rw context_is (rw operation_is (rw response_is refl)))

pub reattach_back : (level : ℕ) (request : ReattachRequest) → HasReattachBits request → IsShort (reattach_fields request) → reattach_depth request ≤ level →
    IsReadBack level kinds.ReattachExecuteRequest (reattach_fields request) reattach_request_of request
unfolding payload_of
reattach_back level request bits short deep = read_back level kinds.ReattachExecuteRequest whole reattach_request_of request (omega arith) stands same
  where
    session : List Field
    session = text_fields 1 request.session_id

    context : List Field
    context = context_fields request.user_context

    operation : List Field
    operation = text_fields 3 request.operation_id

    response : List Field
    response = optional_payload_fields 5 request.last_response_id

    whole : List Field
    whole = session ++ context ++ operation ++ response

    shorts : FourShort session context operation response
    shorts = four_short session context operation response short

    session_piece : Piece (level - 1) kinds.ReattachExecuteRequest 1 session
    session_piece = text_piece (level - 1) kinds.ReattachExecuteRequest 1 request.session_id is_1 refl bits.session_id shorts.first

    a_piece : Piece (level - 1) kinds.ReattachExecuteRequest 2 context
    a_piece = context_piece (level - 1) kinds.ReattachExecuteRequest request.user_context refl bits.user_context shorts.second (omega arith)

    operation_piece : Piece (level - 1) kinds.ReattachExecuteRequest 3 operation
    operation_piece = text_piece (level - 1) kinds.ReattachExecuteRequest 3 request.operation_id is_3 refl bits.operation_id shorts.third

    response_piece : Piece (level - 1) kinds.ReattachExecuteRequest 5 response
    response_piece = optional_text_piece (level - 1) kinds.ReattachExecuteRequest 5 request.last_response_id is_5 refl bits.last_response_id shorts.fourth

    stands : Stands (level - 1) kinds.ReattachExecuteRequest whole
    stands = four_stand (level - 1) kinds.ReattachExecuteRequest session context operation response session_piece.stands a_piece.stands operation_piece.stands response_piece.stands

    reads : FourRead 1 2 3 5 session context operation response
    reads = four_read 1 2 3 5 session context operation response session_piece.numbered a_piece.numbered operation_piece.numbered response_piece.numbered (omega arith) (omega arith) (omega arith)

    same : reattach_request_of whole ≡ request
    same = same_reattach
        (text_read 1 whole request.session_id reads.first bits.session_id)
        (context_read whole request.user_context reads.second bits.user_context shorts.second)
        (text_read 3 whole request.operation_id reads.third bits.operation_id)
        (optional_text_read 5 whole request.last_response_id reads.fourth bits.last_response_id)

-- ---- releasing

release_by : Option Member → Release
release_by member = unwrap_or (option_map release_member member) release.Absent

is_until : (level : ℕ) (response_id : List ℕ) → IsUtf8 response_id → IsShort (text_fields 1 response_id) → 0 < level → IsReadBack level kinds.ReleaseUntil (text_fields 1 response_id) (text_field 1) response_id
unfolding payload_of
is_until level response_id utf8 short some =
    let piece = text_piece (level - 1) kinds.ReleaseUntil 1 response_id is_1 refl utf8 short in
    read_back level kinds.ReleaseUntil (text_fields 1 response_id) (text_field 1) response_id some piece.stands (text_back 1 response_id utf8)

release_member_back : (levels : ℕ) (it : Release) → HasReleaseMemberBits it → IsShort (release_member_fields it) → release_member_depth it ≤ levels →
    MemberBack levels kinds.ReleaseExecuteRequest 3 (release_member_fields it) release_in it
unfolding payload_of release_by
release_member_back levels release.All bits short deep = record {
  number = 5;
  above = omega arith;
  piece = payload_piece levels kinds.ReleaseExecuteRequest 5 (Message kinds.Empty) [] is_5 refl (empty_sound levels (omega arith)) (omega arith);
  same = λ front apart others. ap release_by (latest_behind kinds.ReleaseExecuteRequest 5 front [] apart refl);
}
release_member_back levels (release.Until response_id) bits short deep =
    let payload = spell (text_fields 1 response_id) in
    let few = short_payload 6 payload short in
    let back = is_until levels response_id bits few (omega arith) in
    record {
      number = 6;
      above = omega arith;
      piece = payload_piece levels kinds.ReleaseExecuteRequest 6 (Message kinds.ReleaseUntil) payload is_6 refl back.sound few;
      same = λ front apart others.
          ap release_by (latest_behind kinds.ReleaseExecuteRequest 6 front payload apart refl)
          ∙ ap (λ (fields : List Field). release.Until (text_field 1 fields))
          (message_at-one 6 (front ++ payload_fields 6 payload) payload ((behind 6 front (payload_fields 6 payload) others).payloads_are ∙ payloads_one 6 payload))
          ∙ ap (λ (id : List ℕ). release.Until id) back.same;
    }
release_member_back levels release.Absent bits short deep = record {
  number = 5;
  above = omega arith;
  piece = record { stands = nothing_stands levels kinds.ReleaseExecuteRequest; numbered = tt };
  same = λ front apart others. ap release_by (latest_none kinds.ReleaseExecuteRequest (front ++ []) (two_no_members kinds.ReleaseExecuteRequest front [] apart tt));
}

same_release : {session session2 operation operation2 : List ℕ} {context context2 : Option UserContext} {it it2 : Release} →
    session ≡ session2 → context ≡ context2 → operation ≡ operation2 → it ≡ it2 →
    ◌≡◌ {A = ReleaseRequest} (record { session_id = session; user_context = context; operation_id = operation; release = it })
    (record { session_id = session2; user_context = context2; operation_id = operation2; release = it2 })
same_release session_is context_is operation_is it_is = rw session_is (rw context_is (rw operation_is (rw it_is refl)))

pub release_back : (level : ℕ) (request : ReleaseRequest) → HasReleaseBits request → IsShort (release_fields request) → release_depth request ≤ level →
    IsReadBack level kinds.ReleaseExecuteRequest (release_fields request) release_request_of request
unfolding payload_of
release_back level request bits short deep = read_back level kinds.ReleaseExecuteRequest whole release_request_of request (omega arith) stands same
  where
    session : List Field
    session = text_fields 1 request.session_id

    context : List Field
    context = context_fields request.user_context

    operation : List Field
    operation = text_fields 3 request.operation_id

    member : List Field
    member = release_member_fields request.release

    whole : List Field
    whole = session ++ context ++ operation ++ member

    shorts : FourShort session context operation member
    shorts = four_short session context operation member short

    session_piece : Piece (level - 1) kinds.ReleaseExecuteRequest 1 session
    session_piece = text_piece (level - 1) kinds.ReleaseExecuteRequest 1 request.session_id is_1 refl bits.session_id shorts.first

    a_piece : Piece (level - 1) kinds.ReleaseExecuteRequest 2 context
    a_piece = context_piece (level - 1) kinds.ReleaseExecuteRequest request.user_context refl bits.user_context shorts.second (omega arith)

    operation_piece : Piece (level - 1) kinds.ReleaseExecuteRequest 3 operation
    operation_piece = text_piece (level - 1) kinds.ReleaseExecuteRequest 3 request.operation_id is_3 refl bits.operation_id shorts.third

    member_back : MemberBack (level - 1) kinds.ReleaseExecuteRequest 3 member release_in request.release
    member_back = release_member_back (level - 1) request.release bits.release shorts.fourth (omega arith)

    stands : Stands (level - 1) kinds.ReleaseExecuteRequest whole
    stands = four_stand (level - 1) kinds.ReleaseExecuteRequest session context operation member session_piece.stands a_piece.stands operation_piece.stands member_back.piece.stands

    reads : FourRead 1 2 3 member_back.number session context operation member
    reads = four_read 1 2 3 member_back.number session context operation member session_piece.numbered a_piece.numbered operation_piece.numbered member_back.piece.numbered (omega arith) (omega arith) member_back.above

    same : release_request_of whole ≡ request
    same = same_release
        (text_read 1 whole request.session_id reads.first bits.session_id)
        (context_read whole request.user_context reads.second bits.user_context shorts.second)
        (text_read 3 whole request.operation_id reads.third bits.operation_id)
        (member_read (level - 1) kinds.ReleaseExecuteRequest 1 2 3 session context operation member release_in request.release member_back
        session_piece.numbered a_piece.numbered operation_piece.numbered (omega arith) (omega arith)
        (record { payload = refl; varint = refl }) (record { payload = refl; varint = refl }) (record { payload = refl; varint = refl }))

-- ---- interrupting

target_by : Option Member → InterruptTarget
target_by member = unwrap_or (option_map interrupt_target_member member) target.Absent

target_back : (levels : ℕ) (it : InterruptTarget) → HasInterruptTargetBits it → IsShort (interrupt_target_fields it) → MemberBack levels kinds.InterruptRequest 4 (interrupt_target_fields it) target_in it
unfolding payload_of target_by
target_back levels (target.OperationTag tag) bits short = record {
  number = 5;
  above = omega arith;
  piece = payload_piece levels kinds.InterruptRequest 5 Text tag is_5 refl bits (short_payload 5 tag short);
  same = λ front apart others.
      ap target_by (latest_behind kinds.InterruptRequest 5 front tag apart refl)
      ∙ ap (λ (t : List ℕ). target.OperationTag t) (payload_read 5 (front ++ payload_fields 5 tag) tag (behind 5 front (payload_fields 5 tag) others) bits);
}
target_back levels (target.OperationId id) bits short = record {
  number = 6;
  above = omega arith;
  piece = payload_piece levels kinds.InterruptRequest 6 Text id is_6 refl bits (short_payload 6 id short);
  same = λ front apart others.
      ap target_by (latest_behind kinds.InterruptRequest 6 front id apart refl)
      ∙ ap (λ (t : List ℕ). target.OperationId t) (payload_read 6 (front ++ payload_fields 6 id) id (behind 6 front (payload_fields 6 id) others) bits);
}
target_back levels target.Absent bits short = record {
  number = 5;
  above = omega arith;
  piece = record { stands = nothing_stands levels kinds.InterruptRequest; numbered = tt };
  same = λ front apart others. ap target_by (latest_none kinds.InterruptRequest (front ++ []) (two_no_members kinds.InterruptRequest front [] apart tt));
}

same_interrupt : {session session2 : List ℕ} {context context2 : Option UserContext} {kind kind2 : ℤ} {it it2 : InterruptTarget} →
    session ≡ session2 → context ≡ context2 → kind ≡ kind2 → it ≡ it2 →
    ◌≡◌ {A = InterruptRequest} (record { session_id = session; user_context = context; interrupt_type = kind; target = it })
    (record { session_id = session2; user_context = context2; interrupt_type = kind2; target = it2 })
same_interrupt session_is context_is kind_is it_is = rw session_is (rw context_is (rw kind_is (rw it_is refl)))

pub interrupt_back : (level : ℕ) (request : InterruptRequest) → HasInterruptBits request → IsShort (interrupt_fields request) → interrupt_depth request ≤ level →
    IsReadBack level kinds.InterruptRequest (interrupt_fields request) interrupt_request_of request
unfolding payload_of
interrupt_back level request bits short deep = read_back level kinds.InterruptRequest whole interrupt_request_of request (omega arith) stands same
  where
    session : List Field
    session = text_fields 1 request.session_id

    context : List Field
    context = context_fields request.user_context

    kind : List Field
    kind = int_fields 4 request.interrupt_type

    member : List Field
    member = interrupt_target_fields request.target

    whole : List Field
    whole = session ++ context ++ kind ++ member

    shorts : FourShort session context kind member
    shorts = four_short session context kind member short

    session_piece : Piece (level - 1) kinds.InterruptRequest 1 session
    session_piece = text_piece (level - 1) kinds.InterruptRequest 1 request.session_id is_1 refl bits.session_id shorts.first

    a_piece : Piece (level - 1) kinds.InterruptRequest 2 context
    a_piece = context_piece (level - 1) kinds.InterruptRequest request.user_context refl bits.user_context shorts.second (omega arith)

    kind_piece : Piece (level - 1) kinds.InterruptRequest 4 kind
    kind_piece = int_piece (level - 1) kinds.InterruptRequest 4 request.interrupt_type is_4 (wider request.interrupt_type bits.interrupt_type)

    member_back : MemberBack (level - 1) kinds.InterruptRequest 4 member target_in request.target
    member_back = target_back (level - 1) request.target bits.target shorts.fourth

    stands : Stands (level - 1) kinds.InterruptRequest whole
    stands = four_stand (level - 1) kinds.InterruptRequest session context kind member session_piece.stands a_piece.stands kind_piece.stands member_back.piece.stands

    reads : FourRead 1 2 4 member_back.number session context kind member
    reads = four_read 1 2 4 member_back.number session context kind member session_piece.numbered a_piece.numbered kind_piece.numbered member_back.piece.numbered (omega arith) (omega arith) member_back.above

    same : interrupt_request_of whole ≡ request
    same = same_interrupt
        (text_read 1 whole request.session_id reads.first bits.session_id)
        (context_read whole request.user_context reads.second bits.user_context shorts.second)
        (int32_read 4 whole request.interrupt_type reads.third bits.interrupt_type)
        (member_read (level - 1) kinds.InterruptRequest 1 2 4 session context kind member target_in request.target member_back
        session_piece.numbered a_piece.numbered kind_piece.numbered (omega arith) (omega arith)
        (record { payload = refl; varint = refl }) (record { payload = refl; varint = refl }) (record { payload = refl; varint = refl }))
