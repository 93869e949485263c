-- What the responses of a running plan are spelled as is read as the responses.
use Rattle.std.proofs.Common.{◌≡◌, ◌≢◌, ℕ, ℤ, ◌-◌, ◌<◌, ◌≤◌, true, List, [], ◌∷◌, ◌++◌, Option, None, Some, pos, refl, ap, ◌∙◌, arith}
use Rattle.std.specs.Prelude.{IfSome, FitsSigned, option_map, unwrap_or}
use Rattle.std.specs.Int.{w64}
use Rattle.std.specs.Str.Lossy.{utf8_lossy}
use Rattle.std.proofs.lemmas.List.{append-nil}
use Rattle.proto_fields.specs.declared.kind.MessageKind.{MessageKind}
use Rattle.proto_fields.specs.declared.kind.MessageKind.TheVariants as kinds
use Rattle.proto_fields.specs.declared.kind.PayloadKind.TheVariants.{Message}
use Rattle.proto_fields.specs.Fields.{Field, fields_of}
use Rattle.proto_fields.specs.Kinds.{payload_of}
use Rattle.proto_fields.specs.Readings.{payloads, joined, int64_of, text_field, Member}
use Rattle.proto_fields.specs.Spelling.{spell, int_fields, payload_fields, text_fields}
use Rattle.proto_fields.proofs.ReturnLemmas.{int64_back, text_back}
use Rattle.expression_messages.specs.declared.data_type.TypeMessage.{TypeMessage}
use Rattle.expression_messages.specs.Types.{type_at}
use Rattle.expression_messages.specs.Spelled.{type_fields}
use Rattle.expression_messages.specs.Known.{HasTypeBits}
use Rattle.expression_messages.specs.Laws.{IsShort, IsReadBack}
use Rattle.expression_messages.proofs.Pieces.{HaveNumber, Stands, nothing_stands, two_stand, read_back, short_two, short_payload, is_numbered, Piece, payload_piece, text_piece, int_piece, number_front, payloads_one, message_at-one}
use Rattle.expression_messages.proofs.TypeBack.{empty_sound, type_read_back}
use Rattle.response_messages.specs.declared.execute.ArrowBatch.{ArrowBatch}
use Rattle.response_messages.specs.declared.execute.ResponseType.{ResponseType}
use Rattle.response_messages.specs.declared.execute.ResponseType.TheVariants as part
use Rattle.response_messages.specs.declared.execute.ExecutePlanResponse.{ExecutePlanResponse}
use Rattle.response_messages.specs.Responses.{arrow_batch_of, execute_member, response_type_of, execute_response_at}
use Rattle.response_messages.specs.Spelled.{arrow_batch_fields, batch_fields, complete_fields, schema_fields, execute_response_fields}
use Rattle.response_messages.specs.Depths.{response_type_depth, schema_depth, execute_response_depth}
use Rattle.response_messages.specs.Known.{is_known_schema, HasResponseTypeBits, HasExecuteResponseBits}
use Rattle.field_groups.specs.Groups.{AreOthers}
use Rattle.field_groups.proofs.Among.{are_others, two_others, payload_before, payload_behind, payloads_before, payloads_behind}
use Rattle.field_groups.proofs.Members.{AreNoMembers, no_members, two_no_members, sets_one, one_before, one_behind, latest_one, latest_none}
use Rattle.field_groups.proofs.Scalars.{is_1, is_2, bytes_piece, bytes_back, is_7}

-- ---- a batch

same_batch : {count count2 : ℤ} {bytes bytes2 : List ℕ} → count ≡ count2 → bytes ≡ bytes2 →
    ◌≡◌ {A = ArrowBatch} (record { row_count = count; payload = bytes }) (record { row_count = count2; payload = bytes2 })
same_batch count_is bytes_is = rw count_is (rw bytes_is refl)

arrow_batch_back : (level : ℕ) (batch : ArrowBatch) → 0 < level → FitsSigned w64 batch.row_count → IsShort (arrow_batch_fields batch) →
    IsReadBack level kinds.ArrowBatch (arrow_batch_fields batch) arrow_batch_of batch
unfolding payload_of
arrow_batch_back level batch some fits short = read_back level kinds.ArrowBatch (count ++ bytes) arrow_batch_of batch some stands same
  where
    count : List Field
    count = int_fields 1 batch.row_count

    bytes : List Field
    bytes = text_fields 2 batch.payload

    count_piece : Piece (level - 1) kinds.ArrowBatch 1 count
    count_piece = int_piece (level - 1) kinds.ArrowBatch 1 batch.row_count is_1 fits

    piece : Piece (level - 1) kinds.ArrowBatch 2 bytes
    piece = bytes_piece (level - 1) kinds.ArrowBatch 2 batch.payload is_2 refl (short_two count bytes short).1

    stands : Stands (level - 1) kinds.ArrowBatch (count ++ bytes)
    stands = two_stand (level - 1) kinds.ArrowBatch count bytes count_piece.stands piece.stands

    same : arrow_batch_of (count ++ bytes) ≡ batch
    same = same_batch
        (ap (λ (n : Option ℕ). unwrap_or (option_map int64_of n) (pos 0)) (number_front 1 2 count bytes piece.numbered (omega arith)) ∙ int64_back 1 batch.row_count fits)
        (ap (λ (p : Option (List ℕ)). unwrap_or p []) (payload_behind 2 count bytes (are_others 2 1 count count_piece.numbered (omega arith))) ∙ bytes_back 2 batch.payload)

-- ---- the member of the oneof, whose two members stand apart

-- the batch of a response is read back
BatchBack : ResponseType → Type 0
BatchBack (part.ArrowBatch batch) = arrow_batch_of (fields_of (spell (arrow_batch_fields batch))) ≡ batch
BatchBack part.ResultComplete = Unit {0}
BatchBack part.Absent = Unit {0}

batch_back : (levels : ℕ) (it : ResponseType) → HasResponseTypeBits it → IsShort (batch_fields it) → response_type_depth it ≤ levels → BatchBack it
unfolding BatchBack
batch_back levels (part.ArrowBatch batch) bits short deep = (arrow_batch_back levels batch (omega arith) bits (short_payload 2 (spell (arrow_batch_fields batch)) short)).same
batch_back levels part.ResultComplete bits short deep = tt
batch_back levels part.Absent bits short deep = tt

batch_piece : (levels : ℕ) (it : ResponseType) → HasResponseTypeBits it → IsShort (batch_fields it) → response_type_depth it ≤ levels → Piece levels kinds.ExecutePlanResponse 2 (batch_fields it)
unfolding payload_of
batch_piece levels (part.ArrowBatch batch) bits short deep =
    let payload = spell (arrow_batch_fields batch) in
    let short_batch = short_payload 2 payload short in
    let back = arrow_batch_back levels batch (omega arith) bits short_batch in
    payload_piece levels kinds.ExecutePlanResponse 2 (Message kinds.ArrowBatch) payload is_2 refl back.sound short_batch
batch_piece levels part.ResultComplete bits short deep = record { stands = nothing_stands levels kinds.ExecutePlanResponse; numbered = tt }
batch_piece levels part.Absent bits short deep = record { stands = nothing_stands levels kinds.ExecutePlanResponse; numbered = tt }

complete_piece : (levels : ℕ) (it : ResponseType) → response_type_depth it ≤ levels → Piece levels kinds.ExecutePlanResponse 14 (complete_fields it)
unfolding payload_of
complete_piece levels (part.ArrowBatch batch) deep = record { stands = nothing_stands levels kinds.ExecutePlanResponse; numbered = tt }
complete_piece levels part.ResultComplete deep =
    payload_piece levels kinds.ExecutePlanResponse 14 (Message kinds.Empty) [] (is_numbered 14 (omega arith) (omega arith)) refl (empty_sound levels (omega arith)) (omega arith)
complete_piece levels part.Absent deep = record { stands = nothing_stands levels kinds.ExecutePlanResponse; numbered = tt }

-- fields beside the members: they set none, and no one is a batch
record Beside (fields : List Field) : Type 0 where
  none : AreNoMembers kinds.ExecutePlanResponse fields
  others : AreOthers 2 fields

beside : (number : ℕ) (fields : List Field) → HaveNumber number fields → number ≢ 2 → AreNoMembers kinds.ExecutePlanResponse fields → Beside fields
beside number fields numbered not_batch none = record { none = none; others = are_others 2 number fields numbered not_batch }

part_back : (it : ResponseType) (a c d e : List Field) → Beside a → Beside c → Beside d → Beside e → BatchBack it →
    response_type_of (a ++ batch_fields it ++ c ++ d ++ e ++ complete_fields it) ≡ it
unfolding BatchBack
part_back (part.ArrowBatch batch) a c d e first third fourth fifth back =
    let payload = spell (arrow_batch_fields batch) in
    let b = payload_fields 2 payload in
    let kind = kinds.ExecutePlanResponse in
    let two = one_behind kind 2 a b first.none (sets_one kind 2 payload refl) in
    let five = one_before kind 2 (a ++ b ++ c ++ d) e (one_before kind 2 (a ++ b ++ c) d (one_before kind 2 (a ++ b) c two third.none) fourth.none) fifth.none in
    let whole = a ++ b ++ c ++ d ++ e ++ [] in
    let found = latest_one kind 2 whole (one_before kind 2 (a ++ b ++ c ++ d ++ e) [] five tt) in
    let one : payloads 2 whole ≡ payload ∷ [] =
    payloads_before 2 (a ++ b ++ c ++ d ++ e) [] tt ∙ payloads_before 2 (a ++ b ++ c ++ d) e fifth.others ∙ payloads_before 2 (a ++ b ++ c) d fourth.others
    ∙ payloads_before 2 (a ++ b) c third.others ∙ payloads_behind 2 a b first.others ∙ payloads_one 2 payload in
    ap (λ (m : Option Member). unwrap_or (option_map execute_member m) part.Absent) found
    ∙ ap (λ (fields : List Field). part.ArrowBatch (arrow_batch_of fields)) (message_at-one 2 whole payload one)
    ∙ ap (λ (found : ArrowBatch). part.ArrowBatch found) back
part_back part.ResultComplete a c d e first third fourth fifth back =
    let kind = kinds.ExecutePlanResponse in
    let front = two_no_members kind (a ++ [] ++ c ++ d) e (two_no_members kind (a ++ [] ++ c) d (two_no_members kind (a ++ []) c (two_no_members kind a [] first.none tt) third.none) fourth.none) fifth.none in
    let found = latest_one kind 14 (a ++ [] ++ c ++ d ++ e ++ payload_fields 14 []) (one_behind kind 14 (a ++ [] ++ c ++ d ++ e) (payload_fields 14 []) front (sets_one kind 14 [] refl)) in
    ap (λ (m : Option Member). unwrap_or (option_map execute_member m) part.Absent) found
part_back part.Absent a c d e first third fourth fifth back =
    let kind = kinds.ExecutePlanResponse in
    let front = two_no_members kind (a ++ [] ++ c ++ d) e (two_no_members kind (a ++ [] ++ c) d (two_no_members kind (a ++ []) c (two_no_members kind a [] first.none tt) third.none) fourth.none) fifth.none in
    let found = latest_none kind (a ++ [] ++ c ++ d ++ e ++ []) (two_no_members kind (a ++ [] ++ c ++ d ++ e) [] front tt) in
    ap (λ (m : Option Member). unwrap_or (option_map execute_member m) part.Absent) found

-- ---- the schema

record SchemaBack (levels : ℕ) (schema : Option TypeMessage) : Type 0 where
  piece : Piece levels kinds.ExecutePlanResponse 7 (schema_fields schema)
  same : option_map (type_at levels) (joined (payloads 7 (schema_fields schema))) ≡ schema

schema_back : (levels : ℕ) (schema : Option TypeMessage) → is_known_schema schema ≡ true → IfSome schema HasTypeBits → IsShort (schema_fields schema) → schema_depth schema ≤ levels → SchemaBack levels schema
unfolding payload_of payloads
schema_back levels None known bits short deep = record { piece = record { stands = nothing_stands levels kinds.ExecutePlanResponse; numbered = tt }; same = refl }
schema_back levels (Some kind) known bits short deep =
    let payload = spell (type_fields kind) in
    let short_kind = short_payload 7 payload short in
    let kind_back = type_read_back levels kind known bits short_kind deep in
    record {
      piece = payload_piece levels kinds.ExecutePlanResponse 7 (Message kinds.DataType) payload is_7 refl kind_back.sound short_kind;
      same = ap (λ (fields : List Field). Some (type_at levels fields)) (append-nil (fields_of payload)) ∙ ap (λ k. Some k) kind_back.same;
    }

-- ---- the response

same_response : {session session2 operation operation2 id id2 : List ℕ} {kind kind2 : ResponseType} {schema schema2 : Option TypeMessage} →
    session ≡ session2 → kind ≡ kind2 → schema ≡ schema2 → operation ≡ operation2 → id ≡ id2 →
    ◌≡◌ {A = ExecutePlanResponse} (record { session_id = session; response_type = kind; schema = schema; operation_id = operation; response_id = id })
    (record { session_id = session2; response_type = kind2; schema = schema2; operation_id = operation2; response_id = id2 })
same_response session_is kind_is schema_is operation_is id_is = rw session_is (rw kind_is (rw schema_is (rw operation_is (rw id_is refl))))

pub execute_back : (level : ℕ) (response : ExecutePlanResponse) → is_known_schema response.schema ≡ true → HasExecuteResponseBits response → IsShort (execute_response_fields response) → execute_response_depth response ≤ level →
    IsReadBack level kinds.ExecutePlanResponse (execute_response_fields response) (execute_response_at level) response
unfolding payload_of
execute_back level response known bits short deep = read_back level kinds.ExecutePlanResponse whole (execute_response_at level) response (omega arith) stands same
  where
    kind : MessageKind
    kind = kinds.ExecutePlanResponse

    a : List Field
    a = text_fields 1 response.session_id

    b : List Field
    b = batch_fields response.response_type

    c : List Field
    c = schema_fields response.schema

    d : List Field
    d = text_fields 12 response.operation_id

    e : List Field
    e = text_fields 13 response.response_id

    f : List Field
    f = complete_fields response.response_type

    whole : List Field
    whole = a ++ b ++ c ++ d ++ e ++ f

    five_short : IsShort (a ++ b ++ c ++ d ++ e)
    five_short = (short_two (a ++ b ++ c ++ d ++ e) f short).0

    four_short : IsShort (a ++ b ++ c ++ d)
    four_short = (short_two (a ++ b ++ c ++ d) e five_short).0

    three_short : IsShort (a ++ b ++ c)
    three_short = (short_two (a ++ b ++ c) d four_short).0

    two_short : IsShort a × IsShort b
    two_short = short_two a b (short_two (a ++ b) c three_short).0

    session : Piece (level - 1) kind 1 a
    session = text_piece (level - 1) kind 1 response.session_id is_1 refl bits.session_id two_short.0

    batch : Piece (level - 1) kind 2 b
    batch = batch_piece (level - 1) response.response_type bits.response_type two_short.1 (omega arith)

    schema : SchemaBack (level - 1) response.schema
    schema = schema_back (level - 1) response.schema known bits.schema (short_two (a ++ b) c three_short).1 (omega arith)

    operation : Piece (level - 1) kind 12 d
    operation = text_piece (level - 1) kind 12 response.operation_id (is_numbered 12 (omega arith) (omega arith)) refl bits.operation_id (short_two (a ++ b ++ c) d four_short).1

    id : Piece (level - 1) kind 13 e
    id = text_piece (level - 1) kind 13 response.response_id (is_numbered 13 (omega arith) (omega arith)) refl bits.response_id (short_two (a ++ b ++ c ++ d) e five_short).1

    complete : Piece (level - 1) kind 14 f
    complete = complete_piece (level - 1) response.response_type (omega arith)

    stands : Stands (level - 1) kind whole
    stands = two_stand (level - 1) kind (a ++ b ++ c ++ d ++ e) f
        (two_stand (level - 1) kind (a ++ b ++ c ++ d) e
        (two_stand (level - 1) kind (a ++ b ++ c) d
        (two_stand (level - 1) kind (a ++ b) c (two_stand (level - 1) kind a b session.stands batch.stands) schema.piece.stands)
        operation.stands)
        id.stands)
        complete.stands

    text : Option (List ℕ) → List ℕ
    text = λ (p : Option (List ℕ)). unwrap_or (option_map utf8_lossy p) []

    session_read : text_field 1 whole ≡ response.session_id
    session_read =
        ap text
        (payload_before 1 (a ++ b ++ c ++ d ++ e) f (are_others 1 14 f complete.numbered (omega arith))
        ∙ payload_before 1 (a ++ b ++ c ++ d) e (are_others 1 13 e id.numbered (omega arith))
        ∙ payload_before 1 (a ++ b ++ c) d (are_others 1 12 d operation.numbered (omega arith))
        ∙ payload_before 1 (a ++ b) c (are_others 1 7 c schema.piece.numbered (omega arith))
        ∙ payload_before 1 a b (are_others 1 2 b batch.numbered (omega arith)))
        ∙ text_back 1 response.session_id bits.session_id

    schema_read : option_map (type_at (level - 1)) (joined (payloads 7 whole)) ≡ response.schema
    schema_read =
        ap (λ (ps : List (List ℕ)). option_map (type_at (level - 1)) (joined ps))
        (payloads_before 7 (a ++ b ++ c ++ d ++ e) f (are_others 7 14 f complete.numbered (omega arith))
        ∙ payloads_before 7 (a ++ b ++ c ++ d) e (are_others 7 13 e id.numbered (omega arith))
        ∙ payloads_before 7 (a ++ b ++ c) d (are_others 7 12 d operation.numbered (omega arith))
        ∙ payloads_behind 7 (a ++ b) c (two_others 7 a b (are_others 7 1 a session.numbered (omega arith)) (are_others 7 2 b batch.numbered (omega arith))))
        ∙ schema.same

    front_others : (number : ℕ) → 1 ≢ number → 2 ≢ number → 7 ≢ number → AreOthers number (a ++ b ++ c)
    front_others = λ number one two seven.
        two_others number (a ++ b) c (two_others number a b (are_others number 1 a session.numbered one) (are_others number 2 b batch.numbered two)) (are_others number 7 c schema.piece.numbered seven)

    operation_read : text_field 12 whole ≡ response.operation_id
    operation_read =
        ap text
        (payload_before 12 (a ++ b ++ c ++ d ++ e) f (are_others 12 14 f complete.numbered (omega arith))
        ∙ payload_before 12 (a ++ b ++ c ++ d) e (are_others 12 13 e id.numbered (omega arith))
        ∙ payload_behind 12 (a ++ b ++ c) d (front_others 12 (omega arith) (omega arith) (omega arith)))
        ∙ text_back 12 response.operation_id bits.operation_id

    id_read : text_field 13 whole ≡ response.response_id
    id_read =
        ap text
        (payload_before 13 (a ++ b ++ c ++ d ++ e) f (are_others 13 14 f complete.numbered (omega arith))
        ∙ payload_behind 13 (a ++ b ++ c ++ d) e
        (two_others 13 (a ++ b ++ c) d (front_others 13 (omega arith) (omega arith) (omega arith)) (are_others 13 12 d operation.numbered (omega arith))))
        ∙ text_back 13 response.response_id bits.response_id

    part_read : response_type_of whole ≡ response.response_type
    part_read =
        part_back response.response_type a c d e
        (beside 1 a session.numbered (omega arith) (no_members kind 1 a (record { payload = refl; varint = refl }) session.numbered))
        (beside 7 c schema.piece.numbered (omega arith) (no_members kind 7 c (record { payload = refl; varint = refl }) schema.piece.numbered))
        (beside 12 d operation.numbered (omega arith) (no_members kind 12 d (record { payload = refl; varint = refl }) operation.numbered))
        (beside 13 e id.numbered (omega arith) (no_members kind 13 e (record { payload = refl; varint = refl }) id.numbered))
        (batch_back (level - 1) response.response_type bits.response_type two_short.1 (omega arith))

    same : execute_response_at level whole ≡ response
    same = same_response session_read part_read schema_read operation_read id_read
