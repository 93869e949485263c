-- What the other responses are spelled as is read as the responses.
use Rattle.std.proofs.Common.{◌≡◌, ◌≢◌, ℕ, ◌+◌, ◌-◌, ◌≤◌, Bool, true, List, [], ◌∷◌, ◌++◌, map, Option, Some, refl, ap, ◌∙◌, arith}
use Rattle.std.specs.Prelude.{IsUtf8, option_map, unwrap_or}
use Rattle.std.specs.List.{AllByRecursion}
use Rattle.proto_fields.specs.declared.kind.MessageKind.TheVariants as kinds
use Rattle.proto_fields.specs.declared.kind.PayloadKind.TheVariants.{Message}
use Rattle.proto_fields.specs.Fields.{Field, fields_of}
use Rattle.proto_fields.specs.Kinds.{payload_of}
use Rattle.proto_fields.specs.Readings.{bool_field, text_field, texts, optional_text, Member, latest}
use Rattle.proto_fields.specs.Spelling.{spell, payload_fields, bool_fields, text_fields, optional_payload_fields}
use Rattle.proto_fields.proofs.SpellLemmas.{spelled_message}
use Rattle.proto_fields.proofs.ReturnLemmas.{bool_back, text_back}
use Rattle.expression_messages.specs.declared.data_type.TypeMessage.{TypeMessage}
use Rattle.expression_messages.specs.Messages.{message_at, messages_at, repeated_fields, messages_fields}
use Rattle.expression_messages.specs.Types.{type_at}
use Rattle.expression_messages.specs.Spelled.{type_fields}
use Rattle.expression_messages.specs.Laws.{IsShort, IsReadBack}
use Rattle.expression_messages.proofs.Pieces.{HaveNumber, Stands, nothing_stands, two_stand, stands_sound, read_back, short_two, short_payload, short_repeated, short_messages, is_numbered, Piece, payload_piece, text_piece, optional_text_piece, texts_piece, bool_piece, payloads_one, message_at-one, payloads_repeated, ItemBack, messages_piece, messages_read}
use Rattle.expression_messages.proofs.TypeBack.{type_read_back}
use Rattle.response_messages.specs.declared.key_value.KeyValue.{KeyValue}
use Rattle.response_messages.specs.declared.answers.AnalyzeResult.{AnalyzeResult}
use Rattle.response_messages.specs.declared.answers.AnalyzeResult.TheVariants as said
use Rattle.response_messages.specs.declared.answers.AnalyzePlanResponse.{AnalyzePlanResponse}
use Rattle.response_messages.specs.declared.answers.ConfigResponse.{ConfigResponse}
use Rattle.response_messages.specs.declared.answers.InterruptResponse.{InterruptResponse}
use Rattle.response_messages.specs.declared.answers.ReleaseExecuteResponse.{ReleaseExecuteResponse}
use Rattle.response_messages.specs.KeyValues.{key_value_of, key_value_fields, HasKeyValueBits}
use Rattle.response_messages.specs.Responses.{analyze_member, result_of, analyze_response_at, config_response_of, interrupt_response_of, release_response_of}
use Rattle.response_messages.specs.Spelled.{result_fields, analyze_response_fields, config_response_fields, interrupt_response_fields, release_response_fields}
use Rattle.response_messages.specs.Depths.{result_depth, pairs_depth}
use Rattle.response_messages.specs.Known.{is_known_result, HasResultBits, HasAnalyzeResponseBits, HasConfigResponseBits, HasInterruptResponseBits, HasReleaseResponseBits}
use Rattle.field_groups.specs.Groups.{AreOthers}
use Rattle.field_groups.proofs.Among.{are_others, alone, before_others, behind, payloads_behind}
use Rattle.field_groups.proofs.Members.{no_members, two_no_members, sets_one, one_behind, latest_one, latest_none}
use Rattle.field_groups.proofs.Scalars.{is_1, is_2, text_read, optional_text_read, texts_read}
use Rattle.response_messages.proofs.PairBack.{key_value_read_back}

-- the session's id, before fields of other numbers
session_back : (session : List ℕ) (rest : List Field) → IsUtf8 session → AreOthers 1 rest → text_field 1 (text_fields 1 session ++ rest) ≡ session
session_back session rest utf8 others =
    text_read 1 (text_fields 1 session ++ rest) session (before_others 1 (text_fields 1 session) (text_fields 1 session) rest (alone 1 (text_fields 1 session)) others) utf8

-- ---- the result of an analysis

-- it stands, and is read behind the session's id
record ResultBack (levels : ℕ) (it : AnalyzeResult) : Type 0 where
  stands : Stands levels kinds.AnalyzePlanResponse (result_fields it)
  others : AreOthers 1 (result_fields it)
  same : (front : List Field) → HaveNumber 1 front → result_of (type_at (levels - 1)) (front ++ result_fields it) ≡ it

-- the message of a member is read behind the session's id
member_read : (number : ℕ) (front inner : List Field) (payload : List ℕ) → HaveNumber 1 front → 1 ≢ number →
    fields_of payload ≡ inner → message_at number (front ++ payload_fields number payload) ≡ inner
member_read number front inner payload numbered other is =
    message_at-one number (front ++ payload_fields number payload) payload (payloads_behind number front (payload_fields number payload) (are_others number 1 front numbered other) ∙ payloads_one number payload) ∙ is

result_by : (types : List Field → TypeMessage) (fields : List Field) (member : Member) → latest kinds.AnalyzePlanResponse fields ≡ Some member → result_of types fields ≡ analyze_member types member
result_by types fields member is = ap (λ (m : Option Member). unwrap_or (option_map (analyze_member types) m) said.Absent) is

result_back : (levels : ℕ) (it : AnalyzeResult) → is_known_result it ≡ true → HasResultBits it → IsShort (result_fields it) → result_depth it ≤ levels → ResultBack levels it
unfolding payload_of
result_back levels (said.Schema kind) known bits short deep =
    let types = type_at (levels - 1) in
    let payload = spell (type_fields kind) in
    let inner = payload_fields 1 payload in
    let short_inner = short_payload 2 (spell inner) short in
    let short_kind = short_payload 1 payload short_inner in
    let kind_back = type_read_back (levels - 1) kind known bits short_kind (omega arith) in
    let piece = payload_piece (levels - 1) kinds.SchemaAnswer 1 (Message kinds.DataType) payload is_1 refl kind_back.sound short_kind in
    let sound = stands_sound levels kinds.SchemaAnswer inner (omega arith) piece.stands in
    let outer = payload_piece levels kinds.AnalyzePlanResponse 2 (Message kinds.SchemaAnswer) (spell inner) is_2 refl sound short_inner in
    record {
      stands = outer.stands;
      others = are_others 1 2 (payload_fields 2 (spell inner)) outer.numbered (omega arith);
      same = λ front numbered.
          let whole = front ++ payload_fields 2 (spell inner) in
          let found = latest_one kinds.AnalyzePlanResponse 2 whole (one_behind kinds.AnalyzePlanResponse 2 front (payload_fields 2 (spell inner)) (no_members kinds.AnalyzePlanResponse 1 front (record { payload = refl; varint = refl }) numbered) (sets_one kinds.AnalyzePlanResponse 2 (spell inner) refl)) in
          result_by types whole (record { number = 2; since = whole }) found
          ∙ ap (λ (fields : List Field). said.Schema (types (message_at 1 fields))) (member_read 2 front inner (spell inner) numbered (omega arith) ((spelled_message inner piece.stands.writable).1))
          ∙ ap (λ (fields : List Field). said.Schema (types fields)) (message_at-one 1 inner payload (payloads_one 1 payload))
          ∙ ap (λ k. said.Schema k) kind_back.same;
    }
result_back levels (said.IsStreaming value) known bits short deep =
    let types = type_at (levels - 1) in
    let inner = bool_fields 1 value in
    let piece = bool_piece (levels - 1) kinds.IsStreamingAnswer 1 value is_1 in
    let sound = stands_sound levels kinds.IsStreamingAnswer inner (omega arith) piece.stands in
    let outer = payload_piece levels kinds.AnalyzePlanResponse 6 (Message kinds.IsStreamingAnswer) (spell inner) (is_numbered 6 (omega arith) (omega arith)) refl sound (short_payload 6 (spell inner) short) in
    record {
      stands = outer.stands;
      others = are_others 1 6 (payload_fields 6 (spell inner)) outer.numbered (omega arith);
      same = λ front numbered.
          let whole = front ++ payload_fields 6 (spell inner) in
          let found = latest_one kinds.AnalyzePlanResponse 6 whole (one_behind kinds.AnalyzePlanResponse 6 front (payload_fields 6 (spell inner)) (no_members kinds.AnalyzePlanResponse 1 front (record { payload = refl; varint = refl }) numbered) (sets_one kinds.AnalyzePlanResponse 6 (spell inner) refl)) in
          result_by types whole (record { number = 6; since = whole }) found
          ∙ ap (λ (fields : List Field). said.IsStreaming (bool_field 1 fields)) (member_read 6 front inner (spell inner) numbered (omega arith) ((spelled_message inner piece.stands.writable).1))
          ∙ ap (λ (b : Bool). said.IsStreaming b) (bool_back 1 value);
    }
result_back levels (said.SparkVersion version) known bits short deep =
    let types = type_at (levels - 1) in
    let inner = text_fields 1 version in
    let short_inner = short_payload 8 (spell inner) short in
    let piece = text_piece (levels - 1) kinds.SparkVersionAnswer 1 version is_1 refl bits short_inner in
    let sound = stands_sound levels kinds.SparkVersionAnswer inner (omega arith) piece.stands in
    let outer = payload_piece levels kinds.AnalyzePlanResponse 8 (Message kinds.SparkVersionAnswer) (spell inner) (is_numbered 8 (omega arith) (omega arith)) refl sound short_inner in
    record {
      stands = outer.stands;
      others = are_others 1 8 (payload_fields 8 (spell inner)) outer.numbered (omega arith);
      same = λ front numbered.
          let whole = front ++ payload_fields 8 (spell inner) in
          let found = latest_one kinds.AnalyzePlanResponse 8 whole (one_behind kinds.AnalyzePlanResponse 8 front (payload_fields 8 (spell inner)) (no_members kinds.AnalyzePlanResponse 1 front (record { payload = refl; varint = refl }) numbered) (sets_one kinds.AnalyzePlanResponse 8 (spell inner) refl)) in
          result_by types whole (record { number = 8; since = whole }) found
          ∙ ap (λ (fields : List Field). said.SparkVersion (text_field 1 fields)) (member_read 8 front inner (spell inner) numbered (omega arith) ((spelled_message inner piece.stands.writable).1))
          ∙ ap (λ (t : List ℕ). said.SparkVersion t) (text_back 1 version bits);
    }
result_back levels said.Absent known bits short deep = record {
  stands = nothing_stands levels kinds.AnalyzePlanResponse;
  others = tt;
  same = λ front numbered.
      let none = two_no_members kinds.AnalyzePlanResponse front [] (no_members kinds.AnalyzePlanResponse 1 front (record { payload = refl; varint = refl }) numbered) tt in
      ap (λ (m : Option Member). unwrap_or (option_map (analyze_member (type_at (levels - 1))) m) said.Absent) (latest_none kinds.AnalyzePlanResponse (front ++ []) none);
}

-- ---- responses of a session's id and one field more

same_analyze : {session session2 : List ℕ} {result result2 : AnalyzeResult} → session ≡ session2 → result ≡ result2 →
    ◌≡◌ {A = AnalyzePlanResponse} (record { session_id = session; result = result }) (record { session_id = session2; result = result2 })
same_analyze session_is result_is = rw session_is (rw result_is refl)

pub analyze_back : (level : ℕ) (response : AnalyzePlanResponse) → is_known_result response.result ≡ true → HasAnalyzeResponseBits response → IsShort (analyze_response_fields response) → 1 + result_depth response.result ≤ level →
    IsReadBack level kinds.AnalyzePlanResponse (analyze_response_fields response) (analyze_response_at level) response
unfolding payload_of
analyze_back level response known bits short deep = read_back level kinds.AnalyzePlanResponse (session ++ rest) (analyze_response_at level) response (omega arith) stands same
  where
    session : List Field
    session = text_fields 1 response.session_id

    rest : List Field
    rest = result_fields response.result

    session_piece : Piece (level - 1) kinds.AnalyzePlanResponse 1 session
    session_piece = text_piece (level - 1) kinds.AnalyzePlanResponse 1 response.session_id is_1 refl bits.session_id (short_two session rest short).0

    back : ResultBack (level - 1) response.result
    back = result_back (level - 1) response.result known bits.result (short_two session rest short).1 (omega arith)

    stands : Stands (level - 1) kinds.AnalyzePlanResponse (session ++ rest)
    stands = two_stand (level - 1) kinds.AnalyzePlanResponse session rest session_piece.stands back.stands

    level_is : level - 2 ≡ level - 1 - 1
    level_is = omega arith

    result_read : result_of (type_at (level - 2)) (session ++ rest) ≡ response.result
    result_read = ap (λ (n : ℕ). result_of (type_at n) (session ++ rest)) level_is ∙ back.same session session_piece.numbered

    same : analyze_response_at level (session ++ rest) ≡ response
    same = same_analyze (session_back response.session_id rest bits.session_id back.others) result_read

-- pairs

pub key_values_back : (levels : ℕ) (pairs : List KeyValue) → AllByRecursion HasKeyValueBits pairs → AllByRecursion (λ pair. IsShort (key_value_fields pair)) pairs → 1 ≤ levels →
    AllByRecursion (ItemBack levels kinds.KeyValue key_value_fields key_value_of) pairs
key_values_back levels [] bits short some = tt
key_values_back levels (pair ∷ pairs) bits short some =
    let here : ItemBack levels kinds.KeyValue key_value_fields key_value_of pair = record { back = key_value_read_back levels pair bits.0 short.0 some; short = short.0 } in
    (here, key_values_back levels pairs bits.1 short.1 some)

key_values_back-deep : (levels : ℕ) (pairs : List KeyValue) → AllByRecursion HasKeyValueBits pairs → AllByRecursion (λ pair. IsShort (key_value_fields pair)) pairs → pairs_depth pairs ≤ levels →
    AllByRecursion (ItemBack levels kinds.KeyValue key_value_fields key_value_of) pairs
key_values_back-deep levels [] bits short deep = tt
key_values_back-deep levels (pair ∷ pairs) bits short deep = key_values_back levels (pair ∷ pairs) bits short deep

same_config : {session session2 : List ℕ} {pairs pairs2 : List KeyValue} → session ≡ session2 → pairs ≡ pairs2 →
    ◌≡◌ {A = ConfigResponse} (record { session_id = session; pairs = pairs }) (record { session_id = session2; pairs = pairs2 })
same_config session_is pairs_is = rw session_is (rw pairs_is refl)

pub config_back : (level : ℕ) (response : ConfigResponse) → HasConfigResponseBits response → IsShort (config_response_fields response) → 1 + pairs_depth response.pairs ≤ level →
    IsReadBack level kinds.ConfigResponse (config_response_fields response) config_response_of response
unfolding payload_of
config_back level response bits short deep = read_back level kinds.ConfigResponse (session ++ rest) config_response_of response (omega arith) stands same
  where
    session : List Field
    session = text_fields 1 response.session_id

    rest : List Field
    rest = messages_fields key_value_fields 2 response.pairs

    session_piece : Piece (level - 1) kinds.ConfigResponse 1 session
    session_piece = text_piece (level - 1) kinds.ConfigResponse 1 response.session_id is_1 refl bits.session_id (short_two session rest short).0

    items : AllByRecursion (ItemBack (level - 1) kinds.KeyValue key_value_fields key_value_of) response.pairs
    items = key_values_back-deep (level - 1) response.pairs bits.pairs (short_messages key_value_fields 2 response.pairs (short_two session rest short).1) (omega arith)

    piece : Piece (level - 1) kinds.ConfigResponse 2 rest
    piece = messages_piece (level - 1) kinds.ConfigResponse kinds.KeyValue 2 key_value_fields key_value_of response.pairs is_2 refl items

    stands : Stands (level - 1) kinds.ConfigResponse (session ++ rest)
    stands = two_stand (level - 1) kinds.ConfigResponse session rest session_piece.stands piece.stands

    pairs_read : messages_at key_value_of 2 (session ++ rest) ≡ response.pairs
    pairs_read =
        ap (map (λ payload. key_value_of (fields_of payload)))
        (payloads_behind 2 session rest (are_others 2 1 session session_piece.numbered (omega arith)) ∙ payloads_repeated 2 (map (λ pair. spell (key_value_fields pair)) response.pairs))
        ∙ messages_read (level - 1) kinds.KeyValue key_value_fields key_value_of response.pairs items

    same : config_response_of (session ++ rest) ≡ response
    same = same_config (session_back response.session_id rest bits.session_id (are_others 1 2 rest piece.numbered (omega arith))) pairs_read

-- interrupted operations

same_interrupt : {session session2 : List ℕ} {ids ids2 : List (List ℕ)} → session ≡ session2 → ids ≡ ids2 →
    ◌≡◌ {A = InterruptResponse} (record { session_id = session; interrupted_ids = ids }) (record { session_id = session2; interrupted_ids = ids2 })
same_interrupt session_is ids_is = rw session_is (rw ids_is refl)

pub interrupt_back : (level : ℕ) (response : InterruptResponse) → HasInterruptResponseBits response → IsShort (interrupt_response_fields response) → 1 ≤ level →
    IsReadBack level kinds.InterruptResponse (interrupt_response_fields response) interrupt_response_of response
unfolding payload_of
interrupt_back level response bits short deep = read_back level kinds.InterruptResponse (session ++ rest) interrupt_response_of response (omega arith) stands same
  where
    session : List Field
    session = text_fields 1 response.session_id

    rest : List Field
    rest = repeated_fields 2 response.interrupted_ids

    session_piece : Piece (level - 1) kinds.InterruptResponse 1 session
    session_piece = text_piece (level - 1) kinds.InterruptResponse 1 response.session_id is_1 refl bits.session_id (short_two session rest short).0

    piece : Piece (level - 1) kinds.InterruptResponse 2 rest
    piece = texts_piece (level - 1) kinds.InterruptResponse 2 response.interrupted_ids is_2 refl bits.interrupted_ids (short_repeated 2 response.interrupted_ids (short_two session rest short).1)

    stands : Stands (level - 1) kinds.InterruptResponse (session ++ rest)
    stands = two_stand (level - 1) kinds.InterruptResponse session rest session_piece.stands piece.stands

    ids_read : texts 2 (session ++ rest) ≡ response.interrupted_ids
    ids_read =
        texts_read 2 (session ++ rest) response.interrupted_ids (behind 2 session rest (are_others 2 1 session session_piece.numbered (omega arith))) bits.interrupted_ids

    same : interrupt_response_of (session ++ rest) ≡ response
    same = same_interrupt (session_back response.session_id rest bits.session_id (are_others 1 2 rest piece.numbered (omega arith))) ids_read

-- a released operation

same_release : {session session2 : List ℕ} {operation operation2 : Option (List ℕ)} → session ≡ session2 → operation ≡ operation2 →
    ◌≡◌ {A = ReleaseExecuteResponse} (record { session_id = session; operation_id = operation }) (record { session_id = session2; operation_id = operation2 })
same_release session_is operation_is = rw session_is (rw operation_is refl)

pub release_back : (level : ℕ) (response : ReleaseExecuteResponse) → HasReleaseResponseBits response → IsShort (release_response_fields response) → 1 ≤ level →
    IsReadBack level kinds.ReleaseExecuteResponse (release_response_fields response) release_response_of response
unfolding payload_of
release_back level response bits short deep = read_back level kinds.ReleaseExecuteResponse (session ++ rest) release_response_of response (omega arith) stands same
  where
    session : List Field
    session = text_fields 1 response.session_id

    rest : List Field
    rest = optional_payload_fields 2 response.operation_id

    session_piece : Piece (level - 1) kinds.ReleaseExecuteResponse 1 session
    session_piece = text_piece (level - 1) kinds.ReleaseExecuteResponse 1 response.session_id is_1 refl bits.session_id (short_two session rest short).0

    piece : Piece (level - 1) kinds.ReleaseExecuteResponse 2 rest
    piece = optional_text_piece (level - 1) kinds.ReleaseExecuteResponse 2 response.operation_id is_2 refl bits.operation_id (short_two session rest short).1

    stands : Stands (level - 1) kinds.ReleaseExecuteResponse (session ++ rest)
    stands = two_stand (level - 1) kinds.ReleaseExecuteResponse session rest session_piece.stands piece.stands

    operation_read : optional_text 2 (session ++ rest) ≡ response.operation_id
    operation_read =
        optional_text_read 2 (session ++ rest) response.operation_id (behind 2 session rest (are_others 2 1 session session_piece.numbered (omega arith))) bits.operation_id

    same : release_response_of (session ++ rest) ≡ response
    same = same_release (session_back response.session_id rest bits.session_id (are_others 1 2 rest piece.numbered (omega arith))) operation_read
