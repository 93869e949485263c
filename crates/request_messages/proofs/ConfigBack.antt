-- What requests on settings are spelled as is read as the requests.
use Rattle.std.proofs.Common.{◌≡◌, ℕ, ◌+◌, ◌-◌, ◌<◌, ◌≤◌, true, List, [], ◌∷◌, ◌++◌, map, Option, refl, ap, ◌∙◌, arith}
use Rattle.std.specs.Prelude.{IfSome, IsUtf8, option_map, unwrap_or}
use Rattle.std.specs.List.{AllByRecursion}
use Rattle.std.specs.Str.Lossy.{utf8_lossy}
use Rattle.proto_fields.specs.declared.kind.MessageKind.{MessageKind}
use Rattle.proto_fields.specs.declared.kind.MessageKind.TheVariants as kinds
use Rattle.proto_fields.specs.declared.kind.PayloadKind.TheVariants.{Message}
use Rattle.proto_fields.specs.Fields.{Field, fields_of}
use Rattle.proto_fields.specs.Faults.{IsSound}
use Rattle.proto_fields.specs.Kinds.{is_payload_member, payload_of}
use Rattle.proto_fields.specs.Readings.{optional_text, texts, payloads, joined, Member, latest}
use Rattle.proto_fields.specs.Spelling.{spell, payload_fields, text_fields, optional_payload_fields}
use Rattle.proto_fields.proofs.ReturnLemmas.{optional_text_back}
use Rattle.proto_fields.proofs.SpellLemmas.{spelled_message}
use Rattle.expression_messages.specs.Messages.{message_at, messages_at, repeated_fields, messages_fields}
use Rattle.expression_messages.specs.Laws.{IsShort, IsReadBack}
use Rattle.expression_messages.proofs.Pieces.{Stands, nothing_stands, three_stand, stands_sound, read_back, short_payload, short_repeated, short_messages, IsNumber, is_numbered, Piece, payload_piece, text_piece, optional_text_piece, texts_piece, payloads_one, payloads_repeated, message_at-one, texts_back, ItemBack, messages_piece, messages_read}
use Rattle.response_messages.specs.declared.key_value.KeyValue.{KeyValue}
use Rattle.response_messages.specs.KeyValues.{key_value_of, key_value_fields, HasKeyValueBits}
use Rattle.request_messages.specs.declared.user_context.UserContext.{UserContext}
use Rattle.request_messages.specs.declared.config.ConfigOperation.{ConfigOperation}
use Rattle.request_messages.specs.declared.config.ConfigOperation.TheVariants as operation
use Rattle.request_messages.specs.declared.config.ConfigRequest.{ConfigRequest}
use Rattle.request_messages.specs.Spelled.{context_fields}
use Rattle.request_messages.specs.Configs.{operation_member, operation_in, config_request_of, operation_of_member, operation_fields, config_fields, HasOperationBits, HasConfigBits}
use Rattle.request_messages.specs.Depths.{pairs_operation_depth, operation_depth, config_depth}
use Rattle.field_groups.specs.Groups.{ReadsAs}
use Rattle.field_groups.proofs.Members.{latest_none, latest_behind}
use Rattle.field_groups.proofs.Groups.{ThreeRead, three_read, ThreeShort, three_short}
use Rattle.field_groups.proofs.Scalars.{is_1, is_2, is_3, is_4, is_5, is_6, text_read, no_payloads}
use Rattle.request_messages.proofs.FieldsBack.{context_piece, context_read}
use Rattle.response_messages.proofs.AnswerBack.{key_values_back}

-- ---- what a member holds

-- pairs that are none need no level
items_by_depth : (level : ℕ) (pairs : List KeyValue) → AllByRecursion HasKeyValueBits pairs → AllByRecursion (λ pair. IsShort (key_value_fields pair)) pairs → pairs_operation_depth pairs ≤ 1 + level →
    AllByRecursion (ItemBack (level - 1) kinds.KeyValue key_value_fields key_value_of) pairs
items_by_depth level [] bits short deep = tt
items_by_depth level (pair ∷ pairs) bits short deep = key_values_back (level - 1) (pair ∷ pairs) bits short (omega arith)

depth_some : (pairs : List KeyValue) → 2 ≤ pairs_operation_depth pairs
depth_some [] = omega arith
depth_some (pair ∷ pairs) = omega arith

pairs_back : (level : ℕ) (pairs : List KeyValue) → AllByRecursion HasKeyValueBits pairs → IsShort (messages_fields key_value_fields 1 pairs) → pairs_operation_depth pairs ≤ 1 + level →
    IsReadBack level kinds.ConfigPairs (messages_fields key_value_fields 1 pairs) (messages_at key_value_of 1) pairs
unfolding payload_of
pairs_back level pairs bits short deep =
    let items = items_by_depth level pairs bits (short_messages key_value_fields 1 pairs short) deep in
    let piece = messages_piece (level - 1) kinds.ConfigPairs kinds.KeyValue 1 key_value_fields key_value_of pairs is_1 refl items in
    let some = depth_some pairs in
    read_back level kinds.ConfigPairs (messages_fields key_value_fields 1 pairs) (messages_at key_value_of 1) pairs (omega arith) piece.stands
    (ap (map (λ payload. key_value_of (fields_of payload))) (payloads_repeated 1 (map (λ pair. spell (key_value_fields pair)) pairs))
    ∙ messages_read (level - 1) kinds.KeyValue key_value_fields key_value_of pairs items)

keys_back : (level : ℕ) (keys : List (List ℕ)) → AllByRecursion IsUtf8 keys → IsShort (repeated_fields 1 keys) → 1 ≤ level →
    IsReadBack level kinds.ConfigKeys (repeated_fields 1 keys) (texts 1) keys
unfolding payload_of
keys_back level keys bits short some =
    let piece = texts_piece (level - 1) kinds.ConfigKeys 1 keys is_1 refl bits (short_repeated 1 keys short) in
    read_back level kinds.ConfigKeys (repeated_fields 1 keys) (texts 1) keys (omega arith) piece.stands
    (ap (map utf8_lossy) (payloads_repeated 1 keys) ∙ texts_back keys bits)

prefix_back : (level : ℕ) (prefix : Option (List ℕ)) → IfSome prefix IsUtf8 → IsShort (optional_payload_fields 1 prefix) → 1 ≤ level →
    IsReadBack level kinds.ConfigPrefix (optional_payload_fields 1 prefix) (optional_text 1) prefix
unfolding payload_of
prefix_back level prefix bits short some =
    let piece = optional_text_piece (level - 1) kinds.ConfigPrefix 1 prefix is_1 refl bits short in
    read_back level kinds.ConfigPrefix (optional_payload_fields 1 prefix) (optional_text 1) prefix (omega arith) piece.stands (optional_text_back 1 prefix bits)

-- ---- an operation

-- an operation that stands as field 3, and is read where it is
pub record OperationBack (levels : ℕ) (it : ConfigOperation) : Type 0 where
  pub piece : Piece levels kinds.ConfigRequest 3 (operation_fields it)
  pub same : (whole : List Field) → ReadsAs 3 whole (operation_fields it) → operation_in whole ≡ it

operation_by : Option Member → ConfigOperation
operation_by member = unwrap_or (option_map operation_member member) operation.Absent

-- what is asked of the member of an operation
record IsMember (levels number : ℕ) (kind : MessageKind) (member : List Field) : Type 0 where
  is_number : IsNumber number
  is_message : payload_of kinds.ConfigOperation number ≡ Message kind
  is_member : is_payload_member kinds.ConfigOperation number ≡ true
  sound : IsSound (levels - 1) kind (spell member)
  some : 0 < levels
  short : IsShort (operation_of_member number member)

member_short : (number : ℕ) (member : List Field) → IsShort (operation_of_member number member) → IsShort member
member_short number member short = short_payload number (spell member) (short_payload 3 (spell (payload_fields number (spell member))) short)

member_piece : (levels number : ℕ) (kind : MessageKind) (member : List Field) → IsMember levels number kind member → Piece (levels - 1) kinds.ConfigOperation number (payload_fields number (spell member))
member_piece levels number kind member is =
    payload_piece (levels - 1) kinds.ConfigOperation number (Message kind) (spell member) is.is_number is.is_message is.sound (member_short number member is.short)

operation_piece : (levels number : ℕ) (kind : MessageKind) (member : List Field) → IsMember levels number kind member → Piece levels kinds.ConfigRequest 3 (operation_of_member number member)
unfolding payload_of
operation_piece levels number kind member is =
    let field = payload_fields number (spell member) in
    payload_piece levels kinds.ConfigRequest 3 (Message kinds.ConfigOperation) (spell field) is_3 refl
    (stands_sound levels kinds.ConfigOperation field is.some (member_piece levels number kind member is).stands) (short_payload 3 (spell field) is.short)

-- the member is read of its message
operation_found : (levels number : ℕ) (kind : MessageKind) (member : List Field) → IsMember levels number kind member → (whole : List Field) → ReadsAs 3 whole (operation_of_member number member) →
    operation_in whole ≡ operation_member (record { number = number; since = payload_fields number (spell member) })
unfolding operation_by
operation_found levels number kind member is whole reads =
    let field = payload_fields number (spell member) in
    let found : message_at 3 whole ≡ field =
    message_at-one 3 whole (spell field) (reads.payloads_are ∙ payloads_one 3 (spell field)) ∙ (spelled_message field (member_piece levels number kind member is).stands.writable).1 in
    ap (λ (fields : List Field). operation_by (latest kinds.ConfigOperation fields)) found
    ∙ ap operation_by (latest_behind kinds.ConfigOperation number [] (spell member) tt is.is_member)

member_found : (number : ℕ) (member : List Field) → message_at number (payload_fields number (spell member)) ≡ fields_of (spell member)
member_found number member = message_at-one number (payload_fields number (spell member)) (spell member) (payloads_one number (spell member))

absent_read : (whole : List Field) → payloads 3 whole ≡ [] → operation_in whole ≡ operation.Absent
unfolding operation_by
absent_read whole none =
    let nothing : message_at 3 whole ≡ [] = ap (λ (ps : List (List ℕ)). unwrap_or (joined ps) []) none in
    ap (λ (fields : List Field). operation_by (latest kinds.ConfigOperation fields)) nothing ∙ ap operation_by (latest_none kinds.ConfigOperation [] tt)

pub operation_back : (levels : ℕ) (it : ConfigOperation) → HasOperationBits it → IsShort (operation_fields it) → operation_depth it ≤ levels → OperationBack levels it
unfolding payload_of
operation_back levels (operation.Set pairs) bits short deep =
    let back = pairs_back (levels - 1) pairs bits (member_short 1 (messages_fields key_value_fields 1 pairs) short) (omega (arith, depth_some pairs)) in
    let is : IsMember levels 1 kinds.ConfigPairs (messages_fields key_value_fields 1 pairs) =
    record { is_number = is_1; is_message = refl; is_member = refl; sound = back.sound; some = omega (arith, depth_some pairs); short = short } in
    record {
      piece = operation_piece levels 1 kinds.ConfigPairs (messages_fields key_value_fields 1 pairs) is;
      same = λ whole reads.
          operation_found levels 1 kinds.ConfigPairs (messages_fields key_value_fields 1 pairs) is whole reads
          ∙ ap (λ (fields : List Field). operation.Set (messages_at key_value_of 1 fields)) (member_found 1 (messages_fields key_value_fields 1 pairs))
          ∙ ap (λ (found : List KeyValue). operation.Set found) back.same;
    }
operation_back levels (operation.GetWithDefault pairs) bits short deep =
    let back = pairs_back (levels - 1) pairs bits (member_short 3 (messages_fields key_value_fields 1 pairs) short) (omega (arith, depth_some pairs)) in
    let is : IsMember levels 3 kinds.ConfigPairs (messages_fields key_value_fields 1 pairs) =
    record { is_number = is_3; is_message = refl; is_member = refl; sound = back.sound; some = omega (arith, depth_some pairs); short = short } in
    record {
      piece = operation_piece levels 3 kinds.ConfigPairs (messages_fields key_value_fields 1 pairs) is;
      same = λ whole reads.
          operation_found levels 3 kinds.ConfigPairs (messages_fields key_value_fields 1 pairs) is whole reads
          ∙ ap (λ (fields : List Field). operation.GetWithDefault (messages_at key_value_of 1 fields)) (member_found 3 (messages_fields key_value_fields 1 pairs))
          ∙ ap (λ (found : List KeyValue). operation.GetWithDefault found) back.same;
    }
operation_back levels (operation.Get keys) bits short deep =
    let back = keys_back (levels - 1) keys bits (member_short 2 (repeated_fields 1 keys) short) (omega arith) in
    let is : IsMember levels 2 kinds.ConfigKeys (repeated_fields 1 keys) =
    record { is_number = is_2; is_message = refl; is_member = refl; sound = back.sound; some = omega arith; short = short } in
    record {
      piece = operation_piece levels 2 kinds.ConfigKeys (repeated_fields 1 keys) is;
      same = λ whole reads.
          operation_found levels 2 kinds.ConfigKeys (repeated_fields 1 keys) is whole reads
          ∙ ap (λ (fields : List Field). operation.Get (texts 1 fields)) (member_found 2 (repeated_fields 1 keys))
          ∙ ap (λ (found : List (List ℕ)). operation.Get found) back.same;
    }
operation_back levels (operation.GetOption keys) bits short deep =
    let back = keys_back (levels - 1) keys bits (member_short 4 (repeated_fields 1 keys) short) (omega arith) in
    let is : IsMember levels 4 kinds.ConfigKeys (repeated_fields 1 keys) =
    record { is_number = is_4; is_message = refl; is_member = refl; sound = back.sound; some = omega arith; short = short } in
    record {
      piece = operation_piece levels 4 kinds.ConfigKeys (repeated_fields 1 keys) is;
      same = λ whole reads.
          operation_found levels 4 kinds.ConfigKeys (repeated_fields 1 keys) is whole reads
          ∙ ap (λ (fields : List Field). operation.GetOption (texts 1 fields)) (member_found 4 (repeated_fields 1 keys))
          ∙ ap (λ (found : List (List ℕ)). operation.GetOption found) back.same;
    }
operation_back levels (operation.Unset keys) bits short deep =
    let back = keys_back (levels - 1) keys bits (member_short 6 (repeated_fields 1 keys) short) (omega arith) in
    let is : IsMember levels 6 kinds.ConfigKeys (repeated_fields 1 keys) =
    record { is_number = is_6; is_message = refl; is_member = refl; sound = back.sound; some = omega arith; short = short } in
    record {
      piece = operation_piece levels 6 kinds.ConfigKeys (repeated_fields 1 keys) is;
      same = λ whole reads.
          operation_found levels 6 kinds.ConfigKeys (repeated_fields 1 keys) is whole reads
          ∙ ap (λ (fields : List Field). operation.Unset (texts 1 fields)) (member_found 6 (repeated_fields 1 keys))
          ∙ ap (λ (found : List (List ℕ)). operation.Unset found) back.same;
    }
operation_back levels (operation.IsModifiable keys) bits short deep =
    let back = keys_back (levels - 1) keys bits (member_short 7 (repeated_fields 1 keys) short) (omega arith) in
    let is : IsMember levels 7 kinds.ConfigKeys (repeated_fields 1 keys) =
    record { is_number = is_numbered 7 (omega arith) (omega arith); is_message = refl; is_member = refl; sound = back.sound; some = omega arith; short = short } in
    record {
      piece = operation_piece levels 7 kinds.ConfigKeys (repeated_fields 1 keys) is;
      same = λ whole reads.
          operation_found levels 7 kinds.ConfigKeys (repeated_fields 1 keys) is whole reads
          ∙ ap (λ (fields : List Field). operation.IsModifiable (texts 1 fields)) (member_found 7 (repeated_fields 1 keys))
          ∙ ap (λ (found : List (List ℕ)). operation.IsModifiable found) back.same;
    }
operation_back levels (operation.GetAll prefix) bits short deep =
    let back = prefix_back (levels - 1) prefix bits (member_short 5 (optional_payload_fields 1 prefix) short) (omega arith) in
    let is : IsMember levels 5 kinds.ConfigPrefix (optional_payload_fields 1 prefix) =
    record { is_number = is_5; is_message = refl; is_member = refl; sound = back.sound; some = omega arith; short = short } in
    record {
      piece = operation_piece levels 5 kinds.ConfigPrefix (optional_payload_fields 1 prefix) is;
      same = λ whole reads.
          operation_found levels 5 kinds.ConfigPrefix (optional_payload_fields 1 prefix) is whole reads
          ∙ ap (λ (fields : List Field). operation.GetAll (optional_text 1 fields)) (member_found 5 (optional_payload_fields 1 prefix))
          ∙ ap (λ (found : Option (List ℕ)). operation.GetAll found) back.same;
    }
operation_back levels operation.Absent bits short deep = record {
  piece = record { stands = nothing_stands levels kinds.ConfigRequest; numbered = tt };
  same = λ whole reads. absent_read whole (reads.payloads_are ∙ no_payloads 3);
}

-- ---- a request

same_config : {session session2 : List ℕ} {context context2 : Option UserContext} {it it2 : ConfigOperation} → session ≡ session2 → context ≡ context2 → it ≡ it2 →
    ◌≡◌ {A = ConfigRequest} (record { session_id = session; user_context = context; operation = it }) (record { session_id = session2; user_context = context2; operation = it2 })
same_config session_is context_is it_is = rw session_is (rw context_is (rw it_is refl))

pub config_back : (level : ℕ) (request : ConfigRequest) → HasConfigBits request → IsShort (config_fields request) → config_depth request ≤ level →
    IsReadBack level kinds.ConfigRequest (config_fields request) config_request_of request
unfolding payload_of
config_back level request bits short deep = read_back level kinds.ConfigRequest whole config_request_of request (omega arith) stands same
  where
    session : List Field
    session = text_fields 1 request.session_id

    context : List Field
    context = context_fields request.user_context

    it : List Field
    it = operation_fields request.operation

    whole : List Field
    whole = session ++ context ++ it

    shorts : ThreeShort session context it
    shorts = three_short session context it short

    session_piece : Piece (level - 1) kinds.ConfigRequest 1 session
    session_piece = text_piece (level - 1) kinds.ConfigRequest 1 request.session_id is_1 refl bits.session_id shorts.first

    a_piece : Piece (level - 1) kinds.ConfigRequest 2 context
    a_piece = context_piece (level - 1) kinds.ConfigRequest request.user_context refl bits.user_context shorts.second (omega arith)

    back : OperationBack (level - 1) request.operation
    back = operation_back (level - 1) request.operation bits.operation shorts.third (omega arith)

    stands : Stands (level - 1) kinds.ConfigRequest whole
    stands = three_stand (level - 1) kinds.ConfigRequest session context it session_piece.stands a_piece.stands back.piece.stands

    reads : ThreeRead 1 2 3 session context it
    reads = three_read 1 2 3 session context it session_piece.numbered a_piece.numbered back.piece.numbered (omega arith) (omega arith)

    same : config_request_of whole ≡ request
    same = same_config
        (text_read 1 whole request.session_id reads.first bits.session_id)
        (context_read whole request.user_context reads.second bits.user_context shorts.second)
        (back.same whole reads.third)
