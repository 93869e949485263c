-- What a request's user and its options are spelled as is read as they are, among fields of other numbers.
use Rattle.std.proofs.Common.{◌≡◌, ℕ, ◌-◌, ◌^◌, ◌<◌, ◌≤◌, Bool, true, false, List, [], ◌∷◌, length, Option, None, Some, refl, ap, ◌∙◌, arith}
use Rattle.std.specs.Prelude.{option_map, unwrap_or}
use Rattle.std.proofs.lemmas.List.{append-nil}
use Rattle.proto_wire.specs.Varint.{groups_of, varint}
use Rattle.proto_fields.specs.declared.kind.MessageKind.{MessageKind}
use Rattle.proto_fields.specs.declared.kind.MessageKind.TheVariants as kinds
use Rattle.proto_fields.specs.declared.kind.PayloadKind.TheVariants.{Message}
use Rattle.proto_fields.specs.Fields.{Field, fields_of}
use Rattle.proto_fields.specs.Kinds.{payload_of}
use Rattle.proto_fields.specs.Readings.{last_some, bool_field, payloads, joined, merged}
use Rattle.proto_fields.specs.Spelling.{spell, bool_fields}
use Rattle.proto_fields.proofs.ReturnLemmas.{text_back, bool_back, message_back}
use Rattle.proto_fields.proofs.SpellLemmas.{spelled_message}
use Rattle.expression_messages.specs.Laws.{IsShort, IsReadBack}
use Rattle.expression_messages.proofs.Pieces.{nothing_stands, stands_sound, read_back, short_payload, Piece, payload_piece, text_piece, bool_piece, payloads_one}
use Rattle.request_messages.specs.declared.user_context.UserContext.{UserContext}
use Rattle.request_messages.specs.Requests.{user_context_of, context_of, option_flag, reattachable_of}
use Rattle.request_messages.specs.Spelled.{user_context_fields, context_fields, option_fields, reattachable_fields}
use Rattle.request_messages.specs.Depths.{context_depth, reattachable_depth}
use Rattle.request_messages.specs.Bits.{HasUserContextBits, HasContextBits}
use Rattle.field_groups.specs.Groups.{ReadsAs}
use Rattle.field_groups.proofs.Among.{alone}
use Rattle.field_groups.proofs.Scalars.{is_1, is_2, is_5, no_payloads}

-- ---- the user of a request

same_context : {id id2 : List ℕ} → id ≡ id2 → ◌≡◌ {A = UserContext} (record { user_id = id }) (record { user_id = id2 })
same_context id_is = rw id_is refl

pub user_context_back : (level : ℕ) (context : UserContext) → HasUserContextBits context → IsShort (user_context_fields context) → 1 ≤ level →
    IsReadBack level kinds.UserContext (user_context_fields context) user_context_of context
unfolding payload_of
user_context_back level context utf8 short some =
    let piece = text_piece (level - 1) kinds.UserContext 1 context.user_id is_1 refl utf8 short in
    read_back level kinds.UserContext (user_context_fields context) user_context_of context (omega arith) piece.stands (same_context (text_back 1 context.user_id utf8))

pub context_piece : (levels : ℕ) (kind : MessageKind) (context : Option UserContext) → payload_of kind 2 ≡ Message kinds.UserContext → HasContextBits context → IsShort (context_fields context) →
    context_depth context ≤ levels → Piece levels kind 2 (context_fields context)
context_piece levels kind None is bits short deep = record { stands = nothing_stands levels kind; numbered = tt }
context_piece levels kind (Some context) is bits short deep =
    let payload = spell (user_context_fields context) in
    let few = short_payload 2 payload short in
    payload_piece levels kind 2 (Message kinds.UserContext) payload is_2 is (user_context_back levels context bits few deep).sound few

context_by : (payloads : List (List ℕ)) → Option UserContext
context_by payloads = option_map user_context_of (joined payloads)

pub context_read : (whole : List Field) (context : Option UserContext) → ReadsAs 2 whole (context_fields context) → HasContextBits context → IsShort (context_fields context) → context_of whole ≡ context
unfolding context_by
context_read whole None reads bits short = ap context_by (reads.payloads_are ∙ no_payloads 2)
context_read whole (Some context) reads bits short =
    let payload = spell (user_context_fields context) in
    let back = user_context_back 1 context bits (short_payload 2 payload short) (omega arith) in
    ap context_by (reads.payloads_are ∙ payloads_one 2 payload)
    ∙ ap (λ (fields : List Field). Some (user_context_of fields)) (append-nil (fields_of payload))
    ∙ ap (λ (found : UserContext). Some found) back.same

-- ---- the options of a request

flag_spelled : spell (bool_fields 1 true) ≡ 8 ∷ 1 ∷ []
unfolding spell varint groups_of
flag_spelled = refl

flag_short : length (spell (bool_fields 1 true)) < 2 ^ 64
flag_short = let known = ap (length {A = ℕ}) flag_spelled in omega arith

option_piece : (levels : ℕ) → 0 < levels → Piece levels kinds.RequestOption 1 option_fields
unfolding payload_of
option_piece levels some =
    payload_piece levels kinds.RequestOption 1 (Message kinds.ReattachOptions) (spell (bool_fields 1 true)) is_1 refl
    (stands_sound levels kinds.ReattachOptions (bool_fields 1 true) some (bool_piece (levels - 1) kinds.ReattachOptions 1 true is_1).stands) flag_short

pub reattachable_piece : (levels : ℕ) (kind : MessageKind) (flag : Bool) → payload_of kind 5 ≡ Message kinds.RequestOption → IsShort (reattachable_fields flag) → reattachable_depth flag ≤ levels →
    Piece levels kind 5 (reattachable_fields flag)
reattachable_piece levels kind false is short deep = record { stands = nothing_stands levels kind; numbered = tt }
reattachable_piece levels kind true is short deep =
    payload_piece levels kind 5 (Message kinds.RequestOption) (spell option_fields) is_5 is
    (stands_sound levels kinds.RequestOption option_fields (omega arith) (option_piece (levels - 1) (omega arith)).stands) (short_payload 5 (spell option_fields) short)

flag_by : (payloads : List (List ℕ)) → Bool
flag_by payloads = unwrap_or (last_some option_flag payloads) false

one_flag : (payload : List ℕ) (flag : Bool) → option_flag payload ≡ Some flag → flag_by (payload ∷ []) ≡ flag
unfolding flag_by last_some
one_flag payload flag is = ap (λ (found : Option Bool). unwrap_or found false) is

no_flag : flag_by [] ≡ false
unfolding flag_by last_some
no_flag = refl

option_read : option_flag (spell option_fields) ≡ Some true
option_read =
    let writable = (option_piece 1 (omega arith)).stands.writable in
    let inner = (bool_piece 0 kinds.ReattachOptions 1 true is_1).stands.writable in
    ap (λ (fields : List Field). option_map (bool_field 1) (merged 1 fields)) ((spelled_message option_fields writable).1)
    ∙ ap (option_map (bool_field 1)) (message_back 1 (bool_fields 1 true) inner)
    ∙ ap (λ (b : Bool). Some b) (bool_back 1 true)

pub reattachable_read : (whole : List Field) (flag : Bool) → ReadsAs 5 whole (reattachable_fields flag) → reattachable_of whole ≡ flag
unfolding flag_by
reattachable_read whole false reads = ap flag_by (reads.payloads_are ∙ no_payloads 5) ∙ no_flag
reattachable_read whole true reads =
    ap flag_by (reads.payloads_are ∙ payloads_one 5 (spell option_fields)) ∙ one_flag (spell option_fields) true option_read

pub reattachable_back : (flag : Bool) → reattachable_of (reattachable_fields flag) ≡ flag
reattachable_back flag = reattachable_read (reattachable_fields flag) flag (alone 5 (reattachable_fields flag))
