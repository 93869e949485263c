-- What is written before what stands.
use Rattle.std.proofs.Common.{◌≡◌, ℕ, ◌+◌, ◌-◌, ◌<◌, ◌≤◌, List, [], ◌∷◌, ◌++◌, map, take, get_or, length, refl, sym, ap, ◌∙◌, append_assoc, length-append, arith}
use Rattle.std.proofs.lemmas.Grind.{flat_map-append}
use Rattle.std.proofs.lemmas.List.{append-nil, map-append, take_more}
use Rattle.proto_wire.specs.Records.{span_head}
use Rattle.proto_fields.specs.Fields.{Field}
use Rattle.proto_fields.specs.Spelling.{spell, payload_fields}
use Rattle.proto_fields.proofs.SpellPieces.{spell-append, spell-payload}
use Rattle.expression_messages.specs.Messages.{repeated_fields, messages_fields}

-- the head of a message before the message
pub headed : (number : ℕ) (message after out : List ℕ) (end : ℕ) → out ≡ message ++ after → length after ≡ end →
    span_head number (length out - end) ++ out ≡ spell (payload_fields number message) ++ after
headed number message after out end stands ends =
    let left : length out - end ≡ length message = omega (arith, ap (length {A = ℕ}) stands, length-append message after) in
    ap (λ (n : ℕ). span_head number n ++ out) left
    ∙ ap (λ (bytes : List ℕ). span_head number (length message) ++ bytes) stands
    ∙ sym (append_assoc (span_head number (length message)) message after)
    ∙ ap (λ (bytes : List ℕ). bytes ++ after) (sym (spell-payload number message))

-- no fields, and fields one after another

pub spell_nil : spell [] ≡ []
unfolding spell
spell_nil = refl

pub spell_two : (a b : List Field) (out : List ℕ) → spell (a ++ b) ++ out ≡ spell a ++ (spell b ++ out)
spell_two a b out = ap (λ (bytes : List ℕ). bytes ++ out) (spell-append a b) ∙ append_assoc (spell a) (spell b) out

-- what is written piece by piece, the last piece first

pub stand_two : (a b : List Field) (out one two : List ℕ) → one ≡ spell b ++ out → two ≡ spell a ++ one → two ≡ spell (a ++ b) ++ out
stand_two a b out one two one_is two_is = two_is ∙ ap (λ (bytes : List ℕ). spell a ++ bytes) one_is ∙ sym (spell_two a b out)

pub stand_three : (a b c : List Field) (out one two three : List ℕ) → one ≡ spell c ++ out → two ≡ spell b ++ one → three ≡ spell a ++ two → three ≡ spell (a ++ b ++ c) ++ out
stand_three a b c out one two three one_is two_is three_is =
    stand_two (a ++ b) c out one three one_is (stand_two a b one two three two_is three_is)

-- ---- repeated fields, from the last item to the first

pub repeated_fields-push : (number : ℕ) (payloads : List (List ℕ)) (payload : List ℕ) → repeated_fields number (payloads ++ payload ∷ []) ≡ repeated_fields number payloads ++ payload_fields number payload
repeated_fields-push number payloads payload = flat_map-append (payload_fields number) payloads (payload ∷ [])

-- one payload before those that stand
pub repeated_more : (number : ℕ) (payloads : List (List ℕ)) (left : ℕ) (payload out : List ℕ) → 0 < left → left ≤ length payloads → payload ≡ get_or payloads (left - 1) payload →
    spell (repeated_fields number (take (left - 1) payloads)) ++ (spell (payload_fields number payload) ++ out) ≡ spell (repeated_fields number (take left payloads)) ++ out
repeated_more number payloads left payload out some within item =
    let next : left - 1 + 1 ≡ left = omega arith in
    let more : take left payloads ≡ take (left - 1) payloads ++ payload ∷ [] =
    ap (λ (n : ℕ). take n payloads) (sym next) ∙ take_more payloads (left - 1) payload (omega arith) ∙ ap (λ (p : List ℕ). take (left - 1) payloads ++ p ∷ []) (sym item) in
    sym (spell_two (repeated_fields number (take (left - 1) payloads)) (payload_fields number payload) out)
    ∙ ap (λ (fields : List Field). spell fields ++ out) (sym (ap (repeated_fields number) more ∙ repeated_fields-push number (take (left - 1) payloads) payload))

-- one message before those that stand
pub messages_more : {A : Type 0} (fields : A → List Field) (number : ℕ) (messages : List A) (left : ℕ) (message : A) (out : List ℕ) → 0 < left → left ≤ length messages → message ≡ get_or messages (left - 1) message →
    spell (messages_fields fields number (take (left - 1) messages)) ++ (spell (payload_fields number (spell (fields message))) ++ out) ≡ spell (messages_fields fields number (take left messages)) ++ out
messages_more {A} fields number messages left message out some within item =
    let one : A → List ℕ = λ (m : A). spell (fields m) in
    let next : left - 1 + 1 ≡ left = omega arith in
    let more : take left messages ≡ take (left - 1) messages ++ message ∷ [] =
    ap (λ (n : ℕ). take n messages) (sym next) ∙ take_more messages (left - 1) message (omega arith) ∙ ap (λ (m : A). take (left - 1) messages ++ m ∷ []) (sym item) in
    sym (spell_two (messages_fields fields number (take (left - 1) messages)) (payload_fields number (one message)) out)
    ∙ ap (λ (fs : List Field). spell fs ++ out)
    (sym (ap (messages_fields fields number) more ∙ ap (repeated_fields number) (map-append one (take (left - 1) messages) (message ∷ []))
    ∙ repeated_fields-push number (map one (take (left - 1) messages)) (one message)))

-- none is left
pub messages_none : {A : Type 0} (fields : A → List Field) (number : ℕ) (messages : List A) (left : ℕ) (out : List ℕ) → left ≤ 0 → spell (messages_fields fields number (take left messages)) ++ out ≡ out
unfolding spell
messages_none {A} fields number messages left out none =
    let zero : left ≡ 0 = omega arith in ap (λ (n : ℕ). spell (messages_fields fields number (take n messages)) ++ out) zero

pub repeated_none : (number : ℕ) (payloads : List (List ℕ)) (left : ℕ) (out : List ℕ) → left ≤ 0 → spell (repeated_fields number (take left payloads)) ++ out ≡ out
unfolding spell
repeated_none number payloads left out none =
    let zero : left ≡ 0 = omega arith in ap (λ (n : ℕ). spell (repeated_fields number (take n payloads)) ++ out) zero
