-- What is read of sound messages is the same at every level that suffices.
use Rattle.std.proofs.Common.{◌≡◌, ◌≢◌, ℕ, zero, suc, ◌-◌, ◌<◌, ◌≤◌, ◌==◌, ◌⊎◌, inl, inr, Bool, true, false, cond, List, [], ◌∷◌, ◌++◌, map, drop, length, Option, None, Some, refl, sym, ap, ◌∙◌, subst, arith}
use Rattle.std.specs.Prelude.{if◌then◌else◌, flat_map, not, IfSome, option_map, unwrap_or}
use Rattle.std.specs.List.{AllByRecursion, cons_option, suffix_len, after_last}
use Rattle.std.proofs.lemmas.Bool.{eqb-true, eqb-false}
use Rattle.std.proofs.lemmas.List.{append-nil}
use Rattle.proto_fields.specs.declared.kind.MessageKind.{MessageKind}
use Rattle.proto_fields.specs.declared.kind.MessageKind.TheVariants as kinds
use Rattle.proto_fields.specs.declared.kind.PayloadKind.{PayloadKind}
use Rattle.proto_fields.specs.declared.kind.PayloadKind.TheVariants.{Message}
use Rattle.proto_fields.specs.Fields.{Content, Number, Eight, Payload, Four, Field, fields_of}
use Rattle.proto_fields.specs.Kinds.{payload_of}
use Rattle.proto_fields.specs.Readings.{payload_of_content, payload_in, member_in, sets_other, last_some, payloads, joined, Member, latest}
use Rattle.proto_fields.specs.Faults.{IsSoundContent, IsSoundPayload, IsSoundField, IsSound}
use Rattle.proto_fields.proofs.LawLemmas.{fields_from_sound}
use Rattle.proto_fields.proofs.PieceLemmas.{AllByRecursion-append}
use Rattle.expression_messages.specs.Messages.{message_at}

-- ---- sound messages inside sound messages

-- the fields have payloads that are sound with one level less than this
abbrev pub AreSound : ℕ → MessageKind → List Field → Type 0
AreSound level kind fields = AllByRecursion (IsSoundField (IsSound (level - 1)) kind) fields

pub sound_some : (level : ℕ) (kind : MessageKind) (bytes : List ℕ) → IsSound level kind bytes → 0 < level
unfolding IsSound
sound_some zero kind bytes sound = absurd sound
sound_some (suc level) kind bytes sound = omega arith

pub fields_sound : (level : ℕ) (kind : MessageKind) (bytes : List ℕ) → IsSound level kind bytes → AreSound level kind (fields_of bytes)
fields_sound zero kind bytes sound = absurd (omega (arith, sound_some zero kind bytes sound))
fields_sound (suc level) kind bytes sound =
    let left : level ≡ suc level - 1 = omega arith in
    subst (λ (n : ℕ). AllByRecursion (IsSoundField (IsSound n) kind) (fields_of bytes)) left (fields_from_sound level kind bytes sound).1

-- the fields of messages one after another
unfoldable pub fields_in : List (List ℕ) → List Field
fields_in payloads = flat_map fields_of payloads

pub joined_sound : (level : ℕ) (kind : MessageKind) (payloads : List (List ℕ)) → AllByRecursion (IsSound level kind) payloads → AreSound level kind (fields_in payloads)
unfolding fields_in
joined_sound level kind [] sound = tt
joined_sound level kind (payload ∷ payloads) sound =
    AllByRecursion-append (IsSoundField (IsSound (level - 1)) kind) (fields_of payload) (fields_in payloads) (fields_sound level kind payload sound.0) (joined_sound level kind payloads sound.1)

message_by : (payloads : List (List ℕ)) → unwrap_or (joined payloads) [] ≡ fields_in payloads
unfolding fields_in
message_by [] = refl
message_by (payload ∷ payloads) = refl

pub message_at-joined : (number : ℕ) (fields : List Field) → message_at number fields ≡ fields_in (payloads number fields)
message_at-joined number fields = message_by (payloads number fields)

-- the payloads of one number, where these are messages

content_sound : (IsSoundInner : MessageKind → List ℕ → Type 0) (kind : PayloadKind) (inner : MessageKind) (content : Content) → kind ≡ Message inner → IsSoundContent IsSoundInner kind content →
    IfSome (payload_of_content content) (IsSoundInner inner)
content_sound IsSoundInner kind inner (Number value) is sound = tt
content_sound IsSoundInner kind inner (Eight value) is sound = tt
content_sound IsSoundInner kind inner (Payload payload) is sound = subst (λ (k : PayloadKind). IsSoundPayload IsSoundInner k payload) is sound
content_sound IsSoundInner kind inner (Four value) is sound = tt

tested : (P : List ℕ → Type 0) (test : Bool) (found : Option (List ℕ)) → (test ≡ true → IfSome found P) → IfSome (if test then found else None) P
tested P true found holds = holds refl
tested P false found holds = tt

put_first : (P : List ℕ → Type 0) (found : Option (List ℕ)) (payloads : List (List ℕ)) → IfSome found P → AllByRecursion P payloads → AllByRecursion P (cons_option found payloads)
put_first P None payloads first all = all
put_first P (Some payload) payloads first all = (first, all)

pub payloads_sound : (levels : ℕ) (kind inner : MessageKind) (number : ℕ) → payload_of kind number ≡ Message inner → (fields : List Field) →
    AllByRecursion (IsSoundField (IsSound levels) kind) fields → AllByRecursion (IsSound levels inner) (payloads number fields)
unfolding payloads
payloads_sound levels kind inner number is [] sound = tt
payloads_sound levels kind inner number is (field ∷ fields) sound =
    put_first (IsSound levels inner) (payload_in number field) (payloads number fields)
    (tested (IsSound levels inner) (field.number == number) (payload_of_content field.content)
    (λ same. content_sound (IsSound levels) (payload_of kind field.number) inner field.content (ap (payload_of kind) (eqb-true field.number number same) ∙ is) sound.0))
    (payloads_sound levels kind inner number is fields sound.1)

-- the fields of a message inside a message
pub message_sound : (level : ℕ) (kind inner : MessageKind) (number : ℕ) → payload_of kind number ≡ Message inner → (fields : List Field) → AreSound level kind fields →
    AreSound (level - 1) inner (message_at number fields)
message_sound level kind inner number is fields sound =
    subst (AreSound (level - 1) inner) (sym (message_at-joined number fields)) (joined_sound (level - 1) inner (payloads number fields) (payloads_sound (level - 1) kind inner number is fields sound))

-- the fields since another member was set

all_dropped : {A : Type 0} (P : A → Type 0) (n : ℕ) (xs : List A) → AllByRecursion P xs → AllByRecursion P (drop n xs)
all_dropped P zero xs all = all
all_dropped P (suc n) [] all = tt
all_dropped P (suc n) (x ∷ xs) all = all_dropped P n xs all.1

since_by : (kind : MessageKind) (fields : List Field) (P : Field → Type 0) (last : Option ℕ) (member : Member) →
    option_map (λ number. record { number = number; since = after_last (sets_other kind number) fields }) last ≡ Some member → AllByRecursion P fields → AllByRecursion P member.since
since_by kind fields P None member is all = absurd cc
since_by kind fields P (Some number) member is all =
    let found : Member = record { number = number; since = after_last (sets_other kind number) fields } in
    let same : Some found ≡ Some member = is in
    let since : found.since ≡ member.since = ap (λ (o : Option Member). unwrap_or (option_map (λ m. m.since) o) []) same in
    subst (AllByRecursion P) since (all_dropped P (length fields - suffix_len (λ x. not (sets_other kind number x)) fields) fields all)

pub since_sound : (level : ℕ) (kind : MessageKind) (fields : List Field) (member : Member) → latest kind fields ≡ Some member → AreSound level kind fields → AreSound level kind member.since
unfolding latest
since_sound level kind fields member is sound = since_by kind fields (IsSoundField (IsSound (level - 1)) kind) (last_some (member_in kind) fields) member is sound
