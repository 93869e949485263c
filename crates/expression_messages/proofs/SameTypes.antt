-- What is read of the type in sound messages is the same at every level that suffices.
use Rattle.std.proofs.Common.{◌≡◌, ◌≢◌, ℕ, zero, suc, ◌-◌, ◌<◌, ◌≤◌, ◌==◌, ◌⊎◌, inl, inr, Bool, true, false, List, [], ◌∷◌, ◌++◌, map, Option, None, Some, refl, sym, ap, ◌∙◌, subst, arith}
use Rattle.std.specs.Prelude.{flat_map}
use Rattle.std.specs.List.{AllByRecursion}
use Rattle.std.proofs.lemmas.Bool.Decides.{eqb_tells}
use Rattle.std.proofs.lemmas.List.{append-nil}
use Rattle.proto_fields.specs.declared.kind.MessageKind.TheVariants as kinds
use Rattle.proto_fields.specs.Fields.{Field, fields_of}
use Rattle.proto_fields.specs.Kinds.{payload_of}
use Rattle.proto_fields.specs.Faults.{IsSound}
use Rattle.proto_fields.specs.Readings.{last_some, payloads, text_field, bool_field, Member, latest}
use Rattle.expression_messages.specs.declared.data_type.StructField.{StructField}
use Rattle.expression_messages.specs.declared.data_type.TypeMessage.{TypeMessage}
use Rattle.expression_messages.specs.declared.data_type.TypeMessage.TheVariants.{Struct, Other}
use Rattle.expression_messages.specs.Messages.{message_at}
use Rattle.expression_messages.specs.Types.{struct_field_of, struct_fields_of, data_type_of, type_at}
use Rattle.expression_messages.proofs.Levels.{type_at-None, type_at-plain, type_at-struct, type_at-level, type_at-zero}
use Rattle.expression_messages.proofs.Agreement.{AreSound, sound_some, fields_sound, fields_in, joined_sound, message_at-joined, payloads_sound, message_sound, since_sound}

-- no type is Other 0 at every level
latest-nothing : latest kinds.DataType [] ≡ None
unfolding latest last_some
latest-nothing = refl

type_at-nothing : (level : ℕ) → type_at level [] ≡ Other 0
type_at-nothing zero = type_at-zero zero [] refl
type_at-nothing (suc level) = type_at-None (suc level) [] (omega arith) latest-nothing

-- what two levels agree on: all messages of types, one after another, that are sound with the lower
abbrev Agree : ℕ → ℕ → Type 0
Agree level more = (messages : List (List ℕ)) → AllByRecursion (IsSound level kinds.DataType) messages → type_at more (fields_in messages) ≡ type_at level (fields_in messages)

-- the field of a struct with this type
with_type : List Field → TypeMessage → StructField TypeMessage
with_type fields kind = record { name = text_field 1 fields; data_type = kind; nullable = bool_field 3 fields }

-- the type of a struct's field
field_same : (level more : ℕ) → Agree (level - 1) (more - 1) → (payload : List ℕ) → IsSound level kinds.StructField payload →
    struct_field_of (type_at (more - 1)) (fields_of payload) ≡ struct_field_of (type_at (level - 1)) (fields_of payload)
unfolding payload_of with_type
field_same level more agree payload sound =
    let fields = fields_of payload in
    let inner = agree (payloads 2 fields) (payloads_sound (level - 1) kinds.StructField kinds.DataType 2 refl fields (fields_sound level kinds.StructField payload sound)) in
    let joined = message_at-joined 2 fields in
    ap (with_type fields) (ap (type_at (more - 1)) joined ∙ inner ∙ ap (type_at (level - 1)) (sym joined))

fields_same : (level more : ℕ) → Agree (level - 1) (more - 1) → (payloads : List (List ℕ)) → AllByRecursion (IsSound level kinds.StructField) payloads →
    map (λ payload. struct_field_of (type_at (more - 1)) (fields_of payload)) payloads ≡ map (λ payload. struct_field_of (type_at (level - 1)) (fields_of payload)) payloads
fields_same level more agree [] sound = refl
fields_same level more agree (payload ∷ payloads) sound =
    rw (field_same level more agree payload sound.0)
    (ap (λ (fields : List (StructField TypeMessage)). struct_field_of (type_at (level - 1)) (fields_of payload) ∷ fields) (fields_same level more agree payloads sound.1))

-- the fields of a struct, where the type's fields are sound
struct_same : (level more : ℕ) → Agree (level - 1 - 1 - 1) (more - 1 - 1 - 1) → (fields : List Field) → AreSound level kinds.DataType fields →
    struct_fields_of (type_at (more - 1 - 1 - 1)) (message_at 21 fields) ≡ struct_fields_of (type_at (level - 1 - 1 - 1)) (message_at 21 fields)
unfolding payload_of
struct_same level more agree fields sound =
    let inner = message_sound level kinds.DataType kinds.StructType 21 refl fields sound in
    fields_same (level - 1 - 1) (more - 1 - 1) agree (payloads 1 (message_at 21 fields)) (payloads_sound (level - 1 - 1) kinds.StructType kinds.StructField 1 refl (message_at 21 fields) inner)

-- a type by its latest member
by_member : (level more : ℕ) → 0 < level → level ≤ more → Agree (level - 1 - 1 - 1) (more - 1 - 1 - 1) → (fields : List Field) → AreSound level kinds.DataType fields →
    (found : Option Member) → latest kinds.DataType fields ≡ found → type_at more fields ≡ type_at level fields
by_member level more some few agree fields sound None is = type_at-None more fields (omega arith) is ∙ sym (type_at-None level fields some is)
by_member level more some few agree fields sound (Some member) is = by_test (eqb_tells member.number 21)
  where
    more_left : more - 3 ≡ more - 1 - 1 - 1
    more_left = omega arith

    level_left : level - 3 ≡ level - 1 - 1 - 1
    level_left = omega arith

    same : Struct (struct_fields_of (type_at (more - 3)) (message_at 21 member.since)) ≡ Struct (struct_fields_of (type_at (level - 3)) (message_at 21 member.since))
    same =
        ap (λ (n : ℕ). Struct (struct_fields_of (type_at n) (message_at 21 member.since))) more_left
        ∙ ap (λ (fs : List (StructField TypeMessage)). Struct fs) (struct_same level more agree member.since (since_sound level kinds.DataType fields member is sound))
        ∙ ap (λ (n : ℕ). Struct (struct_fields_of (type_at n) (message_at 21 member.since))) (sym level_left)

    by_test : ((member.number == 21 ≡ true) × (member.number ≡ 21)) ⊎ ((member.number == 21 ≡ false) × (member.number ≢ 21)) → type_at more fields ≡ type_at level fields
    by_test (inl struct) = type_at-struct more fields member (omega arith) is struct.1 ∙ same ∙ sym (type_at-struct level fields member some is struct.1)
    by_test (inr other) = type_at-plain more fields member (omega arith) is other.1 ∙ sym (type_at-plain level fields member some is other.1)

-- with so many levels left in the proof
agree_to : (fuel level more : ℕ) → level ≤ fuel → level ≤ more → Agree level more
unfolding fields_in
agree_to fuel level more few upper [] sound = type_at-nothing more ∙ sym (type_at-nothing level)
agree_to zero level more few upper (message ∷ messages) sound = absurd (omega (arith, sound_some level kinds.DataType message sound.0))
agree_to (suc fuel) level more few upper (message ∷ messages) sound =
    let some = sound_some level kinds.DataType message sound.0 in
    let inner : Agree (level - 1 - 1 - 1) (more - 1 - 1 - 1) = agree_to fuel (level - 1 - 1 - 1) (more - 1 - 1 - 1) (omega arith) (omega arith) in
    by_member level more some upper inner (fields_in (message ∷ messages)) (joined_sound level kinds.DataType (message ∷ messages) sound) (latest kinds.DataType (fields_in (message ∷ messages))) refl

pub types_agree : (level more : ℕ) → level ≤ more → (messages : List (List ℕ)) → AllByRecursion (IsSound level kinds.DataType) messages → type_at more (fields_in messages) ≡ type_at level (fields_in messages)
types_agree level more upper = agree_to level level more (omega arith) upper

-- of one message
pub type_agrees : (level more : ℕ) (bytes : List ℕ) → level ≤ more → IsSound level kinds.DataType bytes → type_at more (fields_of bytes) ≡ type_at level (fields_of bytes)
unfolding fields_in
type_agrees level more bytes upper sound =
    let one = append-nil (fields_of bytes) in
    ap (type_at more) (sym one) ∙ types_agree level more upper (bytes ∷ []) (sound, tt) ∙ ap (type_at level) one

-- of the type in a message
pub inner_type_agrees : (level more number : ℕ) (fields : List Field) → level ≤ more → AllByRecursion (IsSound level kinds.DataType) (payloads number fields) →
    type_at more (message_at number fields) ≡ type_at level (message_at number fields)
inner_type_agrees level more number fields upper sound =
    let joined = message_at-joined number fields in
    ap (type_at more) joined ∙ types_agree level more upper (payloads number fields) sound ∙ ap (type_at level) (sym joined)
