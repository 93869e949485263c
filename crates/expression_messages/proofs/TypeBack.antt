-- What types are spelled as is read as the types.
use Rattle.std.proofs.Common.{◌≡◌, ◌≢◌, ℕ, zero, suc, ◌+◌, ◌-◌, ◌^◌, ◌<◌, ◌≤◌, Bool, true, false, List, [], ◌∷◌, ◌++◌, map, length, refl, sym, ap, ◌∙◌, subst, append_assoc, arith}
use Rattle.std.specs.Prelude.{◌&&◌, IsTrue, IsUtf8, Option, option_map, unwrap_or}
use Rattle.std.specs.Str.Lossy.{utf8_lossy}
use Rattle.std.specs.List.{list_all, after_last, AllByRecursion}
use Rattle.std.proofs.lemmas.Bool.{false≢true}
use Rattle.proto_fields.specs.declared.kind.MessageKind.TheVariants as kinds
use Rattle.proto_fields.specs.declared.kind.PayloadKind.TheVariants.{Message, Text}
use Rattle.proto_fields.specs.Fields.{Field, fields_of}
use Rattle.proto_fields.specs.Kinds.{is_member, payload_of}
use Rattle.proto_fields.specs.Readings.{last_some, payloads, Member, sets_other, latest, last_number, bool_of, bool_field, text_field}
use Rattle.proto_fields.specs.Faults.{IsSound}
use Rattle.proto_fields.specs.Spelling.{spell, payload_fields, text_fields, bool_fields}
use Rattle.proto_fields.proofs.SpellLemmas.{spelled_message}
use Rattle.proto_fields.proofs.ReturnLemmas.{text_back, bool_back}
use Rattle.expression_messages.specs.declared.data_type.StructField.{StructField}
use Rattle.expression_messages.specs.declared.data_type.TypeMessage.{TypeMessage}
use Rattle.expression_messages.specs.declared.data_type.TypeMessage.TheVariants as V
use Rattle.expression_messages.specs.declared.data_type.TypeMessage.TheOpen as O
use Rattle.expression_messages.specs.declared.data_type.TypeMessage.TheOpen.{TypeMessage-F}
use Rattle.expression_messages.specs.declared.data_type.TypeMessage.TheViews.{out-TypeMessage, roll-TypeMessage, roll-out-TypeMessage, outs-Struct}
use Rattle.expression_messages.specs.declared.data_type.TypeMessage.TheFolds.{every_here-TypeMessage, every_held-TypeMessage, every-TypeMessage, map-TypeMessage}
use Rattle.expression_messages.specs.Messages.{message_at}
use Rattle.expression_messages.specs.Types.{struct_field_of, struct_fields_of, plain_type, data_type_of, type_at}
use Rattle.expression_messages.specs.Spelled.{struct_field_fields, struct_type_fields, type_fields}
use Rattle.expression_messages.specs.Depths.{largest, deepest_field, type_depth}
use Rattle.expression_messages.specs.Known.{is_known_type, IsKnownType, HasTypeBitsHere, HasTypeBits}
use Rattle.expression_messages.specs.Laws.{IsShort, IsReadBack}
use Rattle.expression_messages.proofs.Levels.{type_at-plain, type_at-struct}
use Rattle.expression_messages.proofs.TypeCases
use Rattle.expression_messages.proofs.Written.{spell_nil}
use Rattle.expression_messages.proofs.Pieces.{Stands, nothing_stands, three_stand, stands_sound, read_back, short_two, short_payload, short_messages, IsNumber, is_numbered, Piece, payload_piece, text_piece, bool_piece, number_back, payload_front, payloads_front, payloads_back, payloads_one, payloads_repeated, message_at-one, ItemBack, messages_piece, messages_read}

-- ---- layers

-- a fact of every type follows from it for every layer
by_layers : (P : TypeMessage → Type 0) → ((x : TypeMessage-F TypeMessage) → P (roll-TypeMessage x)) → (kind : TypeMessage) → P kind
by_layers P each kind = subst P (roll-out-TypeMessage kind) (each (out-TypeMessage kind))

-- the two depths of the profile's types
depth_of : (kind : TypeMessage) (n : ℕ) → type_depth kind ≡ n → 1 ≤ n → 1 ≤ type_depth kind
depth_of kind n is some = omega arith

-- a type is a message
pub type_depth-some : (kind : TypeMessage) → 1 ≤ type_depth kind
type_depth-some = by_layers (λ kind. 1 ≤ type_depth kind) each
  where
    each : (x : TypeMessage-F TypeMessage) → 1 ≤ type_depth (roll-TypeMessage x)
    each O.Null = depth_of (roll-TypeMessage O.Null) 2 (ap type_depth V.rolls-Null ∙ TypeCases.type_depth-Null) (omega arith)
    each O.Boolean = depth_of (roll-TypeMessage O.Boolean) 2 (ap type_depth V.rolls-Boolean ∙ TypeCases.type_depth-Boolean) (omega arith)
    each O.Byte = depth_of (roll-TypeMessage O.Byte) 2 (ap type_depth V.rolls-Byte ∙ TypeCases.type_depth-Byte) (omega arith)
    each O.Short = depth_of (roll-TypeMessage O.Short) 2 (ap type_depth V.rolls-Short ∙ TypeCases.type_depth-Short) (omega arith)
    each O.Integer = depth_of (roll-TypeMessage O.Integer) 2 (ap type_depth V.rolls-Integer ∙ TypeCases.type_depth-Integer) (omega arith)
    each O.Long = depth_of (roll-TypeMessage O.Long) 2 (ap type_depth V.rolls-Long ∙ TypeCases.type_depth-Long) (omega arith)
    each O.String = depth_of (roll-TypeMessage O.String) 2 (ap type_depth V.rolls-String ∙ TypeCases.type_depth-String) (omega arith)
    each O.Date = depth_of (roll-TypeMessage O.Date) 2 (ap type_depth V.rolls-Date ∙ TypeCases.type_depth-Date) (omega arith)
    each (O.Struct fields) =
        depth_of (roll-TypeMessage (O.Struct fields)) (2 + deepest_field type_depth fields) (ap type_depth (V.rolls-Struct fields) ∙ TypeCases.type_depth-Struct fields) (omega arith)
    each (O.Other number) = depth_of (roll-TypeMessage (O.Other number)) 1 (ap type_depth (V.rolls-Other number) ∙ TypeCases.type_depth-Other number) (omega arith)

-- ---- a fact of each layer, in the fields of a struct

abbrev Held : (TypeMessage-F TypeMessage → Type 0) → Type 0
Held Q = (kind : TypeMessage) × every-TypeMessage Q kind

field_map : {A B : Type 0} → (A → B) → StructField A → StructField B
field_map f field = record { name = field.name; data_type = f field.data_type; nullable = field.nullable }

fields_in : {A : Type 0} → TypeMessage-F A → List (StructField A)
fields_in (O.Struct fields) = fields
fields_in _ = []

fields_in-map : {A B : Type 0} (f : A → B) (x : TypeMessage-F A) → fields_in (map-TypeMessage A B f x) ≡ map (field_map f) (fields_in x)
unfolding fields_in field_map
fields_in-map f (O.Struct fields) = refl
fields_in-map f O.Null = refl
fields_in-map f O.Boolean = refl
fields_in-map f O.Byte = refl
fields_in-map f O.Short = refl
fields_in-map f O.Integer = refl
fields_in-map f O.Long = refl
fields_in-map f O.String = refl
fields_in-map f O.Date = refl
fields_in-map f (O.Other number) = refl

all_held : (Q : TypeMessage-F TypeMessage → Type 0) (fields : List (StructField (Held Q))) → AllByRecursion (λ field. every-TypeMessage Q field.data_type) (map (field_map (λ e. e.0)) fields)
unfolding field_map
all_held Q [] = tt
all_held Q (field ∷ fields) = (field.data_type.1, all_held Q fields)

every_in_struct : (Q : TypeMessage-F TypeMessage → Type 0) (fields : List (StructField TypeMessage)) → every-TypeMessage Q (V.Struct fields) → AllByRecursion (λ field. every-TypeMessage Q field.data_type) fields
unfolding fields_in
every_in_struct Q fields every = subst (AllByRecursion (λ field. every-TypeMessage Q field.data_type)) same (all_held Q (fields_in held.0))
  where
    held : (y : TypeMessage-F (Held Q)) × (map-TypeMessage (Held Q) TypeMessage (λ e. e.0) y ≡ out-TypeMessage (V.Struct fields))
    held = every_held-TypeMessage Q (V.Struct fields) every

    same : map (field_map (λ e. e.0)) (fields_in held.0) ≡ fields
    same = sym (fields_in-map (λ e. e.0) held.0) ∙ ap fields_in (held.1 ∙ outs-Struct fields)

-- the fields of a struct have the bits of their types
bits_here : (fields : List (StructField TypeMessage)) → HasTypeBits (V.Struct fields) → AllByRecursion (λ field. IsUtf8 field.name) fields
unfolding HasTypeBits
bits_here fields bits = subst HasTypeBitsHere (outs-Struct fields) (every_here-TypeMessage HasTypeBitsHere (V.Struct fields) bits)

bits_in : (fields : List (StructField TypeMessage)) → HasTypeBits (V.Struct fields) → AllByRecursion (λ field. HasTypeBits field.data_type) fields
unfolding HasTypeBits
bits_in fields bits = every_in_struct HasTypeBitsHere fields bits

-- ---- a struct's field

-- a type that is read back at this level
abbrev pub TypeBack : ℕ → TypeMessage → Type 0
TypeBack level kind = IsReadBack level kinds.DataType (type_fields kind) (type_at level) kind

-- what is read of a field's message
same_field : {name name2 : List ℕ} {kind kind2 : TypeMessage} {nullable nullable2 : Bool} → name ≡ name2 → kind ≡ kind2 → nullable ≡ nullable2 →
    ◌≡◌ {A = StructField TypeMessage} (record { name = name; data_type = kind; nullable = nullable }) (record { name = name2; data_type = kind2; nullable = nullable2 })
same_field name_is kind_is nullable_is = rw name_is (rw kind_is (rw nullable_is refl))

is_1 : IsNumber 1
is_1 = is_numbered 1 (omega arith) (omega arith)

-- a field of a struct is read back where its type is one level further in
pub field_back : (level : ℕ) (field : StructField TypeMessage) → 0 < level → IsUtf8 field.name → TypeBack (level - 1) field.data_type → IsShort (struct_field_fields type_fields field) →
    IsReadBack level kinds.StructField (struct_field_fields type_fields field) (struct_field_of (type_at (level - 1))) field
unfolding payload_of
field_back level field some utf8 kind_back short = read_back level kinds.StructField whole (struct_field_of (type_at (level - 1))) field some stands same
  where
    name : List Field
    name = text_fields 1 field.name

    payload : List ℕ
    payload = spell (type_fields field.data_type)

    kind : List Field
    kind = payload_fields 2 payload

    nullable : List Field
    nullable = bool_fields 3 field.nullable

    whole : List Field
    whole = name ++ kind ++ nullable

    short_front : IsShort name × IsShort kind
    short_front = short_two name kind (short_two (name ++ kind) nullable short).0

    name_piece : Piece (level - 1) kinds.StructField 1 name
    name_piece = text_piece (level - 1) kinds.StructField 1 field.name is_1 refl utf8 short_front.0

    kind_piece : Piece (level - 1) kinds.StructField 2 kind
    kind_piece = payload_piece (level - 1) kinds.StructField 2 (Message kinds.DataType) payload (is_numbered 2 (omega arith) (omega arith)) refl kind_back.sound (short_payload 2 payload short_front.1)

    nullable_piece : Piece (level - 1) kinds.StructField 3 nullable
    nullable_piece = bool_piece (level - 1) kinds.StructField 3 field.nullable (is_numbered 3 (omega arith) (omega arith))

    stands : Stands (level - 1) kinds.StructField whole
    stands = three_stand (level - 1) kinds.StructField name kind nullable name_piece.stands kind_piece.stands nullable_piece.stands

    name_read : text_field 1 whole ≡ field.name
    name_read =
        ap (λ (p : Option (List ℕ)). unwrap_or (option_map utf8_lossy p) [])
        (payload_front 1 3 (name ++ kind) nullable nullable_piece.numbered (omega arith) ∙ payload_front 1 2 name kind kind_piece.numbered (omega arith))
        ∙ text_back 1 field.name utf8

    kind_read : type_at (level - 1) (message_at 2 whole) ≡ field.data_type
    kind_read =
        ap (type_at (level - 1)) (message_at-one 2 whole payload
        (payloads_front 2 3 (name ++ kind) nullable nullable_piece.numbered (omega arith) ∙ payloads_back 2 1 name kind name_piece.numbered (omega arith) ∙ payloads_one 2 payload))
        ∙ kind_back.same

    front_numbered : last_number 3 whole ≡ last_number 3 nullable
    front_numbered =
        ap (last_number 3) (append_assoc name kind nullable) ∙ number_back 3 1 name (kind ++ nullable) name_piece.numbered (omega arith) ∙ number_back 3 2 kind nullable kind_piece.numbered (omega arith)

    nullable_read : bool_field 3 whole ≡ field.nullable
    nullable_read = ap (λ (n : Option ℕ). unwrap_or (option_map bool_of n) false) front_numbered ∙ bool_back 3 field.nullable

    same : struct_field_of (type_at (level - 1)) whole ≡ field
    same = same_field name_read kind_read nullable_read

-- ---- a type

pub empty_sound : (level : ℕ) → 0 < level → IsSound level kinds.Empty []
empty_sound level some = subst (IsSound level kinds.Empty) spell_nil (stands_sound level kinds.Empty [] some (nothing_stands (level - 1) kinds.Empty))

-- a type without fields is read back
plain_back : (level number : ℕ) (kind : TypeMessage) → 2 ≤ level → IsNumber number → number ≢ 21 → payload_of kinds.DataType number ≡ Message kinds.Empty → plain_type number ≡ kind →
    type_fields kind ≡ payload_fields number [] → TypeBack level kind
unfolding latest last_some is_member
plain_back level number kind some is_number other is_empty kind_is fields_is =
    let empty = empty_sound (level - 1) (omega arith) in
    let piece = payload_piece (level - 1) kinds.DataType number (Message kinds.Empty) [] is_number is_empty empty (omega arith) in
    let member : Member = record { number = number; since = after_last (sets_other kinds.DataType number) (payload_fields number []) } in
    let read = type_at-plain level (payload_fields number []) member (omega arith) refl other ∙ kind_is in
    subst (λ (fields : List Field). IsReadBack level kinds.DataType fields (type_at level) kind) (sym fields_is)
    (read_back level kinds.DataType (payload_fields number []) (type_at level) kind (omega arith) piece.stands read)

-- the fields of a struct
abbrev FieldBack : ℕ → StructField TypeMessage → Type 0
FieldBack level = ItemBack level kinds.StructField (struct_field_fields type_fields) (struct_field_of (type_at (level - 1)))

-- a struct is read back where its fields are, two levels further in
struct_back : (level : ℕ) (fields : List (StructField TypeMessage)) → 2 ≤ level → AllByRecursion (FieldBack (level - 1 - 1)) fields → IsShort (struct_type_fields type_fields fields) →
    IsReadBack level kinds.DataType (payload_fields 21 (spell (struct_type_fields type_fields fields))) (type_at level) (V.Struct fields)
unfolding latest last_some is_member payload_of
struct_back level fields some items short = read_back level kinds.DataType whole (type_at level) (V.Struct fields) (omega arith) piece.stands same
  where
    inner : List Field
    inner = struct_type_fields type_fields fields

    whole : List Field
    whole = payload_fields 21 (spell inner)

    inner_piece : Piece (level - 1 - 1) kinds.StructType 1 inner
    inner_piece = messages_piece (level - 1 - 1) kinds.StructType kinds.StructField 1 (struct_field_fields type_fields) (struct_field_of (type_at (level - 1 - 1 - 1))) fields is_1 refl items

    piece : Piece (level - 1) kinds.DataType 21 whole
    piece = payload_piece (level - 1) kinds.DataType 21 (Message kinds.StructType) (spell inner) (is_numbered 21 (omega arith) (omega arith)) refl (stands_sound (level - 1) kinds.StructType inner (omega arith) inner_piece.stands) short

    level_is : level - 3 ≡ level - 1 - 1 - 1
    level_is = omega arith

    inner_is : message_at 21 whole ≡ inner
    inner_is = message_at-one 21 whole (spell inner) (payloads_one 21 (spell inner)) ∙ (spelled_message inner inner_piece.stands.writable).1

    fields_read : struct_fields_of (type_at (level - 1 - 1 - 1)) inner ≡ fields
    fields_read =
        ap (map (λ payload. struct_field_of (type_at (level - 1 - 1 - 1)) (fields_of payload))) (payloads_repeated 1 (map (λ field. spell (struct_field_fields type_fields field)) fields))
        ∙ messages_read (level - 1 - 1) kinds.StructField (struct_field_fields type_fields) (struct_field_of (type_at (level - 1 - 1 - 1))) fields items

    member : Member
    member = record { number = 21; since = whole }

    same : type_at level whole ≡ V.Struct fields
    same =
        type_at-struct level whole member (omega arith) refl refl
        ∙ ap (λ (n : ℕ). V.Struct (struct_fields_of (type_at n) (message_at 21 whole))) level_is
        ∙ ap (λ (fs : List Field). V.Struct (struct_fields_of (type_at (level - 1 - 1 - 1)) fs)) inner_is
        ∙ ap (λ (fs : List (StructField TypeMessage)). V.Struct fs) fields_read

-- what is asked of a type that is read back at this level
abbrev pub ReadsBack : ℕ → TypeMessage → Type 0
ReadsBack level kind = IsKnownType kind → HasTypeBits kind → IsShort (type_fields kind) → type_depth kind ≤ level → TypeBack level kind

pub and_true : (a b : Bool) → (a && b) ≡ true → (a ≡ true) × (b ≡ true)
and_true true true e = (refl, refl)
and_true true false e = absurd (false≢true e)
and_true false b e = absurd (false≢true e)

fields_back : (level : ℕ) → ((kind : TypeMessage) → ReadsBack (level - 1) kind) → (fields : List (StructField TypeMessage)) → list_all (λ field. is_known_type field.data_type) fields ≡ true →
    AllByRecursion (λ field. IsUtf8 field.name) fields → AllByRecursion (λ field. HasTypeBits field.data_type) fields → AllByRecursion (λ field. IsShort (struct_field_fields type_fields field)) fields →
    deepest_field type_depth fields ≤ level → AllByRecursion (FieldBack level) fields
fields_back level inner [] known utf8 bits short deep = tt
fields_back level inner (field ∷ fields) known utf8 bits short deep =
    let both = and_true (is_known_type field.data_type) (list_all (λ f. is_known_type f.data_type) fields) known in
    let name = text_fields 1 field.name in
    let kind = payload_fields 2 (spell (type_fields field.data_type)) in
    let short_kind = short_payload 2 (spell (type_fields field.data_type)) (short_two name kind (short_two (name ++ kind) (bool_fields 3 field.nullable) short.0).0).1 in
    let kind_back = inner field.data_type both.0 bits.0 short_kind (omega arith) in
    let here : FieldBack level field = record { back = field_back level field (omega arith) utf8.0 kind_back short.0; short = short.0 } in
    (here, fields_back level inner fields both.1 utf8.1 bits.1 short.1 (omega arith))

struct_case : (level : ℕ) → ((kind : TypeMessage) → ReadsBack (level - 1 - 1 - 1) kind) → (fields : List (StructField TypeMessage)) → ReadsBack level (V.Struct fields)
struct_case level inner fields known bits short deep =
    let fields_is = TypeCases.type_fields-Struct fields in
    let whole : IsShort (payload_fields 21 (spell (struct_type_fields type_fields fields))) = subst IsShort fields_is short in
    let short_inner = short_payload 21 (spell (struct_type_fields type_fields fields)) whole in
    let depth = TypeCases.type_depth-Struct fields in
    let items = fields_back (level - 1 - 1) inner fields (sym (TypeCases.is_known_type-Struct fields) ∙ known) (bits_here fields bits) (bits_in fields bits)
    (short_messages (struct_field_fields type_fields) 1 fields short_inner) (omega arith) in
    subst (λ (fs : List Field). IsReadBack level kinds.DataType fs (type_at level) (V.Struct fields)) (sym fields_is)
    (struct_back level fields (omega arith) items short_inner)

plain_case : (level number : ℕ) (kind : TypeMessage) → IsNumber number → number ≢ 21 → payload_of kinds.DataType number ≡ Message kinds.Empty → plain_type number ≡ kind →
    type_fields kind ≡ payload_fields number [] → type_depth kind ≡ 2 → ReadsBack level kind
plain_case level number kind is_number other is_empty kind_is fields_is depth known bits short deep =
    plain_back level number kind (omega arith) is_number other is_empty kind_is fields_is

each_layer : (level : ℕ) → ((kind : TypeMessage) → ReadsBack (level - 1 - 1 - 1) kind) → (x : TypeMessage-F TypeMessage) → ReadsBack level (roll-TypeMessage x)
unfolding payload_of
each_layer level inner O.Null = subst (ReadsBack level) (sym V.rolls-Null) (plain_case level 1 V.Null (is_numbered 1 (omega arith) (omega arith)) (omega arith) refl refl TypeCases.type_fields-Null TypeCases.type_depth-Null)
each_layer level inner O.Boolean = subst (ReadsBack level) (sym V.rolls-Boolean) (plain_case level 3 V.Boolean (is_numbered 3 (omega arith) (omega arith)) (omega arith) refl refl TypeCases.type_fields-Boolean TypeCases.type_depth-Boolean)
each_layer level inner O.Byte = subst (ReadsBack level) (sym V.rolls-Byte) (plain_case level 4 V.Byte (is_numbered 4 (omega arith) (omega arith)) (omega arith) refl refl TypeCases.type_fields-Byte TypeCases.type_depth-Byte)
each_layer level inner O.Short = subst (ReadsBack level) (sym V.rolls-Short) (plain_case level 5 V.Short (is_numbered 5 (omega arith) (omega arith)) (omega arith) refl refl TypeCases.type_fields-Short TypeCases.type_depth-Short)
each_layer level inner O.Integer = subst (ReadsBack level) (sym V.rolls-Integer) (plain_case level 6 V.Integer (is_numbered 6 (omega arith) (omega arith)) (omega arith) refl refl TypeCases.type_fields-Integer TypeCases.type_depth-Integer)
each_layer level inner O.Long = subst (ReadsBack level) (sym V.rolls-Long) (plain_case level 7 V.Long (is_numbered 7 (omega arith) (omega arith)) (omega arith) refl refl TypeCases.type_fields-Long TypeCases.type_depth-Long)
each_layer level inner O.String = subst (ReadsBack level) (sym V.rolls-String) (plain_case level 11 V.String (is_numbered 11 (omega arith) (omega arith)) (omega arith) refl refl TypeCases.type_fields-String TypeCases.type_depth-String)
each_layer level inner O.Date = subst (ReadsBack level) (sym V.rolls-Date) (plain_case level 14 V.Date (is_numbered 14 (omega arith) (omega arith)) (omega arith) refl refl TypeCases.type_fields-Date TypeCases.type_depth-Date)
each_layer level inner (O.Struct fields) = subst (ReadsBack level) (sym (V.rolls-Struct fields)) (struct_case level inner fields)
each_layer level inner (O.Other number) = subst (ReadsBack level) (sym (V.rolls-Other number)) (λ known bits short deep. absurd (false≢true (sym (TypeCases.is_known_type-Other number) ∙ known)))

-- with so many levels left in the proof
back_to : (fuel level : ℕ) → level ≤ fuel → (kind : TypeMessage) → ReadsBack level kind
back_to zero level few = by_layers (ReadsBack level) (each_layer level (λ kind known bits short deep. absurd (omega (arith, type_depth-some kind, deep))))
back_to (suc fuel) level few = by_layers (ReadsBack level) (each_layer level (back_to fuel (level - 1 - 1 - 1) (omega arith)))

-- what a type is spelled as is sound and read back, at every level that its depth allows
pub type_read_back : (level : ℕ) (kind : TypeMessage) → ReadsBack level kind
type_read_back level = back_to level level (omega arith)
