-- Messages in pieces, each of fields of one number: that they have a spelling and are sound, that their parts are short, and what is read
-- among fields of other numbers.
use Rattle.std.proofs.Common.{◌≡◌, ◌≢◌, ℕ, ℤ, zero, suc, ◌+◌, ◌-◌, ◌^◌, ◌<◌, ◌≤◌, ◌==◌, Bool, true, false, List, [], ◌∷◌, ◌++◌, map, length, Option, None, Some, refl, sym, ap, ◌∙◌, subst, append_assoc, length-append, arith}
use Rattle.std.specs.Prelude.{IfSome, FitsSigned, IsUtf8, if◌then◌else◌, flat_map, unwrap_or}
use Rattle.std.specs.Int.{w32, w64}
use Rattle.std.specs.Option.{option_or}
use Rattle.std.specs.List.{AllByRecursion}
use Rattle.std.specs.Str.Lossy.{utf8_lossy}
use Rattle.std.proofs.lemmas.Bool.{eq-eqb}
use Rattle.std.proofs.lemmas.Int.{ints}
use Rattle.std.proofs.lemmas.List.{append-nil}
use Rattle.std.proofs.lemmas.Str.{utf8_lossy-IsUtf8}
use Rattle.proto_wire.specs.Records.{span_head}
use Rattle.proto_fields.specs.declared.kind.MessageKind.{MessageKind}
use Rattle.proto_fields.specs.declared.kind.PayloadKind.{PayloadKind}
use Rattle.proto_fields.specs.declared.kind.PayloadKind.TheVariants.{Message, Text}
use Rattle.proto_fields.specs.Fields.{Payload, Field, fields_of}
use Rattle.proto_fields.specs.Kinds.{payload_of}
use Rattle.proto_fields.specs.Faults.{IsSoundPayload, IsSoundField, IsSound}
use Rattle.proto_fields.specs.Readings.{number_in, payload_in, last_number, last_payload, payloads, joined, texts}
use Rattle.proto_fields.specs.Spelling.{spell, IsWritable, number_fields, payload_fields, text_fields, optional_payload_fields, bits_of, bit_of, int_fields, optional_int_fields, bool_fields}
use Rattle.proto_fields.proofs.PieceLemmas.{AllByRecursion-append, payload_writable, int_writable, optional_int_writable, int_sound, optional_int_sound, int_others, optional_int_others}
use Rattle.proto_fields.proofs.ReadingLemmas.{option_or-none}
use Rattle.proto_fields.proofs.ReturnLemmas.{last_some-append, payloads-append, last_number-others, last_payload-others, payloads-others}
use Rattle.proto_fields.proofs.SpellLemmas.{spelled_message, spelled_sound}
use Rattle.proto_fields.proofs.SpellPieces.{spell-append, spell-payload}
use Rattle.expression_messages.specs.Messages.{message_at, messages_at, repeated_fields, messages_fields}
use Rattle.expression_messages.specs.Laws.{IsShort, IsReadBack}

-- ---- a message by its fields

-- the fields have a spelling, and their payloads are sound with so many levels
pub record Stands (levels : ℕ) (kind : MessageKind) (fields : List Field) : Type 0 where
  pub writable : AllByRecursion IsWritable fields
  pub sound : AllByRecursion (IsSoundField (IsSound levels) kind) fields

pub nothing_stands : (levels : ℕ) (kind : MessageKind) → Stands levels kind []
nothing_stands levels kind = record { writable = tt; sound = tt }

pub two_stand : (levels : ℕ) (kind : MessageKind) (a b : List Field) → Stands levels kind a → Stands levels kind b → Stands levels kind (a ++ b)
two_stand levels kind a b first second = record {
  writable = AllByRecursion-append IsWritable a b first.writable second.writable;
  sound = AllByRecursion-append (IsSoundField (IsSound levels) kind) a b first.sound second.sound;
}

pub three_stand : (levels : ℕ) (kind : MessageKind) (a b c : List Field) → Stands levels kind a → Stands levels kind b → Stands levels kind c → Stands levels kind (a ++ b ++ c)
three_stand levels kind a b c first second third = two_stand levels kind (a ++ b) c (two_stand levels kind a b first second) third

-- what stands with the levels that are left is sound
pub stands_sound : (level : ℕ) (kind : MessageKind) (fields : List Field) → 0 < level → Stands (level - 1) kind fields → IsSound level kind (spell fields)
stands_sound zero kind fields some stands = absurd (omega arith)
stands_sound (suc level) kind fields some stands =
    let left : suc level - 1 ≡ level = omega arith in
    (spelled_sound level kind fields stands.writable).1 (subst (λ (n : ℕ). AllByRecursion (IsSoundField (IsSound n) kind) fields) left stands.sound)

-- and is read back where its fields are
pub read_back : {A : Type 0} (level : ℕ) (kind : MessageKind) (fields : List Field) (read : List Field → A) (value : A) → 0 < level → Stands (level - 1) kind fields → read fields ≡ value → IsReadBack level kind fields read value
read_back level kind fields read value some stands same = record {
  sound = stands_sound level kind fields some stands;
  same = ap read ((spelled_message fields stands.writable).1) ∙ same;
}

-- ---- pieces are short where the message is

pub short_two : (a b : List Field) → IsShort (a ++ b) → IsShort a × IsShort b
short_two a b short =
    let whole = ap (length {A = ℕ}) (spell-append a b) in
    (omega (arith, whole, length-append (spell a) (spell b)), omega (arith, whole, length-append (spell a) (spell b)))

pub short_payload : (number : ℕ) (payload : List ℕ) → IsShort (payload_fields number payload) → length payload < 2 ^ 64
short_payload number payload short =
    omega (arith, ap (length {A = ℕ}) (spell-payload number payload), length-append (span_head number (length payload)) payload)

pub short_text : (number : ℕ) (text : List ℕ) → IsShort (text_fields number text) → length text < 2 ^ 64
short_text number [] short = omega arith
short_text number (b ∷ bytes) short = short_payload number (b ∷ bytes) short

pub short_repeated : (number : ℕ) (payloads : List (List ℕ)) → IsShort (repeated_fields number payloads) → AllByRecursion (λ payload. length payload < 2 ^ 64) payloads
short_repeated number [] short = tt
short_repeated number (payload ∷ others) short =
    let both = short_two (payload_fields number payload) (repeated_fields number others) short in
    (short_payload number payload both.0, short_repeated number others both.1)

pub short_messages : {A : Type 0} (fields : A → List Field) (number : ℕ) (messages : List A) → IsShort (messages_fields fields number messages) → AllByRecursion (λ message. IsShort (fields message)) messages
short_messages fields number [] short = tt
short_messages fields number (message ∷ others) short =
    let both = short_two (payload_fields number (spell (fields message))) (messages_fields fields number others) short in
    (short_payload number (spell (fields message)) both.0, short_messages fields number others both.1)

-- ---- pieces of one number

-- all fields have this number
abbrev pub HaveNumber : ℕ → List Field → Type 0
HaveNumber number fields = AllByRecursion (λ field. field.number ≡ number) fields

-- a piece of a message
pub record Piece (levels : ℕ) (kind : MessageKind) (number : ℕ) (fields : List Field) : Type 0 where
  pub stands : Stands levels kind fields
  pub numbered : HaveNumber number fields

-- a field number
pub record IsNumber (number : ℕ) : Type 0 where
  pub low : 1 ≤ number
  pub high : number ≤ 536870911

pub is_numbered : (number : ℕ) → 1 ≤ number → number ≤ 536870911 → IsNumber number
is_numbered number low high = record { low = low; high = high }

sound_payload : (IsSoundInner : MessageKind → List ℕ → Type 0) (kind : MessageKind) (number : ℕ) (inner : PayloadKind) (payload : List ℕ) → payload_of kind number ≡ inner →
    IsSoundPayload IsSoundInner inner payload → AllByRecursion (IsSoundField IsSoundInner kind) (payload_fields number payload)
sound_payload IsSoundInner kind number inner payload is sound =
    (subst (λ (k : PayloadKind). IsSoundPayload IsSoundInner k payload) (sym is) sound, tt)

-- a payload whose kind is known
pub payload_piece : (levels : ℕ) (kind : MessageKind) (number : ℕ) (inner : PayloadKind) (payload : List ℕ) → IsNumber number → payload_of kind number ≡ inner →
    IsSoundPayload (IsSound levels) inner payload → length payload < 2 ^ 64 → Piece levels kind number (payload_fields number payload)
payload_piece levels kind number inner payload is_number is sound short = record {
  stands = record {
    writable = payload_writable number payload is_number.low is_number.high short;
    sound = sound_payload (IsSound levels) kind number inner payload is sound;
  };
  numbered = (refl, tt);
}

pub text_piece : (levels : ℕ) (kind : MessageKind) (number : ℕ) (text : List ℕ) → IsNumber number → payload_of kind number ≡ Text → IsUtf8 text → IsShort (text_fields number text) →
    Piece levels kind number (text_fields number text)
text_piece levels kind number [] is_number is utf8 short = record { stands = nothing_stands levels kind; numbered = tt }
text_piece levels kind number (b ∷ bytes) is_number is utf8 short = payload_piece levels kind number Text (b ∷ bytes) is_number is utf8 (short_text number (b ∷ bytes) short)

pub optional_text_piece : (levels : ℕ) (kind : MessageKind) (number : ℕ) (text : Option (List ℕ)) → IsNumber number → payload_of kind number ≡ Text → IfSome text IsUtf8 → IsShort (optional_payload_fields number text) →
    Piece levels kind number (optional_payload_fields number text)
optional_text_piece levels kind number None is_number is utf8 short = record { stands = nothing_stands levels kind; numbered = tt }
optional_text_piece levels kind number (Some text) is_number is utf8 short = payload_piece levels kind number Text text is_number is utf8 (short_payload number text short)

pub texts_piece : (levels : ℕ) (kind : MessageKind) (number : ℕ) (texts : List (List ℕ)) → IsNumber number → payload_of kind number ≡ Text → AllByRecursion IsUtf8 texts →
    AllByRecursion (λ text. length text < 2 ^ 64) texts → Piece levels kind number (repeated_fields number texts)
texts_piece levels kind number [] is_number is utf8 short = record { stands = nothing_stands levels kind; numbered = tt }
texts_piece levels kind number (text ∷ texts) is_number is utf8 short =
    let first = payload_piece levels kind number Text text is_number is utf8.0 short.0 in
    let others = texts_piece levels kind number texts is_number is utf8.1 short.1 in
    record {
      stands = two_stand levels kind (payload_fields number text) (repeated_fields number texts) first.stands others.stands;
      numbered = (refl, others.numbered);
    }

number_piece : (levels : ℕ) (kind : MessageKind) (number value : ℕ) → IsNumber number → value < 2 ^ 64 → Piece levels kind number (number_fields number value)
number_piece levels kind number value is_number fits = record {
  stands = record { writable = (record { low = is_number.low; high = is_number.high; content = fits }, tt); sound = (tt, tt) };
  numbered = (refl, tt);
}

scalar_piece : (levels : ℕ) (kind : MessageKind) (number value : ℕ) (is_zero : Bool) → IsNumber number → value < 2 ^ 64 → Piece levels kind number (if is_zero then [] else number_fields number value)
scalar_piece levels kind number value true is_number fits = record { stands = nothing_stands levels kind; numbered = tt }
scalar_piece levels kind number value false is_number fits = number_piece levels kind number value is_number fits

bits_of-below : (value : ℤ) → FitsSigned w64 value → bits_of value < 2 ^ 64
bits_of-below value fits = omega (arith, ints)

bit_of-below : (value : Bool) → bit_of value < 2 ^ 64
bit_of-below true = omega arith
bit_of-below false = omega arith

pub bool_piece : (levels : ℕ) (kind : MessageKind) (number : ℕ) (value : Bool) → IsNumber number → Piece levels kind number (bool_fields number value)
bool_piece levels kind number value is_number = scalar_piece levels kind number (bit_of value) (bit_of value == 0) is_number (bit_of-below value)

pub bit_piece : (levels : ℕ) (kind : MessageKind) (number : ℕ) (value : Bool) → IsNumber number → Piece levels kind number (number_fields number (bit_of value))
bit_piece levels kind number value is_number = number_piece levels kind number (bit_of value) is_number (bit_of-below value)

pub bits_piece : (levels : ℕ) (kind : MessageKind) (number : ℕ) (value : ℤ) → IsNumber number → FitsSigned w64 value → Piece levels kind number (number_fields number (bits_of value))
bits_piece levels kind number value is_number fits = number_piece levels kind number (bits_of value) is_number (bits_of-below value fits)

pub int_piece : (levels : ℕ) (kind : MessageKind) (number : ℕ) (value : ℤ) → IsNumber number → FitsSigned w64 value → Piece levels kind number (int_fields number value)
int_piece levels kind number value is_number fits = scalar_piece levels kind number (bits_of value) (bits_of value == 0) is_number (bits_of-below value fits)

pub optional_int_piece : (levels : ℕ) (kind : MessageKind) (number : ℕ) (value : Option ℤ) → IsNumber number → IfSome value (FitsSigned w64) → Piece levels kind number (optional_int_fields number value)
optional_int_piece levels kind number None is_number fits = record { stands = nothing_stands levels kind; numbered = tt }
optional_int_piece levels kind number (Some value) is_number fits = bits_piece levels kind number value is_number fits

pub wider : (value : ℤ) → FitsSigned w32 value → FitsSigned w64 value
wider value fits = omega (arith, fits)

-- ---- what is read among pieces of other numbers

others : (number other : ℕ) (fields : List Field) → HaveNumber other fields → other ≢ number → AllByRecursion (λ field. field.number ≢ number) fields
others number other [] numbered different = tt
others number other (field ∷ fields) numbered different = (λ e. different (sym numbered.0 ∙ e), others number other fields numbered.1 different)

pub number_front : (number other : ℕ) (front back : List Field) → HaveNumber other back → other ≢ number → last_number number (front ++ back) ≡ last_number number front
number_front number other front back numbered different =
    rw (last_some-append (number_in number) front back) (rw (last_number-others number back (others number other back numbered different)) refl)

pub number_back : (number other : ℕ) (front back : List Field) → HaveNumber other front → other ≢ number → last_number number (front ++ back) ≡ last_number number back
number_back number other front back numbered different =
    rw (last_some-append (number_in number) front back) (rw (last_number-others number front (others number other front numbered different)) (option_or-none (last_number number back)))

pub payload_front : (number other : ℕ) (front back : List Field) → HaveNumber other back → other ≢ number → last_payload number (front ++ back) ≡ last_payload number front
payload_front number other front back numbered different =
    rw (last_some-append (payload_in number) front back) (rw (last_payload-others number back (others number other back numbered different)) refl)

pub payloads_front : (number other : ℕ) (front back : List Field) → HaveNumber other back → other ≢ number → payloads number (front ++ back) ≡ payloads number front
payloads_front number other front back numbered different =
    payloads-append number front back ∙ ap (λ (ps : List (List ℕ)). payloads number front ++ ps) (payloads-others number back (others number other back numbered different))
    ∙ append-nil (payloads number front)

pub payloads_back : (number other : ℕ) (front back : List Field) → HaveNumber other front → other ≢ number → payloads number (front ++ back) ≡ payloads number back
payloads_back number other front back numbered different =
    payloads-append number front back ∙ ap (λ (ps : List (List ℕ)). ps ++ payloads number back) (payloads-others number front (others number other front numbered different))

-- ---- messages inside a message

-- the payload of a singular message
pub payloads_one : (number : ℕ) (payload : List ℕ) → payloads number (payload_fields number payload) ≡ payload ∷ []
unfolding payloads
payloads_one number payload = rw (eq-eqb number number refl) refl

pub message_at-one : (number : ℕ) (fields : List Field) (payload : List ℕ) → payloads number fields ≡ payload ∷ [] → message_at number fields ≡ fields_of payload
message_at-one number fields payload one = ap (λ (ps : List (List ℕ)). unwrap_or (joined ps) []) one ∙ append-nil (fields_of payload)

-- the payloads of a repeated field
pub payloads_repeated : (number : ℕ) (items : List (List ℕ)) → payloads number (repeated_fields number items) ≡ items
unfolding payloads
payloads_repeated number [] = refl
payloads_repeated number (item ∷ items) =
    payloads-append number (payload_fields number item) (repeated_fields number items)
    ∙ ap (λ (ps : List (List ℕ)). ps ++ payloads number (repeated_fields number items)) (payloads_one number item)
    ∙ ap (λ (ps : List (List ℕ)). item ∷ ps) (payloads_repeated number items)

-- texts that are UTF-8 are read as they are
pub texts_back : (items : List (List ℕ)) → AllByRecursion IsUtf8 items → map utf8_lossy items ≡ items
texts_back [] utf8 = refl
texts_back (item ∷ items) utf8 = rw (utf8_lossy-IsUtf8 item utf8.0) (ap (λ (ts : List (List ℕ)). item ∷ ts) (texts_back items utf8.1))

-- a message that is read back, and short
pub record ItemBack {A : Type 0} (levels : ℕ) (kind : MessageKind) (fields : A → List Field) (read : List Field → A) (item : A) : Type 0 where
  pub back : IsReadBack levels kind (fields item) read item
  pub short : IsShort (fields item)

pub messages_piece : {A : Type 0} (levels : ℕ) (kind inner : MessageKind) (number : ℕ) (fields : A → List Field) (read : List Field → A) (items : List A) → IsNumber number → payload_of kind number ≡ Message inner →
    AllByRecursion (ItemBack levels inner fields read) items → Piece levels kind number (messages_fields fields number items)
messages_piece levels kind inner number fields read [] is_number is items_back = record { stands = nothing_stands levels kind; numbered = tt }
messages_piece levels kind inner number fields read (item ∷ items) is_number is items_back =
    let first = payload_piece levels kind number (Message inner) (spell (fields item)) is_number is items_back.0.back.sound items_back.0.short in
    let others = messages_piece levels kind inner number fields read items is_number is items_back.1 in
    record {
      stands = two_stand levels kind (payload_fields number (spell (fields item))) (messages_fields fields number items) first.stands others.stands;
      numbered = (refl, others.numbered);
    }

pub messages_read : {A : Type 0} (levels : ℕ) (inner : MessageKind) (fields : A → List Field) (read : List Field → A) (items : List A) →
    AllByRecursion (ItemBack levels inner fields read) items → map (λ payload. read (fields_of payload)) (map (λ item. spell (fields item)) items) ≡ items
messages_read levels inner fields read [] items_back = refl
messages_read {A} levels inner fields read (item ∷ items) items_back =
    rw (items_back.0.back.same) (ap (λ (xs : List A). item ∷ xs) (messages_read levels inner fields read items items_back.1))
