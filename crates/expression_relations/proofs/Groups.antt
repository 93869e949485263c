-- Groups of fields that stand in a message and are read as a value among fields of other numbers.
use Rattle.std.proofs.Common.{◌≡◌, ℕ, ℤ, ◌≤◌, Bool, true, List, [], ◌∷◌, map, Option, ap, ◌∙◌, arith}
use Rattle.std.specs.Prelude.{FitsSigned, IsUtf8}
use Rattle.std.specs.Int.{w32}
use Rattle.std.specs.List.{list_all, AllByRecursion}
use Rattle.proto_fields.specs.declared.kind.MessageKind.{MessageKind}
use Rattle.proto_fields.specs.declared.kind.PayloadKind.TheVariants.{Message, Text}
use Rattle.proto_fields.specs.Fields.{Field, fields_of}
use Rattle.proto_fields.specs.Kinds.{payload_of}
use Rattle.proto_fields.specs.Readings.{int32_field, optional_bool, texts}
use Rattle.proto_fields.specs.Spelling.{spell, int_fields, optional_bool_fields}
use Rattle.expression_messages.specs.Messages.{messages_at, repeated_fields, messages_fields}
use Rattle.expression_messages.specs.Depths.{largest}
use Rattle.expression_messages.specs.Laws.{IsShort, IsReadBack}
use Rattle.expression_messages.proofs.Pieces.{short_repeated, Piece, IsNumber, texts_piece, int_piece, wider, payloads_repeated, ItemBack, messages_piece, messages_read}
use Rattle.expression_messages.proofs.TypeBack.{and_true}
use Rattle.field_groups.specs.Groups.{ReadsAs}
use Rattle.field_groups.proofs.Scalars.{int32_read, texts_read, optional_bool_piece, optional_bool_read}

-- a group that stands, and what is read of its number wherever it alone has that number
pub record GroupBack {A : Type 0} (level : ℕ) (kind : MessageKind) (number : ℕ) (fields : List Field) (read : List Field → A) (value : A) : Type 0 where
  pub piece : Piece level kind number fields
  pub same : (whole : List Field) → ReadsAs number whole fields → read whole ≡ value

-- ---- groups by what they hold

pub int_group : (level : ℕ) (kind : MessageKind) (number : ℕ) (value : ℤ) → IsNumber number → FitsSigned w32 value → GroupBack level kind number (int_fields number value) (int32_field number) value
int_group level kind number value is_number fits = record {
  piece = int_piece level kind number value is_number (wider value fits);
  same = λ whole reads. int32_read number whole value reads fits;
}

pub flag_group : (level : ℕ) (kind : MessageKind) (number : ℕ) (value : Option Bool) → IsNumber number → GroupBack level kind number (optional_bool_fields number value) (optional_bool number) value
flag_group level kind number value is_number = record {
  piece = optional_bool_piece level kind number value is_number;
  same = λ whole reads. optional_bool_read number whole value reads;
}

pub texts_group : (level : ℕ) (kind : MessageKind) (number : ℕ) (items : List (List ℕ)) → IsNumber number → payload_of kind number ≡ Text → AllByRecursion IsUtf8 items → IsShort (repeated_fields number items) →
    GroupBack level kind number (repeated_fields number items) (texts number) items
texts_group level kind number items is_number is utf8 short = record {
  piece = texts_piece level kind number items is_number is utf8 (short_repeated number items short);
  same = λ whole reads. texts_read number whole items reads utf8;
}

pub messages_group : {A : Type 0} (level : ℕ) (kind inner : MessageKind) (number : ℕ) (fields : A → List Field) (read : List Field → A) (items : List A) → IsNumber number → payload_of kind number ≡ Message inner →
    AllByRecursion (ItemBack level inner fields read) items → GroupBack level kind number (messages_fields fields number items) (messages_at read number) items
messages_group level kind inner number fields read items is_number is back = record {
  piece = messages_piece level kind inner number fields read items is_number is back;
  same = λ whole reads.
      ap (map (λ payload. read (fields_of payload))) (reads.payloads_are ∙ payloads_repeated number (map (λ item. spell (fields item)) items))
      ∙ messages_read level inner fields read items back;
}

-- the items of a list are read back where each item that is not deeper than this is
pub items_back : {A : Type 0} (level : ℕ) (inner : MessageKind) (fields : A → List Field) (read : List Field → A) (known : A → Bool) (Bits : A → Type 0) (depth : A → ℕ) →
    ((item : A) → known item ≡ true → Bits item → IsShort (fields item) → depth item ≤ level → IsReadBack level inner (fields item) read item) →
    (items : List A) → list_all known items ≡ true → AllByRecursion Bits items → AllByRecursion (λ item. IsShort (fields item)) items → largest (map depth items) ≤ level →
    AllByRecursion (ItemBack level inner fields read) items
items_back level inner fields read known Bits depth each [] are_known bits short deep = tt
items_back level inner fields read known Bits depth each (item ∷ items) are_known bits short deep =
    let both = and_true (known item) (list_all known items) are_known in
    let here : ItemBack level inner fields read item = record { back = each item both.0 bits.0 short.0 (omega arith); short = short.0 } in
    (here, items_back level inner fields read known Bits depth each items both.1 bits.1 short.1 (omega arith))
