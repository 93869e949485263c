-- Groups of one scalar field each (Protocol Buffers, "Scalar Value Types"): each is a piece of a message, and is read as what it was made of.
use Rattle.std.proofs.Common.{◌≡◌, ℕ, ℤ, pos, Bool, List, [], ◌∷◌, map, Option, None, Some, refl, ap, ◌∙◌, arith}
use Rattle.std.specs.Prelude.{IfSome, FitsSigned, IsUtf8, option_map, unwrap_or}
use Rattle.std.specs.Int.{w32, w64}
use Rattle.std.specs.List.{AllByRecursion}
use Rattle.std.specs.Str.Lossy.{utf8_lossy}
use Rattle.proto_fields.specs.declared.kind.MessageKind.{MessageKind}
use Rattle.proto_fields.specs.declared.kind.PayloadKind.TheVariants.{Other}
use Rattle.proto_fields.specs.Fields.{Field}
use Rattle.proto_fields.specs.Kinds.{payload_of}
use Rattle.proto_fields.specs.Readings.{last_some, last_payload, int32_of, int64_of, bool_of, int32_field, int64_field, optional_int32, optional_int64, optional_bool, text_field, optional_text, texts, payloads}
use Rattle.proto_fields.specs.Spelling.{payload_fields, int_fields, optional_int_fields, optional_bool_fields, text_fields, optional_payload_fields}
use Rattle.proto_fields.proofs.ReturnLemmas.{text_back, optional_text_back, optional_payload_back, int32_back, int64_back, optional_int32_back, optional_int64_back, optional_bool_back}
use Rattle.expression_messages.specs.Messages.{repeated_fields}
use Rattle.expression_messages.specs.Laws.{IsShort}
use Rattle.expression_messages.proofs.Pieces.{nothing_stands, short_payload, short_text, IsNumber, is_numbered, Piece, payload_piece, bit_piece, payloads_repeated, texts_back}
use Rattle.field_groups.specs.Groups.{ReadsAs}

pub is_1 : IsNumber 1
is_1 = is_numbered 1 (omega arith) (omega arith)

pub is_2 : IsNumber 2
is_2 = is_numbered 2 (omega arith) (omega arith)

pub is_3 : IsNumber 3
is_3 = is_numbered 3 (omega arith) (omega arith)

pub is_4 : IsNumber 4
is_4 = is_numbered 4 (omega arith) (omega arith)

pub is_5 : IsNumber 5
is_5 = is_numbered 5 (omega arith) (omega arith)

pub is_6 : IsNumber 6
is_6 = is_numbered 6 (omega arith) (omega arith)

pub is_7 : IsNumber 7
is_7 = is_numbered 7 (omega arith) (omega arith)

-- ---- texts

pub text_read : (number : ℕ) (whole : List Field) (text : List ℕ) → ReadsAs number whole (text_fields number text) → IsUtf8 text → text_field number whole ≡ text
text_read number whole text reads utf8 = ap (λ (p : Option (List ℕ)). unwrap_or (option_map utf8_lossy p) []) reads.payload_is ∙ text_back number text utf8

-- a text that is written empty too
pub payload_read : (number : ℕ) (whole : List Field) (text : List ℕ) → ReadsAs number whole (payload_fields number text) → IsUtf8 text → text_field number whole ≡ text
payload_read number whole text reads utf8 =
    ap (λ (p : Option (List ℕ)). unwrap_or (option_map utf8_lossy p) []) reads.payload_is
    ∙ ap (λ (t : Option (List ℕ)). unwrap_or t []) (optional_text_back number (Some text) utf8)

pub optional_text_read : (number : ℕ) (whole : List Field) (text : Option (List ℕ)) → ReadsAs number whole (optional_payload_fields number text) → IfSome text IsUtf8 → optional_text number whole ≡ text
optional_text_read number whole text reads utf8 = ap (option_map utf8_lossy) reads.payload_is ∙ optional_text_back number text utf8

pub texts_read : (number : ℕ) (whole : List Field) (items : List (List ℕ)) → ReadsAs number whole (repeated_fields number items) → AllByRecursion IsUtf8 items → texts number whole ≡ items
texts_read number whole items reads utf8 = ap (map utf8_lossy) (reads.payloads_are ∙ payloads_repeated number items) ∙ texts_back items utf8

-- ---- plain bytes

-- written where they are not empty
pub bytes_piece : (levels : ℕ) (kind : MessageKind) (number : ℕ) (bytes : List ℕ) → IsNumber number → payload_of kind number ≡ Other → IsShort (text_fields number bytes) →
    Piece levels kind number (text_fields number bytes)
bytes_piece levels kind number [] is_number is short = record { stands = nothing_stands levels kind; numbered = tt }
bytes_piece levels kind number (b ∷ bytes) is_number is short = payload_piece levels kind number Other (b ∷ bytes) is_number is tt (short_text number (b ∷ bytes) short)

pub bytes_back : (number : ℕ) (bytes : List ℕ) → unwrap_or (last_payload number (text_fields number bytes)) [] ≡ bytes
unfolding last_some
bytes_back number [] = refl
bytes_back number (b ∷ bytes) = ap (λ (p : Option (List ℕ)). unwrap_or p []) (optional_payload_back number (Some (b ∷ bytes)))

-- written wherever they are there
pub optional_bytes_piece : (levels : ℕ) (kind : MessageKind) (number : ℕ) (bytes : Option (List ℕ)) → IsNumber number → payload_of kind number ≡ Other → IsShort (optional_payload_fields number bytes) →
    Piece levels kind number (optional_payload_fields number bytes)
optional_bytes_piece levels kind number None is_number is short = record { stands = nothing_stands levels kind; numbered = tt }
optional_bytes_piece levels kind number (Some bytes) is_number is short = payload_piece levels kind number Other bytes is_number is tt (short_payload number bytes short)

-- ---- numbers and flags

pub int32_read : (number : ℕ) (whole : List Field) (value : ℤ) → ReadsAs number whole (int_fields number value) → FitsSigned w32 value → int32_field number whole ≡ value
int32_read number whole value reads fits = ap (λ (n : Option ℕ). unwrap_or (option_map int32_of n) (pos 0)) reads.number_is ∙ int32_back number value fits

pub int64_read : (number : ℕ) (whole : List Field) (value : ℤ) → ReadsAs number whole (int_fields number value) → FitsSigned w64 value → int64_field number whole ≡ value
int64_read number whole value reads fits = ap (λ (n : Option ℕ). unwrap_or (option_map int64_of n) (pos 0)) reads.number_is ∙ int64_back number value fits

pub optional_int32_read : (number : ℕ) (whole : List Field) (value : Option ℤ) → ReadsAs number whole (optional_int_fields number value) → IfSome value (FitsSigned w32) → optional_int32 number whole ≡ value
optional_int32_read number whole value reads fits = ap (option_map int32_of) reads.number_is ∙ optional_int32_back number value fits

pub optional_int64_read : (number : ℕ) (whole : List Field) (value : Option ℤ) → ReadsAs number whole (optional_int_fields number value) → IfSome value (FitsSigned w64) → optional_int64 number whole ≡ value
optional_int64_read number whole value reads fits = ap (option_map int64_of) reads.number_is ∙ optional_int64_back number value fits

pub optional_bool_piece : (levels : ℕ) (kind : MessageKind) (number : ℕ) (value : Option Bool) → IsNumber number → Piece levels kind number (optional_bool_fields number value)
optional_bool_piece levels kind number None is_number = record { stands = nothing_stands levels kind; numbered = tt }
optional_bool_piece levels kind number (Some value) is_number = bit_piece levels kind number value is_number

pub optional_bool_read : (number : ℕ) (whole : List Field) (value : Option Bool) → ReadsAs number whole (optional_bool_fields number value) → optional_bool number whole ≡ value
optional_bool_read number whole value reads = ap (option_map bool_of) reads.number_is ∙ optional_bool_back number value

-- ---- nothing

pub no_payloads : (number : ℕ) → payloads number [] ≡ []
unfolding payloads
no_payloads number = refl
