-- Texts of sound messages are read as they stand, and what is read is valid whatever the fields are.
use Rattle.std.proofs.Common.{◌≡◌, ◌≢◌, ◌⊎◌, inl, inr, ℕ, zero, suc, ◌+◌, ◌<◌, ◌≤◌, ◌==◌, Bool, true, false, List, [], ◌∷◌, ◌++◌, length, take, drop, map, Option, None, Some, refl, sym, ap, ◌∙◌, subst, arith, ℤ, pos, ◌%◌, ◌^◌, lit<}
use Rattle.std.specs.Prelude.{IsUtf8, IfSome, FitsSigned, if◌then◌else◌, option_map, unwrap_or, nat_lt, slice_index}
use Rattle.std.specs.Int.{w32, w64, is_in_range}
use Rattle.std.specs.Option.{option_or}
use Rattle.std.specs.List.{AllByRecursion, cons_option}
use Rattle.std.specs.Str.{is_utf8}
use lib.Utf8.{encode}
use Rattle.std.specs.Str.Lossy.{utf8_lossy, utf8_valid_len, valid_len_up_to, utf8_error_len, error_len_of_some, error_len_after_one, error_len_after_two, second_byte_min, second_byte_max, utf8_invalid_len, after_first_chunk, replacement_bytes}
use Rattle.std.proofs.lemmas.Bool.{eqb-true, eqb-false}
use Rattle.std.proofs.lemmas.Str.{IsUtf8-nil, IsUtf8-append, IsUtf8-from_is_utf8, utf8_lossy-IsUtf8, utf8_lossy_empty, utf8_lossy_step, utf8_valid_len_le}
use Rattle.std.proofs.lemmas.Bool.Decides.{eqb_tells}
use Rattle.std.proofs.Math.Dec.{eqb-suc-zero}
use Rattle.std.proofs.lemmas.List.{length-drop, take_all}
use Rattle.std.proofs.lemmas.Int.{ints}
use Rattle.std.proofs.Math.Facts.{sfits_to_z, sfits_lit, Fits-of_lt}
use Rattle.proto_fields.specs.declared.kind.MessageKind.{MessageKind}
use Rattle.proto_fields.specs.declared.kind.PayloadKind.{PayloadKind}
use Rattle.proto_fields.specs.declared.kind.PayloadKind.TheVariants.{Text}
use Rattle.proto_fields.specs.Fields.{Content, Number, Eight, Payload, Four, Field}
use Rattle.proto_fields.specs.Kinds.{payload_of}
use Rattle.proto_fields.specs.Readings.{last_some, payload_of_content, payload_in, last_payload, payloads, last_number, int32_of, int64_of, int32_field, int64_field, optional_int32, optional_int64, text_field, optional_text, texts}
use Rattle.proto_fields.specs.Faults.{IsSoundPayload, IsSoundContent, IsSoundField, IsSound}
use Rattle.proto_fields.specs.Texts.{AreSoundFields, KeepsText, KeepsOptionalText, KeepsTexts}

-- ---- payloads of texts in sound messages

content_text : (levels : ℕ) (kind : PayloadKind) (content : Content) → kind ≡ Text → IsSoundContent (IsSound levels) kind content → IfSome (payload_of_content content) IsUtf8
content_text levels kind (Number value) is sound = tt
content_text levels kind (Eight value) is sound = tt
content_text levels kind (Payload payload) is sound = subst (λ (k : PayloadKind). IsSoundPayload (IsSound levels) k payload) is sound
content_text levels kind (Four value) is sound = tt

tested : (test : Bool) (found : Option (List ℕ)) → (test ≡ true → IfSome found IsUtf8) → IfSome (if test then found else None) IsUtf8
tested true found holds = holds refl
tested false found holds = tt

-- the payload of one field
field_text : (levels : ℕ) (kind : MessageKind) (number : ℕ) → payload_of kind number ≡ Text → (field : Field) → IsSoundField (IsSound levels) kind field → IfSome (payload_in number field) IsUtf8
field_text levels kind number is field sound =
    tested (field.number == number) (payload_of_content field.content)
    (λ same. content_text levels (payload_of kind field.number) field.content (ap (payload_of kind) (eqb-true field.number number same) ∙ is) sound)

or_text : (first second : Option (List ℕ)) → IfSome first IsUtf8 → IfSome second IsUtf8 → IfSome (option_or first second) IsUtf8
or_text None second a b = b
or_text (Some text) second a b = a

last_text : (levels : ℕ) (kind : MessageKind) (number : ℕ) → payload_of kind number ≡ Text → (fields : List Field) → AreSoundFields levels kind fields → IfSome (last_payload number fields) IsUtf8
unfolding last_some
last_text levels kind number is [] sound = tt
last_text levels kind number is (field ∷ fields) sound =
    or_text (last_payload number fields) (payload_in number field) (last_text levels kind number is fields sound.1) (field_text levels kind number is field sound.0)

put_text : (found : Option (List ℕ)) (texts : List (List ℕ)) → IfSome found IsUtf8 → AllByRecursion IsUtf8 texts → AllByRecursion IsUtf8 (cons_option found texts)
put_text None texts first all = all
put_text (Some text) texts first all = (first, all)

all_texts : (levels : ℕ) (kind : MessageKind) (number : ℕ) → payload_of kind number ≡ Text → (fields : List Field) → AreSoundFields levels kind fields → AllByRecursion IsUtf8 (payloads number fields)
unfolding payloads
all_texts levels kind number is [] sound = tt
all_texts levels kind number is (field ∷ fields) sound =
    put_text (payload_in number field) (payloads number fields) (field_text levels kind number is field sound.0) (all_texts levels kind number is fields sound.1)

-- ---- and they stand as they are

kept_some : (found : Option (List ℕ)) → IfSome found IsUtf8 → option_map utf8_lossy found ≡ found
kept_some None valid = refl
kept_some (Some text) valid = ap (λ (t : List ℕ). Some t) (utf8_lossy-IsUtf8 text valid)

kept_all : (found : List (List ℕ)) → AllByRecursion IsUtf8 found → map utf8_lossy found ≡ found
kept_all [] valid = refl
kept_all (text ∷ texts) valid = rw (utf8_lossy-IsUtf8 text valid.0, kept_all texts valid.1) refl

pub keeps_optional_text : (kind : MessageKind) (number : ℕ) → payload_of kind number ≡ Text → KeepsOptionalText kind number (optional_text number)
keeps_optional_text kind number is levels fields sound = kept_some (last_payload number fields) (last_text levels kind number is fields sound)

pub keeps_text : (kind : MessageKind) (number : ℕ) → payload_of kind number ≡ Text → KeepsText kind number (text_field number)
keeps_text kind number is levels fields sound =
    ap (λ (o : Option (List ℕ)). unwrap_or o []) (keeps_optional_text kind number is levels fields sound)

pub keeps_texts : (kind : MessageKind) (number : ℕ) → payload_of kind number ≡ Text → KeepsTexts kind number (texts number)
keeps_texts kind number is levels fields sound = kept_all (payloads number fields) (all_texts levels kind number is fields sound)

-- ---- what is made of bytes that are no UTF-8 is UTF-8

nil_of : (bytes : List ℕ) → length bytes ≡ 0 → bytes ≡ []
nil_of [] none = refl
nil_of (b ∷ bytes) none = absurd (omega arith)

valid_up_to : (bytes : List ℕ) (count : ℕ) → IsUtf8 (take (valid_len_up_to bytes count) bytes)
valid_up_to bytes zero = IsUtf8-nil
valid_up_to bytes (suc count) = by (is_utf8 (take (suc count) bytes)) refl (valid_up_to bytes count)
  where
    by : (test : Bool) → is_utf8 (take (suc count) bytes) ≡ test → IsUtf8 (take (valid_len_up_to bytes count) bytes) →
        IsUtf8 (take (if test then suc count else valid_len_up_to bytes count) bytes)
    by true is before = IsUtf8-from_is_utf8 (take (suc count) bytes) is
    by false is before = before

valid_front : (bytes : List ℕ) → IsUtf8 (take (utf8_valid_len bytes) bytes)
unfolding utf8_valid_len
valid_front bytes = valid_up_to bytes (length bytes)

replacement_valid : IsUtf8 replacement_bytes
unfolding encode
replacement_valid = (65533 ∷ [], (refl, refl))

-- what is replaced has a byte at least
abbrev Passes : ℕ → Option ℕ → Type 0
Passes count found = 0 < unwrap_or found count

either : (count : ℕ) (test : Bool) (first second : Option ℕ) → Passes count first → Passes count second → Passes count (if test then first else second)
either count true first second a b = a
either count false first second a b = b

after_two_passes : (count : ℕ) → 0 < count → (bytes : List ℕ) → Passes count (error_len_after_two bytes)
after_two_passes count some bytes =
    let third = is_in_range 0x80 0xBF (slice_index bytes 2) in
    let fourth : Option ℕ = if nat_lt (length bytes) 4 then None else Some 3 in
    let inner : Option ℕ = if third then fourth else Some 2 in
    either count (nat_lt (length bytes) 3) None inner some
    (either count third fourth (Some 2) (either count (nat_lt (length bytes) 4) None (Some 3) some (lit< tt)) (lit< tt))

after_one_passes : (count : ℕ) → 0 < count → (bytes : List ℕ) → Passes count (error_len_after_one bytes)
after_one_passes count some bytes =
    let first = slice_index bytes 0 in
    let second = is_in_range (second_byte_min first) (second_byte_max first) (slice_index bytes 1) in
    let inner : Option ℕ = if second then error_len_after_two bytes else Some 1 in
    either count (nat_lt (length bytes) 2) None inner some
    (either count second (error_len_after_two bytes) (Some 1) (after_two_passes count some bytes) (lit< tt))

error_len_passes : (count : ℕ) → 0 < count → (bytes : List ℕ) → Passes count (error_len_of_some bytes)
error_len_passes count some bytes =
    either count (is_in_range 0xC2 0xF4 (slice_index bytes 0)) (error_len_after_one bytes) (Some 1) (after_one_passes count some bytes) (lit< tt)

error_len_some : (bytes : List ℕ) → 0 < length bytes → utf8_error_len bytes ≡ error_len_of_some bytes
unfolding utf8_error_len
error_len_some [] some = absurd (omega arith)
error_len_some (b ∷ bytes) some = rw (eqb-suc-zero (length bytes)) refl

invalid_some : (bytes : List ℕ) → 0 < length bytes → 0 < utf8_invalid_len bytes
invalid_some bytes some = subst (Passes (length bytes)) (sym (error_len_some bytes some)) (error_len_passes (length bytes) some bytes)

less_by : (m n : ℕ) → m ≤ n → (m ≡ n → ⊥) → m < n
less_by m n upper apart = by (eqb_tells m n)
  where
    by : ((m == n ≡ true) × (m ≡ n)) ⊎ ((m == n ≡ false) × (m ≢ n)) → m < n
    by (inl same) = absurd (apart same.1)
    by (inr differs) = let h = differs.1 in omega arith

-- with so many bytes at most
lossy_valid_to : (most : ℕ) (bytes : List ℕ) → length bytes ≤ most → IsUtf8 (utf8_lossy bytes)
lossy_valid_to zero bytes few = subst IsUtf8 (sym (utf8_lossy_empty bytes (omega arith))) IsUtf8-nil
lossy_valid_to (suc most) bytes few = by (utf8_valid_len bytes == length bytes) refl (lossy_valid_to most)
  where
    by : (test : Bool) → utf8_valid_len bytes == length bytes ≡ test → ((left : List ℕ) → length left ≤ most → IsUtf8 (utf8_lossy left)) → IsUtf8 (utf8_lossy bytes)
    by true is shorter =
        let all : utf8_valid_len bytes ≡ length bytes = eqb-true (utf8_valid_len bytes) (length bytes) is in
        let whole : IsUtf8 bytes = subst IsUtf8 (take_all (utf8_valid_len bytes) bytes (omega (arith, all))) (valid_front bytes) in
        subst IsUtf8 (sym (utf8_lossy-IsUtf8 bytes whole)) whole
    by false is shorter =
        let apart = eqb-false (utf8_valid_len bytes) (length bytes) is in
        let upper = utf8_valid_len_le bytes in
        let left = length-drop (utf8_valid_len bytes) bytes in
        let less : utf8_valid_len bytes < length bytes = less_by (utf8_valid_len bytes) (length bytes) upper apart in
        let some = invalid_some (drop (utf8_valid_len bytes) bytes) (omega (arith, left)) in
        let after : length (after_first_chunk bytes) ≤ most = omega (arith, some, length-drop (utf8_valid_len bytes + utf8_invalid_len (drop (utf8_valid_len bytes) bytes)) bytes) in
        subst IsUtf8 (sym (utf8_lossy_step bytes apart))
        (IsUtf8-append (take (utf8_valid_len bytes) bytes) (replacement_bytes ++ utf8_lossy (after_first_chunk bytes)) (valid_front bytes)
        (IsUtf8-append replacement_bytes (utf8_lossy (after_first_chunk bytes)) replacement_valid (shorter (after_first_chunk bytes) after)))

pub lossy_valid : (bytes : List ℕ) → IsUtf8 (utf8_lossy bytes)
lossy_valid bytes = lossy_valid_to (length bytes) bytes (omega arith)

-- ---- texts, whatever fields they are read of

some_valid : (found : Option (List ℕ)) → IfSome (option_map utf8_lossy found) IsUtf8
some_valid None = tt
some_valid (Some bytes) = lossy_valid bytes

or_empty_valid : (found : Option (List ℕ)) → IfSome found IsUtf8 → IsUtf8 (unwrap_or found [])
or_empty_valid None valid = IsUtf8-nil
or_empty_valid (Some text) valid = valid

all_valid : (found : List (List ℕ)) → AllByRecursion IsUtf8 (map utf8_lossy found)
all_valid [] = tt
all_valid (bytes ∷ found) = (lossy_valid bytes, all_valid found)

pub optional_text_valid : (number : ℕ) (fields : List Field) → IfSome (optional_text number fields) IsUtf8
optional_text_valid number fields = some_valid (last_payload number fields)

pub text_valid : (number : ℕ) (fields : List Field) → IsUtf8 (text_field number fields)
text_valid number fields = or_empty_valid (optional_text number fields) (optional_text_valid number fields)

pub texts_valid : (number : ℕ) (fields : List Field) → AllByRecursion IsUtf8 (texts number fields)
texts_valid number fields = all_valid (payloads number fields)

-- ---- numbers, whatever fields they are read of

pub int32_valid_of : (value : ℕ) → FitsSigned w32 (int32_of value)
int32_valid_of value = let low : value % 2 ^ 32 < 2 ^ 32 = omega arith in sfits_to_z (Fits-of_lt low)

pub int64_valid_of : (value : ℕ) → FitsSigned w64 (int64_of value)
int64_valid_of value = omega (arith, ints)

some_int32 : (found : Option ℕ) → IfSome (option_map int32_of found) (FitsSigned w32)
some_int32 None = tt
some_int32 (Some value) = int32_valid_of value

some_int64 : (found : Option ℕ) → IfSome (option_map int64_of found) (FitsSigned w64)
some_int64 None = tt
some_int64 (Some value) = int64_valid_of value

or_zero32 : (found : Option ℤ) → IfSome found (FitsSigned w32) → FitsSigned w32 (unwrap_or found (pos 0))
or_zero32 None valid = sfits_lit tt
or_zero32 (Some value) valid = valid

or_zero64 : (found : Option ℤ) → IfSome found (FitsSigned w64) → FitsSigned w64 (unwrap_or found (pos 0))
or_zero64 None valid = sfits_lit tt
or_zero64 (Some value) valid = valid

pub optional_int32_valid : (number : ℕ) (fields : List Field) → IfSome (optional_int32 number fields) (FitsSigned w32)
optional_int32_valid number fields = some_int32 (last_number number fields)

pub optional_int64_valid : (number : ℕ) (fields : List Field) → IfSome (optional_int64 number fields) (FitsSigned w64)
optional_int64_valid number fields = some_int64 (last_number number fields)

pub int32_valid : (number : ℕ) (fields : List Field) → FitsSigned w32 (int32_field number fields)
int32_valid number fields = or_zero32 (optional_int32 number fields) (optional_int32_valid number fields)

pub int64_valid : (number : ℕ) (fields : List Field) → FitsSigned w64 (int64_field number fields)
int64_valid number fields = or_zero64 (optional_int64 number fields) (optional_int64_valid number fields)
