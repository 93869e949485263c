-- What a value is written as is read as the value, among fields of other numbers too.
use Rattle.std.proofs.Common.{◌≡◌, ◌≢◌, ℕ, ℤ, ◌==◌, Bool, true, false, cond, List, [], ◌∷◌, ◌++◌, Option, None, Some, IfSome, refl, sym, ap, ◌∙◌}
use Rattle.std.specs.Prelude.{option_map, unwrap_or, FitsSigned, IsUtf8}
use Rattle.std.specs.Int.{w32, w64}
use Rattle.std.specs.Option.{option_or}
use Rattle.std.specs.List.{AllByRecursion}
use Rattle.std.proofs.lemmas.Bool.{eq-eqb, eqb-true}
use Rattle.std.proofs.lemmas.List.{append-nil}
use Rattle.std.proofs.lemmas.List.Elements.{filter_map-append}
use Rattle.std.proofs.lemmas.Str.{utf8_lossy-IsUtf8}
use Rattle.proto_fields.specs.Fields.{Field, fields_of}
use Rattle.proto_fields.specs.Readings.{number_in, payload_in, last_some, last_number, int32_of, int64_of, bool_of, int32_field, int64_field, bool_field, optional_int32, optional_int64, optional_bool, payloads, last_payload, text_field, optional_text, merged}
use Rattle.proto_fields.specs.Spelling.{spell, IsWritable, number_fields, payload_fields, scalar_fields, optional_scalar_fields, text_fields, optional_payload_fields, bits_of, bit_of, int_fields, optional_int_fields, bool_fields, optional_bool_fields}
use Rattle.proto_fields.proofs.ReadingLemmas.{option_or-assoc, option_or-none}
use Rattle.proto_fields.proofs.ScalarLemmas.{int32_returns, int64_returns, bool_returns}
use Rattle.proto_fields.proofs.SpellLemmas.{spelled_message}

-- ---- two lists of fields

pub last_some-append : {A B : Type 0} (read : A → Option B) (xs ys : List A) → last_some read (xs ++ ys) ≡ option_or (last_some read ys) (last_some read xs)
unfolding last_some
last_some-append read [] ys = sym (option_or-none (last_some read ys))
last_some-append read (x ∷ xs) ys =
    rw (last_some-append read xs ys) (option_or-assoc (last_some read ys) (last_some read xs) (read x))

pub payloads-append : (number : ℕ) (xs ys : List Field) → payloads number (xs ++ ys) ≡ payloads number xs ++ payloads number ys
unfolding payloads
payloads-append number xs ys = filter_map-append (payload_in number) xs ys

-- ---- fields of other numbers

eqb-false : (test : Bool) (P : Type 0) → (test ≡ true → ⊥) → test ≡ false
eqb-false true P refuted = absurd (refuted refl)
eqb-false false P refuted = refl

other_number : (number : ℕ) (field : Field) → field.number ≢ number → number_in number field ≡ None
other_number number field other =
    let fails = eqb-false (field.number == number) ⊥ (λ e. other (eqb-true field.number number e)) in rw fails refl

other_payload : (number : ℕ) (field : Field) → field.number ≢ number → payload_in number field ≡ None
other_payload number field other =
    let fails = eqb-false (field.number == number) ⊥ (λ e. other (eqb-true field.number number e)) in rw fails refl

pub last_number-others : (number : ℕ) (fields : List Field) → AllByRecursion (λ field. field.number ≢ number) fields → last_number number fields ≡ None
unfolding last_some
last_number-others number [] others = refl
last_number-others number (field ∷ fields) others = rw (last_number-others number fields others.1) (other_number number field others.0)

pub last_payload-others : (number : ℕ) (fields : List Field) → AllByRecursion (λ field. field.number ≢ number) fields → last_payload number fields ≡ None
unfolding last_some
last_payload-others number [] others = refl
last_payload-others number (field ∷ fields) others = rw (last_payload-others number fields others.1) (other_payload number field others.0)

pub payloads-others : (number : ℕ) (fields : List Field) → AllByRecursion (λ field. field.number ≢ number) fields → payloads number fields ≡ []
unfolding payloads
payloads-others number [] others = refl
payloads-others number (field ∷ fields) others = rw (other_payload number field others.0) (payloads-others number fields others.1)

-- ---- one field

number_back : (number value : ℕ) → last_number number (number_fields number value) ≡ Some value
unfolding last_some
number_back number value = rw (eq-eqb number number refl) refl

payload_back : (number : ℕ) (bytes : List ℕ) → last_payload number (payload_fields number bytes) ≡ Some bytes
unfolding last_some
payload_back number bytes = rw (eq-eqb number number refl) refl

payloads_back : (number : ℕ) (bytes : List ℕ) → payloads number (payload_fields number bytes) ≡ bytes ∷ []
unfolding payloads
payloads_back number bytes = rw (eq-eqb number number refl) refl

nothing_back : {A : Type 0} (read : Field → Option A) → last_some read [] ≡ None
unfolding last_some
nothing_back read = refl

scalar_by : {A : Type 0} (f : ℕ → A) (number value : ℕ) (test : Bool) → value == 0 ≡ test → unwrap_or (option_map f (last_number number (cond test [] (number_fields number value)))) (f 0) ≡ f value
scalar_by f number value true e = rw (nothing_back (number_in number)) (ap f (sym (eqb-true value 0 e)))
scalar_by f number value false e = rw (number_back number value) refl

-- a scalar, whichever way it is read
scalar_back : {A : Type 0} (f : ℕ → A) (number value : ℕ) → unwrap_or (option_map f (last_number number (scalar_fields number value))) (f 0) ≡ f value
scalar_back f number value = scalar_by f number value (value == 0) refl

optional_back : {A : Type 0} (f : ℕ → A) (bits : A → ℕ) (P : A → Type 0) → ((x : A) → P x → f (bits x) ≡ x) → (number : ℕ) (value : Option A) → IfSome value P →
    option_map f (last_number number (optional_scalar_fields number (option_map bits value))) ≡ value
optional_back f bits P returns number None fits = rw (nothing_back (number_in number)) refl
optional_back {A = A} f bits P returns number (Some x) fits = rw (number_back number (bits x)) (ap (λ (y : A). Some y) (returns x fits))

pub int32_back : (number : ℕ) (value : ℤ) → FitsSigned w32 value → int32_field number (int_fields number value) ≡ value
int32_back number value fits = scalar_back int32_of number (bits_of value) ∙ int32_returns value fits

pub int64_back : (number : ℕ) (value : ℤ) → FitsSigned w64 value → int64_field number (int_fields number value) ≡ value
int64_back number value fits = scalar_back int64_of number (bits_of value) ∙ int64_returns value fits

pub bool_back : (number : ℕ) (value : Bool) → bool_field number (bool_fields number value) ≡ value
bool_back number value = scalar_back bool_of number (bit_of value) ∙ bool_returns value

pub optional_int32_back : (number : ℕ) (value : Option ℤ) → IfSome value (FitsSigned w32) → optional_int32 number (optional_int_fields number value) ≡ value
optional_int32_back number value fits = optional_back int32_of bits_of (FitsSigned w32) int32_returns number value fits

pub optional_int64_back : (number : ℕ) (value : Option ℤ) → IfSome value (FitsSigned w64) → optional_int64 number (optional_int_fields number value) ≡ value
optional_int64_back number value fits = optional_back int64_of bits_of (FitsSigned w64) int64_returns number value fits

pub optional_bool_back : (number : ℕ) (value : Option Bool) → optional_bool number (optional_bool_fields number value) ≡ value
optional_bool_back number None = optional_back bool_of bit_of (λ _. Unit {0}) (λ x _. bool_returns x) number None tt
optional_bool_back number (Some x) = optional_back bool_of bit_of (λ _. Unit {0}) (λ x _. bool_returns x) number (Some x) tt

pub text_back : (number : ℕ) (text : List ℕ) → IsUtf8 text → text_field number (text_fields number text) ≡ text
text_back number [] is = rw (nothing_back (payload_in number)) refl
text_back number (b ∷ bytes) is = rw (payload_back number (b ∷ bytes)) (utf8_lossy-IsUtf8 (b ∷ bytes) is)

pub optional_payload_back : (number : ℕ) (bytes : Option (List ℕ)) → last_payload number (optional_payload_fields number bytes) ≡ bytes
optional_payload_back number None = nothing_back (payload_in number)
optional_payload_back number (Some bytes) = payload_back number bytes

pub optional_text_back : (number : ℕ) (text : Option (List ℕ)) → IfSome text IsUtf8 → optional_text number (optional_payload_fields number text) ≡ text
optional_text_back number None is = rw (nothing_back (payload_in number)) refl
optional_text_back number (Some bytes) is = rw (payload_back number bytes) (ap (λ (t : List ℕ). Some t) (utf8_lossy-IsUtf8 bytes is))

pub message_back : (number : ℕ) (fields : List Field) → AllByRecursion IsWritable fields → merged number (payload_fields number (spell fields)) ≡ Some fields
message_back number fields writable =
    rw (payloads_back number (spell fields)) (ap (λ (fs : List Field). Some fs) (append-nil (fields_of (spell fields)) ∙ (spelled_message fields writable).1))
