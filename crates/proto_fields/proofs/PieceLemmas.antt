-- The fields that scalars, optional scalars and payloads are written as: what is read among them, that they have a spelling, how long it
-- is, and that a number is sound.
use Rattle.std.proofs.Common.{◌≡◌, ◌≢◌, ℕ, ℤ, ◌+◌, ◌*◌, ◌<◌, ◌≤◌, ◌^◌, ◌==◌, Bool, true, false, List, [], ◌∷◌, ◌++◌, length, refl, ap, arith, length-append}
use Rattle.std.specs.Prelude.{Option, Some, None, IfSome, FitsSigned, if◌then◌else◌}
use Rattle.std.specs.Int.{w32, w64}
use Rattle.std.specs.List.{AllByRecursion}
use Rattle.std.proofs.lemmas.Int.{ints}
use Rattle.proto_wire.specs.Varint.{varint}
use Rattle.proto_wire.proofs.VarintLaws.{length-varint}
use Rattle.proto_fields.specs.declared.kind.MessageKind.{MessageKind}
use Rattle.proto_fields.specs.Fields.{Field}
use Rattle.proto_fields.specs.Faults.{IsSoundField}
use Rattle.proto_fields.specs.Readings.{number_in, last_number}
use Rattle.proto_fields.specs.Spelling.{spell, IsWritable, number_fields, payload_fields, int_fields, optional_int_fields, bits_of}
use Rattle.proto_fields.proofs.ReadingLemmas.{option_or-none}
use Rattle.proto_fields.proofs.ReturnLemmas.{last_some-append, last_number-others}
use Rattle.proto_fields.proofs.SpellPieces.{spell-payload}

pub AllByRecursion-append : {X : Type 0} (P : X → Type 0) (xs ys : List X) → AllByRecursion P xs → AllByRecursion P ys → AllByRecursion P (xs ++ ys)
AllByRecursion-append P [] ys first last = last
AllByRecursion-append P (x ∷ xs) ys first last = (first.0, AllByRecursion-append P xs ys first.1 last)

-- ---- what is read among fields of other numbers

-- none of the fields has this number
abbrev pub AreOthers : ℕ → List Field → Type 0
AreOthers number fields = AllByRecursion (λ field. field.number ≢ number) fields

pub last_number-front : (number : ℕ) (front back : List Field) → AreOthers number back → last_number number (front ++ back) ≡ last_number number front
last_number-front number front back others = rw (last_some-append (number_in number) front back) (rw (last_number-others number back others) refl)

pub last_number-back : (number : ℕ) (front back : List Field) → AreOthers number front → last_number number (front ++ back) ≡ last_number number back
last_number-back number front back others =
    rw (last_some-append (number_in number) front back) (rw (last_number-others number front others) (option_or-none (last_number number back)))

scalar_others : (number other : ℕ) (value : ℤ) (is_zero : Bool) → other ≢ number → AreOthers number (if is_zero then [] else number_fields other (bits_of value))
scalar_others number other value true different = tt
scalar_others number other value false different = (different, tt)

pub int_others : (number other : ℕ) (value : ℤ) → other ≢ number → AreOthers number (int_fields other value)
int_others number other value different = scalar_others number other value (bits_of value == 0) different

pub optional_int_others : (number other : ℕ) (value : Option ℤ) → other ≢ number → AreOthers number (optional_int_fields other value)
optional_int_others number other None different = tt
optional_int_others number other (Some value) different = (different, tt)

-- ---- what has a spelling

bits_of-below : (value : ℤ) → FitsSigned w64 value → bits_of value < 2 ^ 64
bits_of-below value fits = omega (arith, ints)

number_writable : (number : ℕ) (value : ℤ) → 1 ≤ number → number ≤ 536870911 → FitsSigned w64 value → AllByRecursion IsWritable (number_fields number (bits_of value))
number_writable number value low high fits = (record { low = low; high = high; content = bits_of-below value fits }, tt)

pub payload_writable : (number : ℕ) (payload : List ℕ) → 1 ≤ number → number ≤ 536870911 → length payload < 2 ^ 64 → AllByRecursion IsWritable (payload_fields number payload)
payload_writable number payload low high fits = (record { low = low; high = high; content = fits }, tt)

scalar_writable : (number : ℕ) (value : ℤ) (is_zero : Bool) → 1 ≤ number → number ≤ 536870911 → FitsSigned w64 value → AllByRecursion IsWritable (if is_zero then [] else number_fields number (bits_of value))
scalar_writable number value true low high fits = tt
scalar_writable number value false low high fits = number_writable number value low high fits

pub int_writable : (number : ℕ) (value : ℤ) → 1 ≤ number → number ≤ 536870911 → FitsSigned w64 value → AllByRecursion IsWritable (int_fields number value)
int_writable number value low high fits = scalar_writable number value (bits_of value == 0) low high fits

pub optional_int_writable : (number : ℕ) (value : Option ℤ) → 1 ≤ number → number ≤ 536870911 → IfSome value (FitsSigned w64) → AllByRecursion IsWritable (optional_int_fields number value)
optional_int_writable number None low high fits = tt
optional_int_writable number (Some value) low high fits = number_writable number value low high fits

pub IfSome-w64 : (value : Option ℤ) → IfSome value (FitsSigned w32) → IfSome value (FitsSigned w64)
IfSome-w64 None fits = tt
IfSome-w64 (Some value) fits = omega (arith, fits)

-- ---- numbers are sound

scalar_sound : (IsSoundInner : MessageKind → List ℕ → Type 0) (kind : MessageKind) (number : ℕ) (value : ℤ) (is_zero : Bool) → AllByRecursion (IsSoundField IsSoundInner kind) (if is_zero then [] else number_fields number (bits_of value))
scalar_sound IsSoundInner kind number value true = tt
scalar_sound IsSoundInner kind number value false = (tt, tt)

pub int_sound : (IsSoundInner : MessageKind → List ℕ → Type 0) (kind : MessageKind) (number : ℕ) (value : ℤ) → AllByRecursion (IsSoundField IsSoundInner kind) (int_fields number value)
int_sound IsSoundInner kind number value = scalar_sound IsSoundInner kind number value (bits_of value == 0)

pub optional_int_sound : (IsSoundInner : MessageKind → List ℕ → Type 0) (kind : MessageKind) (number : ℕ) (value : Option ℤ) → AllByRecursion (IsSoundField IsSoundInner kind) (optional_int_fields number value)
optional_int_sound IsSoundInner kind number None = tt
optional_int_sound IsSoundInner kind number (Some value) = (tt, tt)

-- ---- how long a spelling is

number_length : (number : ℕ) (value : ℤ) → number ≤ 536870911 → FitsSigned w64 value → length (spell (number_fields number (bits_of value))) ≤ 20
unfolding spell
number_length number value high fits =
    let tag = varint (number * 8) in
    let bits = varint (bits_of value) in
    omega (arith, length-append (tag ++ bits) [], length-append tag bits, length-varint (number * 8) (omega arith), length-varint (bits_of value) (bits_of-below value fits))

scalar_length : (number : ℕ) (value : ℤ) (is_zero : Bool) → number ≤ 536870911 → FitsSigned w64 value → length (spell (if is_zero then [] else number_fields number (bits_of value))) ≤ 20
unfolding spell
scalar_length number value true high fits = omega arith
scalar_length number value false high fits = number_length number value high fits

pub int_length : (number : ℕ) (value : ℤ) → number ≤ 536870911 → FitsSigned w64 value → length (spell (int_fields number value)) ≤ 20
int_length number value high fits = scalar_length number value (bits_of value == 0) high fits

pub optional_int_length : (number : ℕ) (value : Option ℤ) → number ≤ 536870911 → IfSome value (FitsSigned w64) → length (spell (optional_int_fields number value)) ≤ 20
unfolding spell
optional_int_length number None high fits = omega arith
optional_int_length number (Some value) high fits = number_length number value high fits

pub payload_length : (number : ℕ) (payload : List ℕ) → number ≤ 536870911 → length payload < 2 ^ 64 → length (spell (payload_fields number payload)) ≤ 20 + length payload
payload_length number payload high fits =
    let tag = varint (number * 8 + 2) in
    let size = varint (length payload) in
    let whole = ap (length {A = ℕ}) (spell-payload number payload) in
    omega (arith, whole, length-append (tag ++ size) payload, length-append tag size, length-varint (number * 8 + 2) (omega arith), length-varint (length payload) fits)
