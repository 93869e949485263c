-- Sizes of fields: of few bytes, of fields one after another, and of a payload by its head and itself.
use Rattle.std.proofs.Common.{◌≡◌, ℕ, ◌+◌, ◌<◌, ◌≤◌, ◌⊎◌, inl, inr, List, ◌++◌, length, sym, ap, ◌∙◌, subst}
use Rattle.std.proofs.lemmas.Bool.{cases_lt}
use Rattle.std.specs.Prelude.{min}
use Rattle.std.proofs.lemmas.List.{length-append}
use Rattle.proto_wire.specs.Records.{span_head}
use Rattle.proto_fields.specs.Fields.{Field}
use Rattle.proto_fields.specs.Spelling.{spell, payload_fields}
use Rattle.proto_fields.specs.Sizes.{most, size_of}
use Rattle.proto_fields.proofs.SpellPieces.{spell-append, spell-payload}
use native.Mathlib.Omega.{arith}

-- numbers that are added up to a last one
min-sum : (a b m : ℕ) → min (a + b) m ≡ min (min a m + min b m) m
min-sum a b m = omega arith

-- the size of fields one after another
pub size_of-append : (fields others : List Field) → size_of (fields ++ others) ≡ min (size_of fields + size_of others) most
unfolding size_of
size_of-append fields others =
    ap (λ (bytes : List ℕ). min (length bytes) most) (spell-append fields others)
    ∙ ap (λ (n : ℕ). min n most) (length-append (spell fields) (spell others))
    ∙ min-sum (length (spell fields)) (length (spell others)) most

few_least : (n m : ℕ) → n ≤ 20 → 20 ≤ m → n ≡ min n m
few_least n m few many = omega (arith, few, many)

twenty : 20 ≤ most
twenty = omega arith

-- few bytes are told exactly
pub size_of_few : (fields : List Field) (n : ℕ) → n ≡ length (spell fields) → n ≤ 20 → n ≡ size_of fields
unfolding size_of
size_of_few fields n same few = same ∙ few_least (length (spell fields)) most (subst (λ (k : ℕ). k ≤ 20) same few) twenty

-- the head of a payload and the payload
pub size_of-payload : (number : ℕ) (payload : List ℕ) → size_of (payload_fields number payload) ≡ min (length (span_head number (length payload)) + length payload) most
unfolding size_of
size_of-payload number payload =
    ap (λ (bytes : List ℕ). min (length bytes) most) (spell-payload number payload)
    ∙ ap (λ (n : ℕ). min n most) (length-append (span_head number (length payload)) payload)

-- the same by the payload's length
pub payload_sized : (number bytes : ℕ) (payload : List ℕ) → length payload ≡ bytes → min (length (span_head number bytes) + bytes) most ≡ size_of (payload_fields number payload)
payload_sized number bytes payload same =
    ap (λ (n : ℕ). min (length (span_head number n) + n) most) (sym same) ∙ sym (size_of-payload number payload)

-- a payload that is longer than any number of 64 bits, with any head
past : (n m h k : ℕ) → m < n → min (h + min n m) m ≡ min (k + n) m
past n m h k long = omega (arith, long)

fits : (n m : ℕ) → n ≤ m → min n m ≡ n
fits n m few = omega (arith, few)

least_sized : (head : ℕ → ℕ) (n m : ℕ) → (m < n) ⊎ (n ≤ m) → min (head (min n m) + min n m) m ≡ min (head n + n) m
least_sized head n m (inl long) = past n m (head (min n m)) (head n) long
least_sized head n m (inr few) = ap (λ (k : ℕ). min (head k + k) m) (fits n m few)

-- the same of a message by the size of its fields
pub message_sized : (number size : ℕ) (fields : List Field) → size ≡ size_of fields → min (length (span_head number size) + size) most ≡ size_of (payload_fields number (spell fields))
unfolding size_of
message_sized number size fields same =
    ap (λ (n : ℕ). min (length (span_head number n) + n) most) same
    ∙ least_sized (λ (n : ℕ). length (span_head number n)) (length (spell fields)) most (cases_lt most (length (spell fields)))
    ∙ sym (size_of-payload number (spell fields))
