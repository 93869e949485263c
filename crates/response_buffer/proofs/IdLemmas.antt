-- The text of a 128-bit number parses to its bytes, so two numbers with the same text are the same.
use Rattle.std.proofs.Common.{◌≡◌, ℕ, zero, suc, ◌^◌, ◌<◌, ◌≤◌, Some, get_or, inl, arith, refl, sym, ap, ◌∙◌}
use Rattle.std.specs.Int.{w128, to_be_bytes, from_be_bytes, byte_at, bytes_high_first}
use Rattle.std.proofs.lemmas.Option.{same_Some}
use Rattle.uuid.specs.Text.{lower, parsed}
use Rattle.uuid.proofs.OrderLemmas.{from_be_bytes-to_be_bytes_16}
use Rattle.uuid.proofs.RoundTrips.{parses_hyphenated}
use Rattle.uuid.proofs.TextLemmas.{all_fit}
use Rattle.response_buffer.specs.declared.response_id.ResponseId.{ResponseId}
use Rattle.response_buffer.specs.Ids.{uuid_text, number_of, Fits, IsResponseId, NumbersDiffer}

byte_at-lt : (k n : ℕ) → byte_at k n < 256
byte_at-lt zero n = omega arith
byte_at-lt (suc k) n = omega arith

get_or-bytes_high_first-lt : (k n i : ℕ) → get_or (bytes_high_first k n) i 0 < 256
get_or-bytes_high_first-lt zero n i = omega arith
get_or-bytes_high_first-lt (suc k) n zero = byte_at-lt k n
get_or-bytes_high_first-lt (suc k) n (suc i) = get_or-bytes_high_first-lt k n i

-- the text of a number parses to the number's bytes
pub parsed-uuid_text : (n : ℕ) → Some (to_be_bytes w128 n) ≡ parsed (uuid_text n)
unfolding uuid_text
parsed-uuid_text n =
    parses_hyphenated lower (to_be_bytes w128 n) (inl refl) refl
    (all_fit (to_be_bytes w128 n) (λ i within. get_or-bytes_high_first-lt 16 n i))

-- two numbers with one text
pub uuid_text-injective : (a b : ℕ) → a < 2 ^ 128 → b < 2 ^ 128 → uuid_text a ≡ uuid_text b → a ≡ b
uuid_text-injective a b a_fits b_fits same =
    let bytes : to_be_bytes w128 a ≡ to_be_bytes w128 b = same_Some _ _ (parsed-uuid_text a ∙ ap parsed same ∙ sym (parsed-uuid_text b)) in
    sym (from_be_bytes-to_be_bytes_16 a a_fits) ∙ ap (from_be_bytes w128) bytes ∙ from_be_bytes-to_be_bytes_16 b b_fits

pub number_of-lt : (id : ResponseId) → Fits id → number_of id < 2 ^ 128
number_of-lt id fits = omega arith

-- the number of an id with a place has the bits of an id
pub IsResponseId-number_of : (id : ResponseId) → Fits id → 1 ≤ id.place → IsResponseId (number_of id)
IsResponseId-number_of id fits placed = record {
  width = omega arith;
  version = omega arith;
  zeros = omega arith;
  variant = omega arith;
  place = omega arith;
}

-- two ids with one number
pub number_of-injective : NumbersDiffer
number_of-injective a b a_fits b_fits same = grind arith
