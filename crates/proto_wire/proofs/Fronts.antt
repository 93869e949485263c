-- What bytes begin with: a record, or a fault.
use Rattle.std.proofs.Common.{◌≡◌, ℕ, zero, suc, ◌+◌, ◌*◌, ◌/◌, ◌%◌, ◌^◌, ◌<◌, ◌≤◌, ◌⊎◌, inl, inr, List, [], ◌∷◌, ◌++◌, length, take, drop, refl, sym, ap, ◌∙◌, subst, arith, append_assoc}
use Rattle.std.specs.Int.{w32, w64, from_le_bytes}
use Rattle.std.proofs.lemmas.Bool.{cases_lt}
use Rattle.std.proofs.lemmas.List.{take-append-drop, length-take-le}
use Rattle.std.proofs.lemmas.Nat.{le_bytes_4, le_bytes_8}
use Rattle.proto_wire.specs.declared.field.WireValue.{WireValue}
use Rattle.proto_wire.specs.declared.field.WireValue.TheVariants.{Varint, Eight, Span, Four}
use Rattle.proto_wire.specs.declared.field.WireField.{WireField}
use Rattle.proto_wire.specs.declared.fault.WireFault.{WireFault}
use Rattle.proto_wire.specs.declared.fault.WireFault.TheVariants.{Truncated, VarintTooLong, BadTag}
use Rattle.proto_wire.specs.declared.wire_type.WireType.{WireType}
use Rattle.proto_wire.specs.declared.wire_type.WireType.TheVariants.{Base128, Fixed64, Delimited, Fixed32}
use Rattle.proto_wire.specs.Varint.{IsBytes, group_sum, IsGroups, IsVarint}
use Rattle.proto_wire.specs.Records.{type_number, type_of, IsTag, SpellsSpan, SpellsValue, Spells, Begins}
use Rattle.proto_wire.specs.Faults.{AllContinue, StartsTooLong, EndsInVarint, EndsInValue, ValueTooLong, IsNoType, FaultAt}

-- ---- bytes

pub IsBytes-rest : (front rest : List ℕ) → IsBytes (front ++ rest) → IsBytes rest
IsBytes-rest [] rest fits = fits
IsBytes-rest (b ∷ front) rest fits = IsBytes-rest front rest (λ i. fits (suc i))

pub IsBytes-take : (n : ℕ) (bytes : List ℕ) → IsBytes bytes → IsBytes (take n bytes)
IsBytes-take zero bytes fits i = omega arith
IsBytes-take (suc n) [] fits i = fits i
IsBytes-take (suc n) (b ∷ bytes) fits zero = fits 0
IsBytes-take (suc n) (b ∷ bytes) fits (suc i) = IsBytes-take n bytes (λ j. fits (suc j)) i

-- ---- varints

data Groups (most : ℕ) (bytes : List ℕ) : Type 0 where
  whole_groups : (groups rest : List ℕ) → bytes ≡ groups ++ rest → IsGroups groups → length groups ≤ most → Groups most bytes
  short_groups : AllContinue bytes → length bytes < most → Groups most bytes
  long_groups : (groups rest : List ℕ) → bytes ≡ groups ++ rest → AllContinue groups → length groups ≡ most → Groups most bytes

pub IsGroups-cons : (b : ℕ) (groups : List ℕ) → 128 ≤ b → b < 256 → IsGroups groups → IsGroups (b ∷ groups)
IsGroups-cons b [] high fits is = absurd is
IsGroups-cons b (c ∷ groups) high fits is = (high, fits, is)

one_more : (most b : ℕ) (bytes : List ℕ) → 128 ≤ b → b < 256 → Groups most bytes → Groups (suc most) (b ∷ bytes)
one_more most b bytes high fits (whole_groups groups rest e is room) = whole_groups (b ∷ groups) rest (ap (λ (x : List ℕ). b ∷ x) e) (IsGroups-cons b groups high fits is) (omega arith)
one_more most b bytes high fits (short_groups all room) = short_groups (high, fits, all) (omega arith)
one_more most b bytes high fits (long_groups groups rest e all len) = long_groups (b ∷ groups) rest (ap (λ (x : List ℕ). b ∷ x) e) (high, fits, all) (omega arith)

groups_front : (most : ℕ) (bytes : List ℕ) → IsBytes bytes → Groups most bytes
groups_front zero bytes fits = long_groups [] bytes refl tt refl
groups_front (suc most) [] fits = short_groups tt (omega arith)
groups_front (suc most) (b ∷ bytes) fits =
    elim (cases_lt b 128) [
      | inl low ↦ whole_groups (b ∷ []) bytes refl low (omega arith)
      | inr high ↦ one_more most b bytes high (fits 0) (groups_front most bytes (λ i. fits (suc i)))
    ]

-- what stands where a varint should stand
pub data VarintFront (bytes : List ℕ) : Type 0 where
  varint_front : (spelling rest : List ℕ) (number : ℕ) → bytes ≡ spelling ++ rest → IsVarint spelling number → VarintFront bytes
  ended_front : EndsInVarint bytes → VarintFront bytes
  long_front : StartsTooLong bytes → VarintFront bytes

pub front_of_varint : (bytes : List ℕ) → IsBytes bytes → VarintFront bytes
front_of_varint bytes fits =
    elim (groups_front 10 bytes fits) [
      | whole_groups groups rest e is room ↦ varint_front groups rest (group_sum groups % 2 ^ 64) e (record { groups = is; short = room; value = refl })
      | short_groups all room ↦ ended_front (record { continued = all; short = room })
      | long_groups groups rest e all len ↦ long_front (record { groups = groups; rest = rest; whole = e; continued = all; ten = len })
    ]

pub groups_nonempty : (groups : List ℕ) → IsGroups groups → 0 < length groups
groups_nonempty [] is = absurd is
groups_nonempty (b ∷ groups) is = omega arith

-- ---- tags

data Tag (tag : ℕ) : Type 0 where
  good_tag : (number : ℕ) (kind : WireType) → 1 ≤ number → number ≤ 536870911 → tag ≡ number * 8 + type_number kind → Tag tag
  bad_tag : (tag / 8 ≡ 0) ⊎ (536870911 < tag / 8) ⊎ IsNoType (tag % 8) → Tag tag

data Kind (n : ℕ) : Type 0 where
  good_kind : (kind : WireType) → n ≡ type_number kind → Kind n
  bad_kind : IsNoType n → Kind n

kind_of : (n : ℕ) → n < 8 → Kind n
kind_of zero low = good_kind Base128 refl
kind_of (suc zero) low = good_kind Fixed64 refl
kind_of (suc (suc zero)) low = good_kind Delimited refl
kind_of (suc (suc (suc zero))) low = bad_kind (inl refl)
kind_of (suc (suc (suc (suc zero)))) low = bad_kind (inr (inl refl))
kind_of (suc (suc (suc (suc (suc zero))))) low = good_kind Fixed32 refl
kind_of (suc (suc (suc (suc (suc (suc zero)))))) low = bad_kind (inr (inr (inl refl)))
kind_of (suc (suc (suc (suc (suc (suc (suc zero))))))) low = bad_kind (inr (inr (inr refl)))
kind_of (suc (suc (suc (suc (suc (suc (suc (suc n)))))))) low = absurd (omega arith)

tag_front : (tag : ℕ) → Tag tag
tag_front tag =
    elim (cases_lt (tag / 8) 1) [
      | inl none ↦ bad_tag (inl (omega arith))
      | inr low ↦ elim (cases_lt 536870911 (tag / 8)) [
        | inl above ↦ bad_tag (inr (inl above))
        | inr high ↦ elim (kind_of (tag % 8) (omega arith)) [
          | good_kind kind e ↦ good_tag (tag / 8) kind low high (omega arith)
          | bad_kind none ↦ bad_tag (inr (inr none))
        ]
      ]
    ]

-- ---- values

data ValueFront (at : ℕ) (kind : WireType) (bytes : List ℕ) : Type 0 where
  value_front : (content rest : List ℕ) (value : WireValue) → bytes ≡ content ++ rest → type_of value ≡ kind → SpellsValue at content value → ValueFront at kind bytes
  ended_value : EndsInValue kind bytes → ValueFront at kind bytes
  long_value : ValueTooLong kind bytes → ValueFront at kind bytes

number_front : (at : ℕ) (bytes : List ℕ) → VarintFront bytes → ValueFront at Base128 bytes
number_front at bytes (varint_front spelling rest number e is) = value_front spelling rest (Varint number) e refl is
number_front at bytes (ended_front ends) = ended_value ends
number_front at bytes (long_front long) = long_value long

eight_front : (at : ℕ) (bytes : List ℕ) → IsBytes bytes → ValueFront at Fixed64 bytes
eight_front at bytes fits =
    elim (cases_lt (length bytes) 8) [
      | inl short ↦ ended_value short
      | inr room ↦
          let front = take 8 bytes in
          let len : length front ≡ 8 = length-take-le 8 bytes room in
          let low = IsBytes-take 8 bytes fits in
          let below : from_le_bytes w64 front < 2 ^ 64 = omega (arith, low 0, low 1, low 2, low 3, low 4, low 5, low 6, low 7) in
          value_front front (drop 8 bytes) (Eight (from_le_bytes w64 front)) (sym (take-append-drop 8 bytes)) refl (below, sym (le_bytes_8 front _ len low refl))
    ]

four_front : (at : ℕ) (bytes : List ℕ) → IsBytes bytes → ValueFront at Fixed32 bytes
four_front at bytes fits =
    elim (cases_lt (length bytes) 4) [
      | inl short ↦ ended_value short
      | inr room ↦
          let front = take 4 bytes in
          let len : length front ≡ 4 = length-take-le 4 bytes room in
          let low = IsBytes-take 4 bytes fits in
          let below : from_le_bytes w32 front < 2 ^ 32 = omega (arith, low 0, low 1, low 2, low 3) in
          value_front front (drop 4 bytes) (Four (from_le_bytes w32 front)) (sym (take-append-drop 4 bytes)) refl (below, sym (le_bytes_4 front _ len low refl))
    ]

payload_front : (at : ℕ) (bytes size rest : List ℕ) (count : ℕ) → bytes ≡ size ++ rest → IsVarint size count → ValueFront at Delimited bytes
payload_front at bytes size rest count e is =
    elim (cases_lt (length rest) count) [
      | inl short ↦ ended_value (inr (record { size = size; rest = rest; count = count; whole = e; size_is = is; short = short }))
      | inr room ↦
          let payload = take count rest in
          let len : length payload ≡ count = length-take-le count rest room in
          let split : rest ≡ payload ++ drop count rest = sym (take-append-drop count rest) in
          let start = at + length size in
          let span : SpellsSpan at (size ++ payload) start (start + length payload) = record { size = size; payload = payload; whole = refl; size_is = rw len is; start_is = refl; stop_is = refl } in
          value_front (size ++ payload) (drop count rest) (Span start (start + length payload)) (e ∙ ap (λ (x : List ℕ). size ++ x) split ∙ sym (append_assoc size payload (drop count rest))) refl span
    ]

span_front : (at : ℕ) (bytes : List ℕ) → VarintFront bytes → ValueFront at Delimited bytes
span_front at bytes (varint_front spelling rest number e is) = payload_front at bytes spelling rest number e is
span_front at bytes (ended_front ends) = ended_value (inl ends)
span_front at bytes (long_front long) = long_value long

front_of_value : (at : ℕ) (kind : WireType) (bytes : List ℕ) → IsBytes bytes → ValueFront at kind bytes
front_of_value at Base128 bytes fits = number_front at bytes (front_of_varint bytes fits)
front_of_value at Fixed64 bytes fits = eight_front at bytes fits
front_of_value at Delimited bytes fits = span_front at bytes (front_of_varint bytes fits)
front_of_value at Fixed32 bytes fits = four_front at bytes fits

-- ---- records

-- what stands where a record should stand
pub data RecordFront (at : ℕ) (bytes : List ℕ) : Type 0 where
  record_front : (field : WireField) (head rest : List ℕ) → Begins at bytes field head rest → RecordFront at bytes
  fault_front : (fault : WireFault) → FaultAt at bytes fault → RecordFront at bytes

after_tag : (at : ℕ) (bytes tag rest : List ℕ) (number : ℕ) (kind : WireType) → bytes ≡ tag ++ rest → IsTag tag number kind → ValueFront (at + length tag) kind rest → RecordFront at bytes
after_tag at bytes tag rest number kind e is (value_front content more value split same spells) =
    let spelled : Spells at (tag ++ content) (record { number = number; at = at; value = value }) =
    record { tag = tag; content = content; whole = refl; place = refl; is_tag = rw same is; is_value = spells } in
    record_front (record { number = number; at = at; value = value }) (tag ++ content) more
    (record { whole = e ∙ ap (λ (x : List ℕ). tag ++ x) split ∙ sym (append_assoc tag content more); spells = spelled })
after_tag at bytes tag rest number kind e is (ended_value ends) =
    fault_front (Truncated (at + length bytes)) (refl, inr (tag, record { rest = rest; number = number; kind = kind; whole = e; is_tag = is; wrong_is = ends }))
after_tag at bytes tag rest number kind e is (long_value long) =
    fault_front (VarintTooLong (at + length tag)) (inr (tag, refl, record { rest = rest; number = number; kind = kind; whole = e; is_tag = is; wrong_is = long }))

of_tag : (at : ℕ) (bytes tag rest : List ℕ) (number : ℕ) → IsBytes bytes → bytes ≡ tag ++ rest → IsVarint tag number → Tag number → RecordFront at bytes
of_tag at bytes tag rest number fits e is (good_tag field kind low high number_is) =
    let bytes_rest : IsBytes rest = IsBytes-rest tag rest (subst IsBytes e fits) in
    after_tag at bytes tag rest field kind e (record { low = low; high = high; varint = rw (← number_is) is }) (front_of_value (at + length tag) kind rest bytes_rest)
of_tag at bytes tag rest number fits e is (bad_tag bad) =
    fault_front (BadTag at) (refl, record { tag = tag; rest = rest; number = number; whole = e; tag_is = is; bad = bad })

of_varint : (at : ℕ) (bytes : List ℕ) → IsBytes bytes → 0 < length bytes → VarintFront bytes → RecordFront at bytes
of_varint at bytes fits some (varint_front tag rest number e is) = of_tag at bytes tag rest number fits e is (tag_front number)
of_varint at bytes fits some (ended_front ends) = fault_front (Truncated (at + length bytes)) (refl, inl (some, ends))
of_varint at bytes fits some (long_front long) = fault_front (VarintTooLong at) (inl (refl, long))

-- bytes that aren't empty begin with a record or a fault
pub front_of : (at : ℕ) (bytes : List ℕ) → IsBytes bytes → 0 < length bytes → RecordFront at bytes
front_of at bytes fits some = of_varint at bytes fits some (front_of_varint bytes fits)
