-- What the definitions say of the bytes from a place on is what reading finds there.
use Rattle.std.proofs.Common.{◌≡◌, ℕ, ◌+◌, ◌-◌, ◌*◌, ◌/◌, ◌%◌, ◌<◌, ◌≤◌, ◌⊎◌, inl, inr, Bool, true, false, cond, ltb, ◌||◌, List, ◌++◌, length, take, drop, Some, None, Ok, Err, refl, sym, ap, ◌∙◌, subst, arith, length-append, append_assoc}
use Rattle.std.specs.Int.{w32, w64, to_le_bytes, from_le_bytes}
use Rattle.std.proofs.lemmas.Bool.{lt-ltb, le-ltb}
use Rattle.std.proofs.lemmas.List.{length-drop, drop-drop, drop_at, take_at}
use Rattle.std.proofs.lemmas.Nat.{from_le_bytes-to_le_bytes_4, from_le_bytes-to_le_bytes_8}
use Rattle.proto_wire.specs.declared.field.WireValue.{WireValue}
use Rattle.proto_wire.specs.declared.field.WireValue.TheVariants.{Varint, Eight, Span, Four}
use Rattle.proto_wire.specs.declared.field.WireField.{WireField}
use Rattle.proto_wire.specs.declared.fault.WireFault.{WireFault}
use Rattle.proto_wire.specs.declared.fault.WireFault.TheVariants.{Truncated, VarintTooLong, BadTag, OutOfMemory}
use Rattle.proto_wire.specs.declared.wire_type.WireType.{WireType}
use Rattle.proto_wire.specs.declared.wire_type.WireType.TheVariants.{Base128, Fixed64, Delimited, Fixed32}
use Rattle.proto_wire.specs.Varint.{IsVarint}
use Rattle.proto_wire.specs.Records.{type_number, type_of, IsTag, SpellsSpan, SpellsValue, Spells}
use Rattle.proto_wire.specs.Faults.{StartsTooLong, EndsInVarint, EndsInPayload, EndsInValue, ValueTooLong, IsNoType, StartsWithBadTag, TagThen, FaultAt}
use Rattle.proto_wire.specs.Reading.{◌>>=◌, groups_in, varint_at, wire_type, tag_of, span_at, value_at, with_value, field_at}
use Rattle.proto_wire.proofs.GroupLemmas.{groups_in-found, groups_in-short, groups_in-long}

-- ---- places

-- the bytes from a place on begin with these, and others follow
pub record Stands (bytes : List ℕ) (at : ℕ) (piece rest : List ℕ) : Type 0 where
  pub room : at ≤ length bytes
  pub split : drop at bytes ≡ piece ++ rest

pub Stands-after : (bytes : List ℕ) (at : ℕ) (piece rest : List ℕ) → Stands bytes at piece rest → (at + length piece ≤ length bytes) × (drop (at + length piece) bytes ≡ rest)
Stands-after bytes at piece rest stands =
    let e = ap (length {A = ℕ}) stands.split in
    let room = stands.room in
    (omega (arith, length-drop at bytes, length-append piece rest, e), sym (drop-drop (length piece) at bytes) ∙ ap (drop (length piece)) stands.split ∙ drop_at piece rest (length piece) refl)

-- the first part of a piece, and the second after it
Stands-first : (bytes : List ℕ) (at : ℕ) (first second rest : List ℕ) → Stands bytes at (first ++ second) rest → Stands bytes at first (second ++ rest)
Stands-first bytes at first second rest stands = record { room = stands.room; split = stands.split ∙ append_assoc first second rest }

Stands-second : (bytes : List ℕ) (at : ℕ) (first second rest : List ℕ) → Stands bytes at (first ++ second) rest → Stands bytes (at + length first) second rest
Stands-second bytes at first second rest stands =
    let after = Stands-after bytes at first (second ++ rest) (Stands-first bytes at first second rest stands) in
    record { room = after.0; split = after.1 }

-- ---- varints

pub varint_at-spelled : (bytes : List ℕ) (at : ℕ) (spelling rest : List ℕ) (number : ℕ) → drop at bytes ≡ spelling ++ rest → IsVarint spelling number → varint_at bytes at ≡ Ok (number, at + length spelling)
unfolding varint_at
varint_at-spelled bytes at spelling rest number e is =
    let read : groups_in (Truncated (length bytes)) (VarintTooLong at) 10 (drop at bytes) ≡ Ok spelling =
    ap (groups_in (Truncated (length bytes)) (VarintTooLong at) 10) e ∙ groups_in-found (Truncated (length bytes)) (VarintTooLong at) spelling rest 10 is.groups is.short in
    rw (read, is.value) refl

pub varint_at-ends : (bytes : List ℕ) (at : ℕ) → EndsInVarint (drop at bytes) → varint_at bytes at ≡ Err (Truncated (length bytes))
unfolding varint_at
varint_at-ends bytes at ends =
    rw (groups_in-short (Truncated (length bytes)) (VarintTooLong at) (drop at bytes) 10 ends.continued ends.short) refl

varint_at-too_long : (bytes : List ℕ) (at : ℕ) → StartsTooLong (drop at bytes) → varint_at bytes at ≡ Err (VarintTooLong at)
unfolding varint_at
varint_at-too_long bytes at long =
    let read : groups_in (Truncated (length bytes)) (VarintTooLong at) 10 (drop at bytes) ≡ Err (VarintTooLong at) =
    ap (groups_in (Truncated (length bytes)) (VarintTooLong at) 10) long.whole ∙ groups_in-long (Truncated (length bytes)) (VarintTooLong at) long.groups long.rest 10 long.continued long.ten in
    rw read refl

-- ---- tags

type_number-below : (kind : WireType) → type_number kind < 8
type_number-below Base128 = omega arith
type_number-below Fixed64 = omega arith
type_number-below Delimited = omega arith
type_number-below Fixed32 = omega arith

wire_type-type_number : (kind : WireType) → wire_type (type_number kind) ≡ Some kind
unfolding wire_type
wire_type-type_number Base128 = refl
wire_type-type_number Fixed64 = refl
wire_type-type_number Delimited = refl
wire_type-type_number Fixed32 = refl

tag_of-good : (at number : ℕ) (kind : WireType) → 1 ≤ number → number ≤ 536870911 → tag_of at (number * 8 + type_number kind) ≡ Ok (number, kind)
unfolding tag_of
tag_of-good at number kind low high =
    let below = type_number-below kind in
    let quotient : (number * 8 + type_number kind) / 8 ≡ number = omega arith in
    let type : (number * 8 + type_number kind) % 8 ≡ type_number kind = omega arith in
    rw (quotient, type, le-ltb number 1 low, le-ltb 536870911 number high, wire_type-type_number kind, quotient) refl

no_wire_type : (n : ℕ) → IsNoType n → wire_type n ≡ None
unfolding wire_type
no_wire_type n (inl e) = rw e refl
no_wire_type n (inr (inl e)) = rw e refl
no_wire_type n (inr (inr (inl e))) = rw e refl
no_wire_type n (inr (inr (inr e))) = rw e refl

cond_same : {A : Type 0} (b : Bool) (x : A) → cond b x x ≡ x
cond_same true x = refl
cond_same false x = refl

tag_of-no_type : (at tag : ℕ) → wire_type (tag % 8) ≡ None → tag_of at tag ≡ Err (BadTag at)
unfolding tag_of
tag_of-no_type at tag none = rw none (cond_same (ltb (tag / 8) 1 || ltb 536870911 (tag / 8)) (Err (BadTag at)))

tag_of-bad : (at tag : ℕ) → (tag / 8 ≡ 0) ⊎ (536870911 < tag / 8) ⊎ IsNoType (tag % 8) → tag_of at tag ≡ Err (BadTag at)
unfolding tag_of
tag_of-bad at tag (inl zero_number) = rw zero_number refl
tag_of-bad at tag (inr (inl above)) =
    let low : 1 ≤ tag / 8 = omega arith in
    rw (le-ltb (tag / 8) 1 low, lt-ltb 536870911 (tag / 8) above) refl
tag_of-bad at tag (inr (inr no_type)) = tag_of-no_type at tag (no_wire_type (tag % 8) no_type)

-- ---- values

span_at-spelled : (bytes : List ℕ) (start count : ℕ) → start + count ≤ length bytes → span_at bytes start count ≡ Ok (Span start (start + count), start + count)
unfolding span_at
span_at-spelled bytes start count room =
    let long : count ≤ length bytes - start = omega arith in rw (le-ltb (length bytes - start) count long) refl

span_at-ends : (bytes : List ℕ) (start count : ℕ) → start ≤ length bytes → length bytes < start + count → span_at bytes start count ≡ Err (Truncated (length bytes))
unfolding span_at
span_at-ends bytes start count room short =
    let less : length bytes - start < count = omega arith in rw (lt-ltb (length bytes - start) count less) refl

value_at-span : (bytes : List ℕ) (at : ℕ) (content rest : List ℕ) (start stop : ℕ) → Stands bytes at content rest → SpellsSpan at content start stop → value_at bytes at Delimited ≡ Ok (Span start stop, at + length content)
unfolding value_at
value_at-span bytes at content rest start stop stands spells =
    let size = spells.size in
    let payload = spells.payload in
    let whole : drop at bytes ≡ size ++ (payload ++ rest) = stands.split ∙ ap (λ (x : List ℕ). x ++ rest) spells.whole ∙ append_assoc size payload rest in
    let after = Stands-after bytes at content rest stands in
    let len : length content ≡ length size + length payload = ap (length {A = ℕ}) spells.whole ∙ length-append size payload in
    let stop_is : stop ≡ at + length size + length payload = omega (arith, spells.start_is, spells.stop_is) in
    let end_is : at + length content ≡ at + length size + length payload = omega (arith, len) in
    rw (varint_at-spelled bytes at size (payload ++ rest) (length payload) whole spells.size_is, span_at-spelled bytes (at + length size) (length payload) (omega (arith, len, after.0)), stop_is, spells.start_is, end_is) refl

value_at-short_span : (bytes : List ℕ) (at : ℕ) → at ≤ length bytes → EndsInPayload (drop at bytes) → value_at bytes at Delimited ≡ Err (Truncated (length bytes))
unfolding value_at
value_at-short_span bytes at room ends =
    let e = ap (length {A = ℕ}) ends.whole in
    let after = Stands-after bytes at ends.size ends.rest (record { room = room; split = ends.whole }) in
    let short : length bytes < at + length ends.size + ends.count = omega (arith, e, ends.short, length-drop at bytes, length-append ends.size ends.rest) in
    rw (varint_at-spelled bytes at ends.size ends.rest ends.count ends.whole ends.size_is, span_at-ends bytes (at + length ends.size) ends.count after.0 short) refl

value_at-spelled : (bytes : List ℕ) (at : ℕ) (content rest : List ℕ) (value : WireValue) → Stands bytes at content rest → SpellsValue at content value → value_at bytes at (type_of value) ≡ Ok (value, at + length content)
unfolding value_at
value_at-spelled bytes at content rest (Varint n) stands spells =
    rw (varint_at-spelled bytes at content rest n stands.split spells) refl
value_at-spelled bytes at content rest (Eight n) stands spells =
    let len : length content ≡ 8 = ap (length {A = ℕ}) spells.1 in
    let after = Stands-after bytes at content rest stands in
    let room : 8 ≤ length bytes - at = omega (arith, after.0) in
    let front : take 8 (drop at bytes) ≡ to_le_bytes w64 n = ap (take 8) stands.split ∙ take_at content rest 8 len ∙ spells.1 in
    let number : from_le_bytes w64 (take 8 (drop at bytes)) ≡ n = ap (from_le_bytes w64) front ∙ from_le_bytes-to_le_bytes_8 n spells.0 in
    rw (le-ltb (length bytes - at) 8 room, number, len) refl
value_at-spelled bytes at content rest (Span start stop) stands spells = value_at-span bytes at content rest start stop stands spells
value_at-spelled bytes at content rest (Four n) stands spells =
    let len : length content ≡ 4 = ap (length {A = ℕ}) spells.1 in
    let after = Stands-after bytes at content rest stands in
    let room : 4 ≤ length bytes - at = omega (arith, after.0) in
    let front : take 4 (drop at bytes) ≡ to_le_bytes w32 n = ap (take 4) stands.split ∙ take_at content rest 4 len ∙ spells.1 in
    let number : from_le_bytes w32 (take 4 (drop at bytes)) ≡ n = ap (from_le_bytes w32) front ∙ from_le_bytes-to_le_bytes_4 n spells.0 in
    rw (le-ltb (length bytes - at) 4 room, number, len) refl

value_at-ends : (bytes : List ℕ) (at : ℕ) (kind : WireType) → at ≤ length bytes → EndsInValue kind (drop at bytes) → value_at bytes at kind ≡ Err (Truncated (length bytes))
unfolding value_at
value_at-ends bytes at Base128 room ends = rw (varint_at-ends bytes at ends) refl
value_at-ends bytes at Fixed64 room ends =
    let short : length bytes - at < 8 = omega (arith, ends, length-drop at bytes) in rw (lt-ltb (length bytes - at) 8 short) refl
value_at-ends bytes at Delimited room (inl ends) = rw (varint_at-ends bytes at ends) refl
value_at-ends bytes at Delimited room (inr ends) = value_at-short_span bytes at room ends
value_at-ends bytes at Fixed32 room ends =
    let short : length bytes - at < 4 = omega (arith, ends, length-drop at bytes) in rw (lt-ltb (length bytes - at) 4 short) refl

value_at-too_long : (bytes : List ℕ) (at : ℕ) (kind : WireType) → ValueTooLong kind (drop at bytes) → value_at bytes at kind ≡ Err (VarintTooLong at)
unfolding value_at
value_at-too_long bytes at Base128 long = rw (varint_at-too_long bytes at long) refl
value_at-too_long bytes at Fixed64 long = absurd long
value_at-too_long bytes at Delimited long = rw (varint_at-too_long bytes at long) refl
value_at-too_long bytes at Fixed32 long = absurd long

-- ---- records

-- a whole tag, and what its value comes to
after_tag : (bytes : List ℕ) (at : ℕ) (tag rest : List ℕ) (number : ℕ) (kind : WireType) → drop at bytes ≡ tag ++ rest → IsTag tag number kind →
    field_at bytes at ≡ value_at bytes (at + length tag) kind >>= with_value at number
unfolding field_at
after_tag bytes at tag rest number kind e is =
    rw (varint_at-spelled bytes at tag rest (number * 8 + type_number kind) e is.varint, tag_of-good at number kind is.low is.high) refl

made : (bytes : List ℕ) (at number : ℕ) (kind : WireType) (value_place : ℕ) (value : WireValue) (stop : ℕ) → value_at bytes value_place kind ≡ Ok (value, stop) →
    (value_at bytes value_place kind >>= with_value at number) ≡ Ok (record { number = number; at = at; value = value }, stop)
made bytes at number kind value_place value stop e = rw e refl

failed : (bytes : List ℕ) (at number : ℕ) (kind : WireType) (value_place : ℕ) (fault : WireFault) → value_at bytes value_place kind ≡ Err fault →
    (value_at bytes value_place kind >>= with_value at number) ≡ Err fault
failed bytes at number kind value_place fault e = rw e refl

-- a record that stands at a place is found there
pub field_at-spelled : (bytes : List ℕ) (at : ℕ) (head rest : List ℕ) (field : WireField) → Stands bytes at head rest → Spells at head field → field_at bytes at ≡ Ok (field, at + length head)
field_at-spelled bytes at head rest field stands spells =
    let tag = spells.tag in
    let content = spells.content in
    let parts : Stands bytes at (tag ++ content) rest = subst (λ (x : List ℕ). Stands bytes at x rest) spells.whole stands in
    let first = Stands-first bytes at tag content rest parts in
    let second = Stands-second bytes at tag content rest parts in
    let value = value_at-spelled bytes (at + length tag) content rest field.value second spells.is_value in
    let place = spells.place in
    let same : WireField = record { number = field.number; at = at; value = field.value } in
    let same_is : same ≡ field = ap (λ (a : ℕ). let f : WireField = record { number = field.number; at = a; value = field.value } in f) (sym place) in
    let len : length head ≡ length tag + length content = ap (length {A = ℕ}) spells.whole ∙ length-append tag content in
    let stop_is : at + length tag + length content ≡ at + length head = omega (arith, len) in
    after_tag bytes at tag (content ++ rest) field.number (type_of field.value) first.split spells.is_tag
    ∙ made bytes at field.number (type_of field.value) (at + length tag) field.value (at + length tag + length content) value
    ∙ rw (same_is, stop_is) refl

-- after a whole tag, a value that is cut or too long is the fault
cut_value : (bytes : List ℕ) (at : ℕ) (tag : List ℕ) → at ≤ length bytes → TagThen EndsInValue (drop at bytes) tag → field_at bytes at ≡ Err (Truncated (length bytes))
cut_value bytes at tag room then =
    let after = Stands-after bytes at tag then.rest (record { room = room; split = then.whole }) in
    let ends : EndsInValue then.kind (drop (at + length tag) bytes) = rw after.1 then.wrong_is in
    after_tag bytes at tag then.rest then.number then.kind then.whole then.is_tag
    ∙ failed bytes at then.number then.kind (at + length tag) (Truncated (length bytes)) (value_at-ends bytes (at + length tag) then.kind after.0 ends)

long_value : (bytes : List ℕ) (at : ℕ) (tag : List ℕ) → at ≤ length bytes → TagThen ValueTooLong (drop at bytes) tag → field_at bytes at ≡ Err (VarintTooLong (at + length tag))
long_value bytes at tag room then =
    let after = Stands-after bytes at tag then.rest (record { room = room; split = then.whole }) in
    let long : ValueTooLong then.kind (drop (at + length tag) bytes) = rw after.1 then.wrong_is in
    after_tag bytes at tag then.rest then.number then.kind then.whole then.is_tag
    ∙ failed bytes at then.number then.kind (at + length tag) (VarintTooLong (at + length tag)) (value_at-too_long bytes (at + length tag) then.kind long)

pub cut_tag : (bytes : List ℕ) (at : ℕ) → EndsInVarint (drop at bytes) → field_at bytes at ≡ Err (Truncated (length bytes))
unfolding field_at
cut_tag bytes at ends = rw (varint_at-ends bytes at ends) refl

long_tag : (bytes : List ℕ) (at : ℕ) → StartsTooLong (drop at bytes) → field_at bytes at ≡ Err (VarintTooLong at)
unfolding field_at
long_tag bytes at long = rw (varint_at-too_long bytes at long) refl

no_tag : (bytes : List ℕ) (at : ℕ) → StartsWithBadTag (drop at bytes) → field_at bytes at ≡ Err (BadTag at)
unfolding field_at
no_tag bytes at starts =
    rw (varint_at-spelled bytes at starts.tag starts.rest starts.number starts.whole starts.tag_is, tag_of-bad at starts.number starts.bad) refl

truncated : (bytes : List ℕ) (at place : ℕ) → at ≤ length bytes → place ≡ at + length (drop at bytes) → field_at bytes at ≡ Err (Truncated (length bytes)) → field_at bytes at ≡ Err (Truncated place)
truncated bytes at place room place_is e =
    let same : length bytes ≡ place = omega (arith, length-drop at bytes) in e ∙ ap (λ (p : ℕ). Err (Truncated p)) same

-- a fault that stands at a place is found there
pub field_at-fault : (bytes : List ℕ) (at : ℕ) (fault : WireFault) → at ≤ length bytes → FaultAt at (drop at bytes) fault → field_at bytes at ≡ Err fault
field_at-fault bytes at (Truncated place) room (place_is, inl ends) = truncated bytes at place room place_is (cut_tag bytes at ends.1)
field_at-fault bytes at (Truncated place) room (place_is, inr (tag, then)) = truncated bytes at place room place_is (cut_value bytes at tag room then)
field_at-fault bytes at (VarintTooLong place) room (inl (place_is, long)) = long_tag bytes at long ∙ ap (λ (p : ℕ). Err (VarintTooLong p)) (sym place_is)
field_at-fault bytes at (VarintTooLong place) room (inr (tag, place_is, then)) = long_value bytes at tag room then ∙ ap (λ (p : ℕ). Err (VarintTooLong p)) (sym place_is)
field_at-fault bytes at (BadTag place) room (place_is, starts) = no_tag bytes at starts ∙ ap (λ (p : ℕ). Err (BadTag p)) (sym place_is)
field_at-fault bytes at OutOfMemory room fault_at = absurd fault_at
