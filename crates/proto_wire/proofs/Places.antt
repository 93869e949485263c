-- The places of records lie within the bytes, and a span's are those of its payload.
use Rattle.std.proofs.Common.{◌≡◌, ℕ, ◌+◌, ◌-◌, ◌≤◌, List, [], ◌∷◌, ◌++◌, length, take, All, sym, ap, ◌∙◌, arith, length-append, append_assoc}
use Rattle.std.specs.Prelude.{slice_range}
use Rattle.std.specs.List.{AllByRecursion}
use Rattle.std.proofs.lemmas.List.{drop_at, take_at}
use Rattle.std.proofs.lemmas.List.Elements.{All-from_recursion}
use Rattle.proto_wire.specs.declared.field.WireValue.{WireValue}
use Rattle.proto_wire.specs.declared.field.WireValue.TheVariants.{Varint, Eight, Span, Four}
use Rattle.proto_wire.specs.declared.field.WireField.{WireField}
use Rattle.proto_wire.specs.Records.{SpellsSpan, SpellsValue, Spells, RecordsFrom, Records, PlacesWithin, IsWithin}
use Rattle.proto_wire.proofs.Fronts.{groups_nonempty}

value_within : (at count : ℕ) (content : List ℕ) (value : WireValue) → SpellsValue at content value → at + length content ≤ count → PlacesWithin count value
value_within at count content (Varint n) spells room = tt
value_within at count content (Eight n) spells room = tt
value_within at count content (Span start stop) spells room =
    let len : length content ≡ length spells.size + length spells.payload = ap (length {A = ℕ}) spells.whole ∙ length-append spells.size spells.payload in
    (omega (arith, spells.stop_is), omega (arith, len, spells.start_is, spells.stop_is))
value_within at count content (Four n) spells room = tt

field_within : (at count : ℕ) (head : List ℕ) (field : WireField) → Spells at head field → at + length head ≤ count → IsWithin count field
field_within at count head field spells room =
    let len : length head ≡ length spells.tag + length spells.content = ap (length {A = ℕ}) spells.whole ∙ length-append spells.tag spells.content in
    let some = groups_nonempty spells.tag spells.is_tag.varint.groups in
    record {
      low = spells.is_tag.low;
      high = spells.is_tag.high;
      place = omega (arith, spells.place, len, some);
      places = value_within (at + length spells.tag) count spells.content field.value spells.is_value (omega (arith, len));
    }

each_within : (at count : ℕ) (bytes : List ℕ) (fields : List WireField) → RecordsFrom at bytes fields → at + length bytes ≤ count → AllByRecursion (IsWithin count) fields
each_within at count bytes [] none room = tt
each_within at count bytes (field ∷ fields) (head, rest, begins, more) room =
    let len : length bytes ≡ length head + length rest = ap (length {A = ℕ}) begins.whole ∙ length-append head rest in
    (field_within at count head field begins.spells (omega (arith, len)), each_within (at + length head) count rest fields more (omega (arith, len)))

pub all_within : (bytes : List ℕ) (fields : List WireField) → Records bytes fields → All (IsWithin (length bytes)) fields
all_within bytes fields found = All-from_recursion (IsWithin (length bytes)) fields (each_within 0 (length bytes) bytes fields found (omega arith))

-- what stands between two places
pub between : (before piece after : List ℕ) (start stop : ℕ) → start ≡ length before → stop ≡ length before + length piece → slice_range (before ++ (piece ++ after)) start stop ≡ piece
between before piece after start stop start_is stop_is =
    let len : length piece ≡ stop - start = omega arith in
    ap (take (stop - start)) (drop_at before (piece ++ after) start (sym start_is)) ∙ take_at piece after (stop - start) len

pub payload_between : (before content after : List ℕ) (start stop : ℕ) (span : SpellsSpan (length before) content start stop) → slice_range (before ++ (content ++ after)) start stop ≡ span.payload
payload_between before content after start stop span =
    let size = span.size in
    let payload = span.payload in
    let whole : before ++ (content ++ after) ≡ (before ++ size) ++ (payload ++ after) =
    ap (λ (x : List ℕ). before ++ (x ++ after)) span.whole ∙ ap (λ (x : List ℕ). before ++ x) (append_assoc size payload after) ∙ sym (append_assoc before size (payload ++ after)) in
    let len = length-append before size in
    ap (λ (x : List ℕ). slice_range x start stop) whole ∙ between (before ++ size) payload after start stop (omega (arith, len, span.start_is)) (omega (arith, len, span.start_is, span.stop_is))
