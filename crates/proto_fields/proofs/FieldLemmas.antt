-- The fields of bytes: of records, of bytes with a fault, and of two messages one after the other.
use Rattle.std.proofs.Common.{◌≡◌, ℕ, ◌+◌, ◌-◌, ◌≤◌, List, [], ◌∷◌, ◌++◌, length, map, take, drop, refl, sym, ap, ◌∙◌, subst, arith}
use Rattle.std.specs.Prelude.{slice_range}
use Rattle.std.specs.List.{AllByRecursion}
use Rattle.std.proofs.lemmas.List.{drop-drop, drop_at, drop-append-le, take-append-le, length-drop, map-append}
use Rattle.std.proofs.lemmas.List.Elements.{recursion_from_All}
use Rattle.proto_wire.specs.declared.fault.WireFault.{WireFault}
use Rattle.proto_wire.specs.declared.field.WireValue.{WireValue}
use Rattle.proto_wire.specs.declared.field.WireValue.TheVariants.{Varint, Eight, Span, Four}
use Rattle.proto_wire.specs.declared.field.WireField.{WireField}
use Rattle.proto_wire.specs.Records.{type_of, SpellsValue, Spells, RecordsFrom, Records, PlacesWithin, IsWithin}
use Rattle.proto_wire.specs.Faults.{WireFaulty}
use Rattle.proto_wire.proofs.RecordLists.{RecordsFrom-append}
use Rattle.proto_wire.proofs.Places.{all_within}
use Rattle.proto_fields.specs.Fields.{Content, Payload, Field, content_in, field_in, fields_of, IsMessage}
use Rattle.proto_fields.proofs.RecordsIn.{records_in-Records, records_in-WireFaulty}

pub fields_of-Records : (bytes : List ℕ) (records : List WireField) → Records bytes records → fields_of bytes ≡ map (field_in bytes) records
unfolding fields_of
fields_of-Records bytes records is = rw (records_in-Records bytes records is) refl

pub fields_of-WireFaulty : (bytes : List ℕ) (fault : WireFault) → WireFaulty bytes fault → fields_of bytes ≡ []
unfolding fields_of
fields_of-WireFaulty bytes fault is = rw (records_in-WireFaulty bytes fault is) refl

-- ---- records that stand so many bytes later

abbrev later_value : ℕ → WireValue → WireValue
later_value by (Varint value) = Varint value
later_value by (Eight value) = Eight value
later_value by (Span start stop) = Span (by + start) (by + stop)
later_value by (Four value) = Four value

abbrev later : ℕ → WireField → WireField
later by field = record { number = field.number; at = by + field.at; value = later_value by field.value }

type_of-later : (by : ℕ) (value : WireValue) → type_of (later_value by value) ≡ type_of value
type_of-later by (Varint value) = refl
type_of-later by (Eight value) = refl
type_of-later by (Span start stop) = refl
type_of-later by (Four value) = refl

SpellsValue-later : (by at : ℕ) (bytes : List ℕ) (value : WireValue) → SpellsValue at bytes value → SpellsValue (by + at) bytes (later_value by value)
SpellsValue-later by at bytes (Varint value) is = is
SpellsValue-later by at bytes (Eight value) is = is
SpellsValue-later by at bytes (Span start stop) is =
    record { size = is.size; payload = is.payload; whole = is.whole; size_is = is.size_is; start_is = omega (arith, is.start_is); stop_is = omega (arith, is.stop_is) }
SpellsValue-later by at bytes (Four value) is = is

Spells-later : (by at : ℕ) (bytes : List ℕ) (field : WireField) → Spells at bytes field → Spells (by + at) bytes (later by field)
Spells-later by at bytes field is =
    let place : by + (at + length is.tag) ≡ by + at + length is.tag = omega arith in
    record {
      tag = is.tag;
      content = is.content;
      whole = is.whole;
      place = ap (λ (p : ℕ). by + p) is.place;
      is_tag = rw (type_of-later by field.value) is.is_tag;
      is_value = subst (λ (p : ℕ). SpellsValue p is.content (later_value by field.value)) place (SpellsValue-later by (at + length is.tag) is.content field.value is.is_value);
    }

RecordsFrom-later : (fields : List WireField) (by at : ℕ) (bytes : List ℕ) → RecordsFrom at bytes fields → RecordsFrom (by + at) bytes (map (later by) fields)
RecordsFrom-later [] by at bytes is = is
RecordsFrom-later (field ∷ fields) by at bytes (head, rest, begins, more) =
    let place : by + (at + length head) ≡ by + at + length head = omega arith in (
      head,
      rest,
      record { whole = begins.whole; spells = Spells-later by at head field begins.spells },
      subst (λ (p : ℕ). RecordsFrom p rest (map (later by) fields)) place (RecordsFrom-later fields by (at + length head) rest more),
    )

-- ---- what a record holds in longer bytes

slice-back : (front back : List ℕ) (start stop : ℕ) → slice_range (front ++ back) (length front + start) (length front + stop) ≡ slice_range back start stop
slice-back front back start stop =
    let count : length front + stop - (length front + start) ≡ stop - start = omega arith in
    let rest : drop (length front + start) (front ++ back) ≡ drop start back = sym (drop-drop start (length front) (front ++ back)) ∙ ap (drop start) (drop_at front back (length front) refl) in
    ap (λ (n : ℕ). take n (drop (length front + start) (front ++ back))) count ∙ ap (take (stop - start)) rest

slice-front : (front back : List ℕ) (start stop : ℕ) → start ≤ stop → stop ≤ length front → slice_range (front ++ back) start stop ≡ slice_range front start stop
slice-front front back start stop order room =
    ap (take (stop - start)) (drop-append-le start front back (omega arith)) ∙ take-append-le (stop - start) (drop start front) back (omega (arith, length-drop start front))

content-back : (front back : List ℕ) (value : WireValue) → content_in (front ++ back) (later_value (length front) value) ≡ content_in back value
content-back front back (Varint value) = refl
content-back front back (Eight value) = refl
content-back front back (Span start stop) = ap (λ (p : List ℕ). Payload p) (slice-back front back start stop)
content-back front back (Four value) = refl

content-front : (front back : List ℕ) (value : WireValue) → PlacesWithin (length front) value → content_in (front ++ back) value ≡ content_in front value
content-front front back (Varint value) within = refl
content-front front back (Eight value) within = refl
content-front front back (Span start stop) within = ap (λ (p : List ℕ). Payload p) (slice-front front back start stop within.0 within.1)
content-front front back (Four value) within = refl

fields-back : (front back : List ℕ) (fields : List WireField) → map (field_in (front ++ back)) (map (later (length front)) fields) ≡ map (field_in back) fields
fields-back front back [] = refl
fields-back front back (field ∷ fields) =
    let here : field_in (front ++ back) (later (length front) field) ≡ field_in back field = ap (λ (c : Content). record { number = field.number; content = c }) (content-back front back field.value) in
    let more = fields-back front back fields in cc (here, more)

fields-front : (front back : List ℕ) (fields : List WireField) → AllByRecursion (IsWithin (length front)) fields → map (field_in (front ++ back)) fields ≡ map (field_in front) fields
fields-front front back [] within = refl
fields-front front back (field ∷ fields) within =
    let here : field_in (front ++ back) field ≡ field_in front field = ap (λ (c : Content). record { number = field.number; content = c }) (content-front front back field.value within.0.places) in
    let more = fields-front front back fields within.1 in cc (here, more)

-- ---- two messages, one after the other

both_records : (front back : List ℕ) (fields others : List WireField) → Records front fields → Records back others → Records (front ++ back) (fields ++ map (later (length front)) others)
both_records front back fields others first second =
    let place : length front + 0 ≡ 0 + length front = omega arith in
    RecordsFrom-append fields (map (later (length front)) others) 0 front back first
    (subst (λ (p : ℕ). RecordsFrom p back (map (later (length front)) others)) place (RecordsFrom-later others (length front) 0 back second))

pub IsMessage-append : (front back : List ℕ) → IsMessage front → IsMessage back → IsMessage (front ++ back)
IsMessage-append front back first second =
    (first.0 ++ map (later (length front)) second.0, both_records front back first.0 second.0 first.1 second.1)

pub fields_of-append : (front back : List ℕ) → IsMessage front → IsMessage back → fields_of (front ++ back) ≡ fields_of front ++ fields_of back
fields_of-append front back first second =
    let within = recursion_from_All (IsWithin (length front)) first.0 (all_within front first.0 first.1) in
    let both = fields_of-Records (front ++ back) (first.0 ++ map (later (length front)) second.0) (both_records front back first.0 second.0 first.1 second.1) in
    let split = map-append (field_in (front ++ back)) first.0 (map (later (length front)) second.0) in
    let left = fields-front front back first.0 within ∙ sym (fields_of-Records front first.0 first.1) in
    let right = fields-back front back second.0 ∙ sym (fields_of-Records back second.0 second.1) in
    both ∙ split ∙ ap (λ (fs : List Field). fs ++ map (field_in (front ++ back)) (map (later (length front)) second.0)) left ∙ ap (λ (fs : List Field). fields_of front ++ fs) right
