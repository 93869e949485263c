-- Laws over the definitions, for all bytes.
use Rattle.std.specs.Prelude.{◌≡◌, ℕ, ◌+◌, ◌≤◌, ◌<◌, ◌^◌, ◌⊎◌, List, ◌∷◌, ◌++◌, length, slice_range}
use Rattle.proto_wire.specs.declared.fault.WireFault.{WireFault}
use Rattle.proto_wire.specs.declared.field.WireField.{WireField}
use Rattle.proto_wire.specs.Varint.{IsBytes, IsVarint, varint}
use Rattle.proto_wire.specs.Records.{SpellsSpan, RecordsFrom, Records, number_record, span_record, number_field, payload_place, span_field}
use Rattle.proto_wire.specs.Faults.{WireFaulty}

-- bytes are one list of records at most
abbrev pub RecordsAreOne : Type 0
RecordsAreOne = (bytes : List ℕ) (fields others : List WireField) → Records bytes fields → Records bytes others → fields ≡ others

-- bytes have one fault at most, after the same records: no earlier place has one
abbrev pub FaultIsOne : Type 0
FaultIsOne = (bytes : List ℕ) (fault other : WireFault) (first : WireFaulty bytes fault) (second : WireFaulty bytes other) →
    (fault ≡ other) × (first.fields ≡ second.fields)

-- no bytes are records and have a fault
abbrev pub RecordsHaveNoFault : Type 0
RecordsHaveNoFault = (bytes : List ℕ) (fields : List WireField) (fault : WireFault) → Records bytes fields → ¬ WireFaulty bytes fault

-- all bytes are records or have a fault
abbrev pub RecordsOrFault : Type 0
RecordsOrFault = (bytes : List ℕ) → IsBytes bytes →
    ((fields : List WireField) × Records bytes fields) ⊎ ((fault : WireFault) × WireFaulty bytes fault)

-- the shortest varint of a number spells it, and no spelling of the number is shorter
abbrev pub VarintIsShortest : Type 0
VarintIsShortest = (number : ℕ) → number < 2 ^ 64 →
    IsVarint (varint number) number × ((other : List ℕ) → IsVarint other number → length (varint number) ≤ length other)

-- records one after another, in two parts, are the records of both
abbrev pub RecordsJoin : Type 0
RecordsJoin = (at : ℕ) (front back : List ℕ) (fields others : List WireField) →
    RecordsFrom at front fields → RecordsFrom (at + length front) back others → RecordsFrom at (front ++ back) (fields ++ others)

-- what put_number appends is one record where it stands, and the records after it follow
abbrev pub NumberBegins : Type 0
NumberBegins = (at : ℕ) (rest : List ℕ) (fields : List WireField) (number value : ℕ) →
    1 ≤ number → number ≤ 536870911 → value < 2 ^ 64 →
    RecordsFrom (at + length (number_record number value)) rest fields →
    RecordsFrom at (number_record number value ++ rest) (number_field at number value ∷ fields)

-- what put_span appends is one record where it stands, and the records after it follow
abbrev pub SpanBegins : Type 0
SpanBegins = (at : ℕ) (payload rest : List ℕ) (fields : List WireField) (number : ℕ) →
    1 ≤ number → number ≤ 536870911 → length payload < 2 ^ 64 →
    RecordsFrom (at + length (span_record number payload)) rest fields →
    RecordsFrom at (span_record number payload ++ rest) (span_field at number payload ∷ fields)

-- what put_number appends is read as this record, whatever stands before and after it
abbrev pub NumberIsRead : Type 0
NumberIsRead = (before after : List ℕ) (fields others : List WireField) (number value : ℕ) →
    1 ≤ number → number ≤ 536870911 → value < 2 ^ 64 →
    Records before fields → RecordsFrom (length before + length (number_record number value)) after others →
    Records (before ++ (number_record number value ++ after)) (fields ++ number_field (length before) number value ∷ others)

-- what put_span appends is read as this record, whatever stands before and after it
abbrev pub SpanIsRead : Type 0
SpanIsRead = (before after payload : List ℕ) (fields others : List WireField) (number : ℕ) →
    1 ≤ number → number ≤ 536870911 → length payload < 2 ^ 64 →
    Records before fields → RecordsFrom (length before + length (span_record number payload)) after others →
    Records (before ++ (span_record number payload ++ after)) (fields ++ span_field (length before) number payload ∷ others)

-- the places of the record that put_span appends are those of the payload
abbrev pub PayloadIsSlice : Type 0
PayloadIsSlice = (before after payload : List ℕ) (number : ℕ) →
    let start = payload_place (length before) number payload in
    slice_range (before ++ (span_record number payload ++ after)) start (start + length payload) ≡ payload

-- the payload of a span that is spelled at its place in the bytes is what stands between its places
abbrev pub SpanIsSlice : Type 0
SpanIsSlice = (before content after : List ℕ) (start stop : ℕ) (span : SpellsSpan (length before) content start stop) →
    slice_range (before ++ (content ++ after)) start stop ≡ span.payload
