-- What the writers append is read as the same records.
use Rattle.std.proofs.Common.{◌≡◌, ℕ, ◌+◌, ◌*◌, ◌^◌, ◌<◌, ◌≤◌, List, ◌∷◌, ◌++◌, length, refl, sym, ap, ◌∙◌, subst, arith, length-append, append_assoc}
use Rattle.std.specs.Prelude.{slice_range}
use Rattle.proto_wire.specs.declared.field.WireField.{WireField}
use Rattle.proto_wire.specs.declared.wire_type.WireType.TheVariants.{Base128}
use Rattle.proto_wire.specs.Varint.{varint}
use Rattle.proto_wire.specs.Records.{type_number, SpellsSpan, Spells, RecordsFrom, Records, number_record, span_record, number_field, payload_place, span_field}
use Rattle.proto_wire.proofs.VarintLaws.{IsVarint-varint}
use Rattle.proto_wire.proofs.RecordLists.{RecordsFrom-append}
use Rattle.proto_wire.proofs.Places.{between}

number_spelled : (at number value : ℕ) → 1 ≤ number → number ≤ 536870911 → value < 2 ^ 64 → Spells at (number_record number value) (number_field at number value)
number_spelled at number value low high fits =
    let tag_is : number * 8 ≡ number * 8 + type_number Base128 = omega arith in
    record {
      tag = varint (number * 8);
      content = varint value;
      whole = refl;
      place = refl;
      is_tag = record { low = low; high = high; varint = rw (← tag_is) (IsVarint-varint (number * 8) (omega arith)) };
      is_value = IsVarint-varint value fits;
    }

payload_spelled : (at : ℕ) (payload : List ℕ) → length payload < 2 ^ 64 → SpellsSpan at (varint (length payload) ++ payload) (at + length (varint (length payload))) (at + length (varint (length payload)) + length payload)
payload_spelled at payload fits =
    record { size = varint (length payload); payload = payload; whole = refl; size_is = IsVarint-varint (length payload) fits; start_is = refl; stop_is = refl }

span_spelled : (at number : ℕ) (payload : List ℕ) → 1 ≤ number → number ≤ 536870911 → length payload < 2 ^ 64 → Spells at (span_record number payload) (span_field at number payload)
span_spelled at number payload low high fits =
    record {
      tag = varint (number * 8 + 2);
      content = varint (length payload) ++ payload;
      whole = append_assoc (varint (number * 8 + 2)) (varint (length payload)) payload;
      place = refl;
      is_tag = record { low = low; high = high; varint = IsVarint-varint (number * 8 + 2) (omega arith) };
      is_value = payload_spelled (at + length (varint (number * 8 + 2))) payload fits;
    }

pub number_first : (at : ℕ) (rest : List ℕ) (fields : List WireField) (number value : ℕ) → 1 ≤ number → number ≤ 536870911 → value < 2 ^ 64 →
    RecordsFrom (at + length (number_record number value)) rest fields → RecordsFrom at (number_record number value ++ rest) (number_field at number value ∷ fields)
number_first at rest fields number value low high fits more =
    (number_record number value, rest, record { whole = refl; spells = number_spelled at number value low high fits }, more)

pub span_first : (at : ℕ) (payload rest : List ℕ) (fields : List WireField) (number : ℕ) → 1 ≤ number → number ≤ 536870911 → length payload < 2 ^ 64 →
    RecordsFrom (at + length (span_record number payload)) rest fields → RecordsFrom at (span_record number payload ++ rest) (span_field at number payload ∷ fields)
span_first at payload rest fields number low high fits more =
    (span_record number payload, rest, record { whole = refl; spells = span_spelled at number payload low high fits }, more)

-- records from the end of other records on
records_after : (before back : List ℕ) (fields others : List WireField) → Records before fields → RecordsFrom (length before) back others → Records (before ++ back) (fields ++ others)
records_after before back fields others first last =
    let place : length before ≡ 0 + length before = omega arith in
    RecordsFrom-append fields others 0 before back first (subst (λ (p : ℕ). RecordsFrom p back others) place last)

pub number_read : (before after : List ℕ) (fields others : List WireField) (number value : ℕ) → 1 ≤ number → number ≤ 536870911 → value < 2 ^ 64 → Records before fields → RecordsFrom (length before + length (number_record number value)) after others →
    Records (before ++ (number_record number value ++ after)) (fields ++ number_field (length before) number value ∷ others)
number_read before after fields others number value low high fits first last =
    records_after before (number_record number value ++ after) fields (number_field (length before) number value ∷ others) first (number_first (length before) after others number value low high fits last)

pub span_read : (before after payload : List ℕ) (fields others : List WireField) (number : ℕ) → 1 ≤ number → number ≤ 536870911 → length payload < 2 ^ 64 → Records before fields → RecordsFrom (length before + length (span_record number payload)) after others →
    Records (before ++ (span_record number payload ++ after)) (fields ++ span_field (length before) number payload ∷ others)
span_read before after payload fields others number low high fits first last =
    records_after before (span_record number payload ++ after) fields (span_field (length before) number payload ∷ others) first (span_first (length before) payload after others number low high fits last)

pub payload_read : (before after payload : List ℕ) (number : ℕ) →
    slice_range (before ++ (span_record number payload ++ after)) (payload_place (length before) number payload) (payload_place (length before) number payload + length payload) ≡ payload
payload_read before after payload number =
    let tag = varint (number * 8 + 2) in
    let size = varint (length payload) in
    let start = payload_place (length before) number payload in
    let front = before ++ (tag ++ size) in
    let whole : before ++ (span_record number payload ++ after) ≡ front ++ (payload ++ after) =
    ap (λ (x : List ℕ). before ++ x) (append_assoc (tag ++ size) payload after) ∙ sym (append_assoc before (tag ++ size) (payload ++ after)) in
    let len : length front ≡ length before + length tag + length size = omega (arith, length-append before (tag ++ size), length-append tag size) in
    ap (λ (x : List ℕ). slice_range x start (start + length payload)) whole ∙ between front payload after start (start + length payload) (sym len) (omega (arith, len))
