-- What records_in gives is what bytes are: records, or a fault.
use Rattle.std.proofs.Common.{◌≡◌, ℕ, zero, suc, ◌+◌, ◌<◌, ◌≤◌, inl, inr, List, [], ◌∷◌, ◌++◌, length, drop, Ok, Err, refl, sym, ap, ◌∙◌, subst, arith, length-append, append_assoc}
use Rattle.std.proofs.lemmas.Bool.{lt-ltb, le-ltb}
use Rattle.std.proofs.lemmas.List.{length-drop, append-nil}
use Rattle.proto_wire.specs.declared.field.WireField.{WireField}
use Rattle.proto_wire.specs.declared.fault.WireFault.{WireFault}
use Rattle.proto_wire.specs.Varint.{IsBytes}
use Rattle.proto_wire.specs.Records.{Begins, RecordsFrom, Records}
use Rattle.proto_wire.specs.Faults.{FaultAt, WireFaulty}
use Rattle.proto_wire.specs.Reading.{field_at}
use Rattle.proto_wire.proofs.Fronts.{groups_nonempty}
use Rattle.proto_wire.proofs.Spelled.{Stands, Stands-after, field_at-spelled, field_at-fault}
use Rattle.proto_wire.proofs.RecordLists.{message_or_fault}
use Rattle.proto_wire.proofs.Whole.{each_message}
use Rattle.proto_fields.specs.Fields.{records_from, records_in}

-- the bytes after a place are these
rest_len : (bytes : List ℕ) (at : ℕ) (piece rest : List ℕ) → Stands bytes at piece rest → length bytes ≡ at + length piece + length rest
rest_len bytes at piece rest stands =
    omega (arith, stands.room, length-drop at bytes, ap (length {A = ℕ}) stands.split, length-append piece rest)

head_len : (at : ℕ) (piece : List ℕ) (field : WireField) (head others : List ℕ) → Begins at piece field head others → (0 < length head) × (length piece ≡ length head + length others)
head_len at piece field head others begins =
    let tag = begins.spells.tag in (
      omega (arith, groups_nonempty tag begins.spells.is_tag.varint.groups, ap (length {A = ℕ}) begins.spells.whole, length-append tag begins.spells.content),
      ap (length {A = ℕ}) begins.whole ∙ length-append head others,
    )

head_stands : (bytes : List ℕ) (at : ℕ) (piece rest : List ℕ) (field : WireField) (head others : List ℕ) → Stands bytes at piece rest → Begins at piece field head others → Stands bytes at head (others ++ rest)
head_stands bytes at piece rest field head others stands begins =
    record { room = stands.room; split = stands.split ∙ ap (λ (x : List ℕ). x ++ rest) begins.whole ∙ append_assoc head others rest }

others_stand : (bytes : List ℕ) (at : ℕ) (head others rest : List ℕ) → Stands bytes at head (others ++ rest) → Stands bytes (at + length head) others rest
others_stand bytes at head others rest stands =
    let after = Stands-after bytes at head (others ++ rest) stands in record { room = after.0; split = after.1 }

-- where nothing is left, no record is
records_from-end : (most : ℕ) (bytes : List ℕ) (at : ℕ) → length bytes ≤ at → records_from most bytes at ≡ Ok []
unfolding records_from
records_from-end zero bytes at past = refl
records_from-end (suc most) bytes at past = rw (le-ltb at (length bytes) past) refl

records_from-step : (most : ℕ) (bytes : List ℕ) (at : ℕ) (field : WireField) (stop : ℕ) (fields : List WireField) →
    at < length bytes → field_at bytes at ≡ Ok (field, stop) → records_from most bytes stop ≡ Ok fields → records_from (suc most) bytes at ≡ Ok (field ∷ fields)
unfolding records_from
records_from-step most bytes at field stop fields room found more = rw (lt-ltb at (length bytes) room, found, more) refl

records_from-later : (most : ℕ) (bytes : List ℕ) (at : ℕ) (field : WireField) (stop : ℕ) (fault : WireFault) →
    at < length bytes → field_at bytes at ≡ Ok (field, stop) → records_from most bytes stop ≡ Err fault → records_from (suc most) bytes at ≡ Err fault
unfolding records_from
records_from-later most bytes at field stop fault room found more = rw (lt-ltb at (length bytes) room, found, more) refl

records_from-fault : (most : ℕ) (bytes : List ℕ) (at : ℕ) (fault : WireFault) → at < length bytes → field_at bytes at ≡ Err fault → records_from (suc most) bytes at ≡ Err fault
unfolding records_from
records_from-fault most bytes at fault room found = rw (lt-ltb at (length bytes) room, found) refl

-- records that reach to the end are found
records_from-records : (fields : List WireField) (most at : ℕ) (bytes piece : List ℕ) → Stands bytes at piece [] → RecordsFrom at piece fields → length piece ≤ most → records_from most bytes at ≡ Ok fields
records_from-records [] most at bytes piece stands none room =
    records_from-end most bytes at (omega (arith, rest_len bytes at piece [] stands, ap (length {A = ℕ}) none))
records_from-records (field ∷ fields) zero at bytes piece stands (head, others, begins, more) room =
    let len = head_len at piece field head others begins in absurd (omega (arith, len.0, len.1))
records_from-records (field ∷ fields) (suc most) at bytes piece stands (head, others, begins, more) room =
    let len = head_len at piece field head others begins in
    let here = head_stands bytes at piece [] field head others stands begins in
    records_from-step most bytes at field (at + length head) fields (omega (arith, rest_len bytes at piece [] stands, len.0, len.1))
    (field_at-spelled bytes at head (others ++ []) field here begins.spells)
    (records_from-records fields most (at + length head) bytes others (others_stand bytes at head others [] here) more (omega (arith, len.0, len.1)))

-- a fault after records is found
records_from-faulty : (fields : List WireField) (most at : ℕ) (bytes piece rest : List ℕ) (fault : WireFault) → Stands bytes at piece rest → RecordsFrom at piece fields → FaultAt (at + length piece) rest fault → 0 < length rest → length bytes ≤ at + most → records_from most bytes at ≡ Err fault
records_from-faulty fields zero at bytes piece rest fault stands records fault_at some room = absurd (omega (arith, rest_len bytes at piece rest stands))
records_from-faulty [] (suc most) at bytes piece rest fault stands none fault_at some room =
    let empty : length piece ≡ 0 = ap (length {A = ℕ}) none in
    let here : at + length piece ≡ at = omega (arith, empty) in
    let split : rest ≡ drop at bytes = sym (stands.split ∙ ap (λ (x : List ℕ). x ++ rest) none) in
    let moved : FaultAt at rest fault = subst (λ (p : ℕ). FaultAt p rest fault) here fault_at in
    records_from-fault most bytes at fault (omega (arith, rest_len bytes at piece rest stands)) (field_at-fault bytes at fault stands.room (subst (λ (x : List ℕ). FaultAt at x fault) split moved))
records_from-faulty (field ∷ fields) (suc most) at bytes piece rest fault stands (head, others, begins, more) fault_at some room =
    let len = head_len at piece field head others begins in
    let here = head_stands bytes at piece rest field head others stands begins in
    let place : at + length piece ≡ at + length head + length others = omega (arith, len.1) in
    records_from-later most bytes at field (at + length head) fault (omega (arith, rest_len bytes at piece rest stands, len.0, len.1))
    (field_at-spelled bytes at head (others ++ rest) field here begins.spells)
    (records_from-faulty fields most (at + length head) bytes others rest fault (others_stand bytes at head others rest here) more (subst (λ (p : ℕ). FaultAt p rest fault) place fault_at) some (omega (arith, len.0)))

-- records are what records_in gives
pub records_in-Records : (bytes : List ℕ) (fields : List WireField) → Records bytes fields → records_in bytes ≡ Ok fields
unfolding records_in
records_in-Records bytes fields records =
    records_from-records fields (length bytes) 0 bytes bytes (record { room = omega arith; split = sym (append-nil bytes) }) records (omega arith)

rest_nonempty : (bytes : List ℕ) (fault : WireFault) (faulty : WireFaulty bytes fault) (rest : List ℕ) → faulty.rest ≡ rest → 0 < length rest
rest_nonempty bytes fault faulty [] e =
    let whole : bytes ≡ faulty.before = faulty.whole ∙ ap (λ (x : List ℕ). faulty.before ++ x) e ∙ append-nil faulty.before in
    absurd (message_or_fault bytes faulty.fields fault (subst (λ (b : List ℕ). Records b faulty.fields) (sym whole) faulty.records) faulty)
rest_nonempty bytes fault faulty (b ∷ rest) e = omega arith

-- a fault is what records_in gives
pub records_in-WireFaulty : (bytes : List ℕ) (fault : WireFault) → WireFaulty bytes fault → records_in bytes ≡ Err fault
unfolding records_in
records_in-WireFaulty bytes fault faulty =
    let place : length faulty.before ≡ 0 + length faulty.before = omega arith in
    records_from-faulty faulty.fields (length bytes) 0 bytes faulty.before faulty.rest fault (record { room = omega arith; split = faulty.whole }) faulty.records
    (subst (λ (p : ℕ). FaultAt p faulty.rest fault) place faulty.fault_at) (rest_nonempty bytes fault faulty faulty.rest refl) (omega arith)

-- what records_in gives are records
pub Records-from_records_in : (bytes : List ℕ) (fields : List WireField) → IsBytes bytes → records_in bytes ≡ Ok fields → Records bytes fields
Records-from_records_in bytes fields fits e =
    elim (each_message bytes fits) [
      | inl found ↦ let same : found.0 ≡ fields = cc (records_in-Records bytes found.0 found.1) in subst (Records bytes) same found.1
      | inr found ↦ absurd (cc (records_in-WireFaulty bytes found.0 found.1))
    ]

-- a fault that records_in gives is the bytes' fault
pub WireFaulty-from_records_in : (bytes : List ℕ) (fault : WireFault) → IsBytes bytes → records_in bytes ≡ Err fault → WireFaulty bytes fault
WireFaulty-from_records_in bytes fault fits e =
    elim (each_message bytes fits) [
      | inl found ↦ absurd (cc (records_in-Records bytes found.0 found.1))
      | inr found ↦ let same : found.0 ≡ fault = cc (records_in-WireFaulty bytes found.0 found.1) in subst (WireFaulty bytes) same found.1
    ]
