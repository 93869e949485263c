-- The loop over a message, and that each list of bytes is one or has a fault.
use Rattle.std.proofs.Common.{◌≡◌, ℕ, zero, suc, ◌+◌, ◌<◌, ◌≤◌, ◌⊎◌, inl, inr, List, [], ◌∷◌, ◌++◌, length, take, drop, Result, Ok, Err, refl, sym, ap, ◌∙◌, subst, arith, length-append, append_assoc}
use Rattle.std.proofs.lemmas.List.{length-take-le, take-append-drop, take_at, append-nil}
use Rattle.std.proofs.Math.Seq.{take-add}
use Rattle.proto_wire.specs.declared.field.WireField.{WireField}
use Rattle.proto_wire.specs.declared.fault.WireFault.{WireFault}
use Rattle.proto_wire.specs.declared.fault.WireFault.TheVariants.{Truncated, VarintTooLong, BadTag, OutOfMemory}
use Rattle.proto_wire.specs.Varint.{IsBytes}
use Rattle.proto_wire.specs.Records.{Begins, RecordsFrom, Records}
use Rattle.proto_wire.specs.Faults.{FaultAt, WireFaulty, IsCaused, Gives}
use Rattle.proto_wire.specs.Reading.{field_at}
use Rattle.proto_wire.proofs.Fronts.{IsBytes-rest, front_of, record_front, fault_front, groups_nonempty}
use Rattle.proto_wire.proofs.RecordLists.{RecordsFrom-append, found_stands, failed_at}

-- ---- the loop

pub one_more : (bytes : List ℕ) (at : ℕ) (fields : List WireField) (field : WireField) (stop : ℕ) → IsBytes bytes → at < length bytes → Records (take at bytes) fields → field_at bytes at ≡ Ok (field, stop) → Records (take stop bytes) (fields ++ field ∷ [])
one_more bytes at fields field stop fits room found e =
    let here = found_stands bytes at field stop fits room e in
    let head = here.head in
    let front : take (length head) (drop at bytes) ≡ head = ap (take (length head)) here.stands.split ∙ take_at head here.rest (length head) refl in
    let whole : take stop bytes ≡ take at bytes ++ head = ap (λ (n : ℕ). take n bytes) here.stop_is ∙ take-add at (length head) bytes ∙ ap (λ (x : List ℕ). take at bytes ++ x) front in
    let place : at ≡ 0 + length (take at bytes) = omega (arith, length-take-le at bytes (omega arith)) in
    let last : RecordsFrom at head (field ∷ []) = (head, [], record { whole = sym (append-nil head); spells = here.spells }, refl) in
    let moved : RecordsFrom (0 + length (take at bytes)) head (field ∷ []) = subst (λ (p : ℕ). RecordsFrom p head (field ∷ [])) place last in
    rw whole (RecordsFrom-append fields (field ∷ []) 0 (take at bytes) head found moved)

pub is_faulty : (bytes : List ℕ) (at : ℕ) (fields : List WireField) (fault : WireFault) → IsBytes bytes → at < length bytes → Records (take at bytes) fields → field_at bytes at ≡ Err fault → WireFaulty bytes fault
is_faulty bytes at fields fault fits room found e =
    let place : length (take at bytes) ≡ at = length-take-le at bytes (omega arith) in
    record { fields = fields; before = take at bytes; rest = drop at bytes; whole = sym (take-append-drop at bytes); records = found; fault_at = rw place (failed_at bytes at fault fits room e) }

pub IsCaused-faulty : (bytes : List ℕ) (fault : WireFault) → WireFaulty bytes fault → IsCaused bytes fault
IsCaused-faulty bytes (Truncated place) faulty = faulty
IsCaused-faulty bytes (VarintTooLong place) faulty = faulty
IsCaused-faulty bytes (BadTag place) faulty = faulty
IsCaused-faulty bytes OutOfMemory faulty = tt

pub Gives-same : {A : Type 0} (fault : WireFault) (expected : Result A WireFault) → expected ≡ Err fault → Gives (Err fault) expected
Gives-same (Truncated place) expected e = e
Gives-same (VarintTooLong place) expected e = e
Gives-same (BadTag place) expected e = e
Gives-same OutOfMemory expected e = tt

-- ---- each list of bytes

-- what bytes from a place on are
data Course (at : ℕ) (bytes : List ℕ) : Type 0 where
  all_records : (fields : List WireField) → RecordsFrom at bytes fields → Course at bytes
  to_fault : (fields : List WireField) (before rest : List ℕ) (fault : WireFault) → bytes ≡ before ++ rest → RecordsFrom at before fields → FaultAt (at + length before) rest fault → Course at bytes

with_record : (at : ℕ) (bytes : List ℕ) (field : WireField) (head rest : List ℕ) → Begins at bytes field head rest → Course (at + length head) rest → Course at bytes
with_record at bytes field head rest begins (all_records fields more) = all_records (field ∷ fields) (head, rest, begins, more)
with_record at bytes field head rest begins (to_fault fields before after fault whole more fault_at) =
    let split : bytes ≡ (head ++ before) ++ after = begins.whole ∙ ap (λ (x : List ℕ). head ++ x) whole ∙ sym (append_assoc head before after) in
    let place : at + length head + length before ≡ at + length (head ++ before) = omega (arith, length-append head before) in
    to_fault (field ∷ fields) (head ++ before) after fault split (head, before, record { whole = refl; spells = begins.spells }, more)
    (subst (λ (p : ℕ). FaultAt p after fault) place fault_at)

shorter : (at : ℕ) (bytes : List ℕ) (field : WireField) (head rest : List ℕ) → Begins at bytes field head rest → length rest < length bytes
shorter at bytes field head rest begins =
    let tag = begins.spells.tag in
    omega (arith, groups_nonempty tag begins.spells.is_tag.varint.groups, ap (length {A = ℕ}) begins.whole, length-append head rest, ap (length {A = ℕ}) begins.spells.whole, length-append tag begins.spells.content)

course_of : (most at : ℕ) (bytes : List ℕ) → length bytes ≤ most → IsBytes bytes → Course at bytes
course_of most at [] room fits = all_records [] refl
course_of zero at (b ∷ bytes) room fits = absurd (omega arith)
course_of (suc most) at (b ∷ bytes) room fits =
    elim (front_of at (b ∷ bytes) fits (omega arith)) [
      | record_front field head rest begins ↦
          with_record at (b ∷ bytes) field head rest begins
          (course_of most (at + length head) rest (omega (arith, shorter at (b ∷ bytes) field head rest begins)) (IsBytes-rest head rest (subst IsBytes begins.whole fits)))
      | fault_front fault fault_at ↦
          let place : at ≡ at + 0 = omega arith in
          to_fault [] [] (b ∷ bytes) fault refl refl (subst (λ (p : ℕ). FaultAt p (b ∷ bytes) fault) place fault_at)
    ]

pub each_message : (bytes : List ℕ) → IsBytes bytes → ((fields : List WireField) × Records bytes fields) ⊎ ((fault : WireFault) × WireFaulty bytes fault)
each_message bytes fits =
    elim (course_of (length bytes) 0 bytes (omega arith) fits) [
      | all_records fields records ↦ inl (fields, records)
      | to_fault fields before rest fault whole records fault_at ↦
          let place : 0 + length before ≡ length before = omega arith in
          inr (fault, record { fields = fields; before = before; rest = rest; whole = whole; records = records; fault_at = subst (λ (p : ℕ). FaultAt p rest fault) place fault_at })
    ]
