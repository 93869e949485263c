-- Lists of records: one after another, and that bytes have one reading.
use Rattle.std.proofs.Common.{◌≡◌, ℕ, ◌+◌, ◌<◌, ◌≤◌, inl, inr, List, [], ◌∷◌, ◌++◌, length, take, drop, Result, Ok, Err, refl, sym, ap, ◌∙◌, subst, arith, length-append, append_assoc}
use Rattle.std.proofs.lemmas.List.{length-drop, take-append-drop, drop_all, append-nil}
use Rattle.proto_wire.specs.declared.field.WireField.{WireField}
use Rattle.proto_wire.specs.declared.fault.WireFault.{WireFault}
use Rattle.proto_wire.specs.declared.fault.WireFault.TheVariants.{Truncated, VarintTooLong, BadTag, OutOfMemory}
use Rattle.proto_wire.specs.Varint.{IsBytes, IsVarint}
use Rattle.proto_wire.specs.Records.{Spells, Begins, RecordsFrom, Records}
use Rattle.proto_wire.specs.Faults.{StartsTooLong, FaultAt, WireFaulty}
use Rattle.proto_wire.specs.Reading.{field_at}
use Rattle.proto_wire.proofs.Fronts.{IsBytes-rest, front_of, record_front, fault_front, groups_nonempty}
use Rattle.proto_wire.proofs.Spelled.{Stands, Stands-after, field_at-spelled, field_at-fault, cut_tag}

-- records, and then records from where these end
pub RecordsFrom-append : (fields others : List WireField) (at : ℕ) (front back : List ℕ) → RecordsFrom at front fields → RecordsFrom (at + length front) back others → RecordsFrom at (front ++ back) (fields ++ others)
RecordsFrom-append [] others at front back first second =
    let none : at + length front ≡ at = omega (arith, ap (length {A = ℕ}) first) in
    let same : front ++ back ≡ back = ap (λ (x : List ℕ). x ++ back) first in
    let moved : RecordsFrom at back others = subst (λ (p : ℕ). RecordsFrom p back others) none second in
    subst (λ (x : List ℕ). RecordsFrom at x others) (sym same) moved
RecordsFrom-append (field ∷ fields) others at front back (head, rest, begins, more) second =
    let len : length front ≡ length head + length rest = ap (length {A = ℕ}) begins.whole ∙ length-append head rest in
    let place : at + length front ≡ at + length head + length rest = omega (arith, len) in
    let moved : RecordsFrom (at + length head + length rest) back others = subst (λ (p : ℕ). RecordsFrom p back others) place second in
    let whole : front ++ back ≡ head ++ (rest ++ back) = ap (λ (x : List ℕ). x ++ back) begins.whole ∙ append_assoc head rest back in
    (head, rest ++ back, record { whole = whole; spells = begins.spells }, RecordsFrom-append fields others (at + length head) rest back more moved)

-- ---- one reading

-- no record is found at a place
abbrev Stops : List ℕ → ℕ → Type 0
Stops bytes at = (found : WireField × ℕ) → field_at bytes at ≡ Ok found → ⊥

found_head : (bytes piece rest : List ℕ) (at : ℕ) (field : WireField) (head others : List ℕ) → Stands bytes at piece rest → Begins at piece field head others → field_at bytes at ≡ Ok (field, at + length head)
found_head bytes piece rest at field head others stands begins =
    field_at-spelled bytes at head (others ++ rest) field
    (record { room = stands.room; split = stands.split ∙ ap (λ (x : List ℕ). x ++ rest) begins.whole ∙ append_assoc head others rest }) begins.spells

after_head : (bytes piece rest : List ℕ) (at : ℕ) (field : WireField) (head others : List ℕ) → Stands bytes at piece rest → Begins at piece field head others → Stands bytes (at + length head) others rest
after_head bytes piece rest at field head others stands begins =
    let whole : drop at bytes ≡ head ++ (others ++ rest) = stands.split ∙ ap (λ (x : List ℕ). x ++ rest) begins.whole ∙ append_assoc head others rest in
    let after = Stands-after bytes at head (others ++ rest) (record { room = stands.room; split = whole }) in
    record { room = after.0; split = after.1 }

stop_moves : (at start stop : ℕ) (piece head others : List ℕ) → piece ≡ head ++ others → at + length piece ≡ stop → at + length head + length others ≡ stop
stop_moves at start stop piece head others whole e = omega (arith, ap (length {A = ℕ}) whole, length-append head others)

same_answer : (f g : WireField) (a b : ℕ) (r : Result (WireField × ℕ) WireFault) → r ≡ Ok (f, a) → r ≡ Ok (g, b) → (f ≡ g) × (a ≡ b)
same_answer f g a b r first second =
    let e : ◌≡◌ {A = WireField × ℕ} (f, a) (g, b) = cc in (ap (λ (p : WireField × ℕ). p.0) e, ap (λ (p : WireField × ℕ). p.1) e)

-- two lists of records that begin at one place, each up to a place where none is found, are one list
one_prefix : (fields others : List WireField) (bytes a x b y : List ℕ) (at place stop halt : ℕ) → at ≡ place → Stands bytes at a x → Stands bytes place b y →
    RecordsFrom at a fields → RecordsFrom place b others → at + length a ≡ stop → place + length b ≡ halt → Stops bytes stop → Stops bytes halt → (fields ≡ others) × (stop ≡ halt)
one_prefix [] [] bytes a x b y at place stop halt same first second none also stop_is halt_is stops halts =
    (refl, omega (arith, ap (length {A = ℕ}) none, ap (length {A = ℕ}) also))
one_prefix [] (g ∷ gs) bytes a x b y at place stop halt same first second none (head, rest, begins, more) stop_is halt_is stops halts =
    let here : place ≡ stop = omega (arith, ap (length {A = ℕ}) none) in
    absurd (stops (g, place + length head) (ap (field_at bytes) (sym here) ∙ found_head bytes b y place g head rest second begins))
one_prefix (f ∷ fs) [] bytes a x b y at place stop halt same first second (head, rest, begins, more) none stop_is halt_is stops halts =
    let here : at ≡ halt = omega (arith, ap (length {A = ℕ}) none) in
    absurd (halts (f, at + length head) (ap (field_at bytes) (sym here) ∙ found_head bytes a x at f head rest first begins))
one_prefix (f ∷ fs) (g ∷ gs) bytes a x b y at place stop halt same first second (head, rest, begins, more) (head', rest', begins', more') stop_is halt_is stops halts =
    let found = found_head bytes a x at f head rest first begins in
    let found' = ap (field_at bytes) same ∙ found_head bytes b y place g head' rest' second begins' in
    let one = same_answer f g (at + length head) (place + length head') (field_at bytes at) found found' in
    let others = one_prefix fs gs bytes rest x rest' y (at + length head) (place + length head') stop halt one.1
    (after_head bytes a x at f head rest first begins) (after_head bytes b y place g head' rest' second begins') more more'
    (stop_moves at at stop a head rest begins.whole stop_is) (stop_moves place place halt b head' rest' begins'.whole halt_is) stops halts in
    (cc (one.0, others.0), others.1)

-- ---- where reading stops

stops_at_end : (bytes : List ℕ) → Stops bytes (length bytes)
stops_at_end bytes found e =
    let none : drop (length bytes) bytes ≡ [] = drop_all (length bytes) bytes (omega arith) in
    let ended = cut_tag bytes (length bytes) (record { continued = rw none tt; short = rw none (omega arith) }) in
    absurd cc

stops_at_fault : (bytes : List ℕ) (at : ℕ) (fault : WireFault) → at ≤ length bytes → FaultAt at (drop at bytes) fault → Stops bytes at
stops_at_fault bytes at fault room fault_at found e =
    let failed = field_at-fault bytes at fault room fault_at in absurd cc

varint_nonempty : (bytes spelling rest : List ℕ) (number : ℕ) → bytes ≡ spelling ++ rest → IsVarint spelling number → 0 < length bytes
varint_nonempty bytes spelling rest number whole is =
    omega (arith, groups_nonempty spelling is.groups, ap (length {A = ℕ}) whole, length-append spelling rest)

long_nonempty : (bytes : List ℕ) → StartsTooLong bytes → 0 < length bytes
long_nonempty bytes long = omega (arith, long.ten, ap (length {A = ℕ}) long.whole, length-append long.groups long.rest)

fault_nonempty : (at : ℕ) (bytes : List ℕ) (fault : WireFault) → FaultAt at bytes fault → 0 < length bytes
fault_nonempty at bytes (Truncated place) (place_is, inl ends) = ends.0
fault_nonempty at bytes (Truncated place) (place_is, inr (tag, then)) = varint_nonempty bytes tag then.rest _ then.whole then.is_tag.varint
fault_nonempty at bytes (VarintTooLong place) (inl (place_is, long)) = long_nonempty bytes long
fault_nonempty at bytes (VarintTooLong place) (inr (tag, place_is, then)) = varint_nonempty bytes tag then.rest _ then.whole then.is_tag.varint
fault_nonempty at bytes (BadTag place) (place_is, starts) = varint_nonempty bytes starts.tag starts.rest _ starts.whole starts.tag_is
fault_nonempty at bytes OutOfMemory fault_at = absurd fault_at

-- ---- whole messages

all_stands : (bytes : List ℕ) → Stands bytes 0 bytes []
all_stands bytes = record { room = omega arith; split = sym (append-nil bytes) }

before_stands : (bytes : List ℕ) (fault : WireFault) (faulty : WireFaulty bytes fault) → Stands bytes 0 faulty.before faulty.rest
before_stands bytes fault faulty = record { room = omega arith; split = faulty.whole }

-- the fault stands where the records before it end
fault_stands : (bytes : List ℕ) (fault : WireFault) (faulty : WireFaulty bytes fault) → (length faulty.before ≤ length bytes) × FaultAt (length faulty.before) (drop (length faulty.before) bytes) fault
fault_stands bytes fault faulty =
    let after = Stands-after bytes 0 faulty.before faulty.rest (before_stands bytes fault faulty) in
    let from_zero : 0 + length faulty.before ≡ length faulty.before = omega arith in
    let rest_is : drop (length faulty.before) bytes ≡ faulty.rest = subst (λ (p : ℕ). drop p bytes ≡ faulty.rest) from_zero after.1 in
    (omega (arith, after.0), rw rest_is faulty.fault_at)

pub one_message : (bytes : List ℕ) (fields others : List WireField) → Records bytes fields → Records bytes others → fields ≡ others
one_message bytes fields others first second =
    let result = one_prefix fields others bytes bytes [] bytes [] 0 0 (length bytes) (length bytes) refl (all_stands bytes) (all_stands bytes) first second (omega arith) (omega arith) (stops_at_end bytes) (stops_at_end bytes) in result.0

pub message_or_fault : (bytes : List ℕ) (fields : List WireField) (fault : WireFault) → Records bytes fields → WireFaulty bytes fault → ⊥
message_or_fault bytes fields fault first faulty =
    let stands = fault_stands bytes fault faulty in
    let result = one_prefix fields faulty.fields bytes bytes [] faulty.before faulty.rest 0 0 (length bytes) (length faulty.before) refl (all_stands bytes) (before_stands bytes fault faulty)
    first faulty.records (omega arith) (omega arith) (stops_at_end bytes) (stops_at_fault bytes (length faulty.before) fault stands.0 stands.1) in
    let some = fault_nonempty (length faulty.before) faulty.rest fault faulty.fault_at in
    absurd (omega (arith, result.1, some, ap (length {A = ℕ}) faulty.whole, length-append faulty.before faulty.rest))

pub one_fault : (bytes : List ℕ) (fault other : WireFault) (first : WireFaulty bytes fault) (second : WireFaulty bytes other) → (fault ≡ other) × (first.fields ≡ second.fields)
one_fault bytes fault other first second =
    let stands = fault_stands bytes fault first in
    let stands' = fault_stands bytes other second in
    let result = one_prefix first.fields second.fields bytes first.before first.rest second.before second.rest 0 0 (length first.before) (length second.before) refl (before_stands bytes fault first) (before_stands bytes other second)
    first.records second.records (omega arith) (omega arith) (stops_at_fault bytes (length first.before) fault stands.0 stands.1) (stops_at_fault bytes (length second.before) other stands'.0 stands'.1) in
    let failed = field_at-fault bytes (length first.before) fault stands.0 stands.1 in
    let failed' = ap (field_at bytes) result.1 ∙ field_at-fault bytes (length second.before) other stands'.0 stands'.1 in
    (cc, result.0)

-- ---- what is found at a place

bytes_from : (bytes : List ℕ) (at : ℕ) → IsBytes bytes → IsBytes (drop at bytes)
bytes_from bytes at fits = IsBytes-rest (take at bytes) (drop at bytes) (subst IsBytes (sym (take-append-drop at bytes)) fits)

-- a record that was found stands there
pub record Found (bytes : List ℕ) (at : ℕ) (field : WireField) (stop : ℕ) : Type 0 where
  pub head : List ℕ
  pub rest : List ℕ
  pub stands : Stands bytes at head rest
  pub spells : Spells at head field
  pub stop_is : stop ≡ at + length head

pub found_stands : (bytes : List ℕ) (at : ℕ) (field : WireField) (stop : ℕ) → IsBytes bytes → at < length bytes → field_at bytes at ≡ Ok (field, stop) → Found bytes at field stop
found_stands bytes at field stop fits room e =
    elim (front_of at (drop at bytes) (bytes_from bytes at fits) (omega (arith, length-drop at bytes))) [
      | record_front other head rest begins ↦
          let stands : Stands bytes at head rest = record { room = omega arith; split = begins.whole } in
          let found = field_at-spelled bytes at head rest other stands begins.spells in
          let same = same_answer other field (at + length head) stop (field_at bytes at) found e in
          record { head = head; rest = rest; stands = stands; spells = subst (λ (f : WireField). Spells at head f) same.0 begins.spells; stop_is = sym same.1 }
      | fault_front fault fault_at ↦ let failed = field_at-fault bytes at fault (omega arith) fault_at in absurd cc
    ]

pub failed_at : (bytes : List ℕ) (at : ℕ) (fault : WireFault) → IsBytes bytes → at < length bytes → field_at bytes at ≡ Err fault → FaultAt at (drop at bytes) fault
failed_at bytes at fault fits room e =
    elim (front_of at (drop at bytes) (bytes_from bytes at fits) (omega (arith, length-drop at bytes))) [
      | record_front other head rest begins ↦
          let stands : Stands bytes at head rest = record { room = omega arith; split = begins.whole } in
          let found = field_at-spelled bytes at head rest other stands begins.spells in absurd cc
      | fault_front other fault_at ↦
          let failed = field_at-fault bytes at other (omega arith) fault_at in
          let same : other ≡ fault = cc in
          subst (λ (f : WireFault). FaultAt at (drop at bytes) f) same fault_at
    ]
