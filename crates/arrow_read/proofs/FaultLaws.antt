-- The first fault of a stream is that of its first message that isn't read.
use Rattle.std.proofs.Common.{◌≡◌, ◌≢◌, ℕ, zero, suc, ◌-◌, ◌<◌, Bool, true, false, cond, eqb, List, ◌∷◌, length, Option, None, Some, Result, Ok, Err, arith, refl, ap, ◌∙◌, subst, sym}
use Rattle.std.specs.List.{flat_map}
use Rattle.std.proofs.lemmas.Bool.{eqb-false, ne_eqb}
use Rattle.cn_types.specs.declared.row.Row.{Row}
use Rattle.cn_types.specs.declared.schema.Schema.{Schema}
use Rattle.arrow_read.specs.declared.fault.ArrowFault.{ArrowFault}
use Rattle.arrow_read.specs.declared.fault.ArrowFault.TheVariants.{BatchCount}
use Rattle.arrow_read.specs.declared.want.Batches.{Batches}
use Rattle.arrow_read.specs.declared.want.Batches.TheVariants.{ExactlyOne, Any}
use Rattle.arrow_read.specs.declared.part.Part.{Part}
use Rattle.arrow_read.specs.Columns.{rows_of}
use Rattle.arrow_read.specs.Reading.{◌>>=◌, first_message, next_batch, and_more, batches_to, batches_from, gathered, if_wanted, stream_in}
use Rattle.arrow_read.specs.Faults.{Reaches, StreamFaulty, FaultsAreFirst}
use Rattle.arrow_read.specs.Faults.{past_schema, past_batch, of_first, of_later, of_count}
use Rattle.arrow_read.proofs.Chains.{same_Err}
use Rattle.arrow_read.proofs.BatchLoop.{progress, batches_miss, batches_more}
use Rattle.arrow_read.proofs.StreamLaws.{begins, begun, batch_stands, batches_hold, next_made, batches_read}

-- ---- the fault of a later message

pub record Faulty (bytes : List ℕ) (schema : Schema) (fault : ArrowFault) : Type 0 where
  pub at : ℕ
  pub reached : Reaches bytes schema at
  pub has : next_batch bytes schema at ≡ Err fault

first_faulty : (most : ℕ) (bytes : List ℕ) (schema : Schema) (at : ℕ) (fault : ArrowFault) → length bytes - at < most → Reaches bytes schema at → batches_to most bytes schema at ≡ Err fault → Faulty bytes schema fault
first_faulty zero bytes schema at fault l r h = absurd (omega arith)
first_faulty (suc most) bytes schema at fault l r h = by_next (next_batch bytes schema at) refl h (λ next k g e. first_faulty most bytes schema next fault k g e)
  where
    by_next : (found : Result (Option Part) ArrowFault) → next_batch bytes schema at ≡ found → (found >>= and_more (batches_to most bytes schema)) ≡ Err fault
        → ((next : ℕ) → length bytes - next < most → Reaches bytes schema next → batches_to most bytes schema next ≡ Err fault → Faulty bytes schema fault) → Faulty bytes schema fault
    by_next (Err g) e k rest = record { at = at; reached = r; has = e ∙ ap (λ (f : ArrowFault). Err f) (same_Err g fault k) }
    by_next (Ok None) e k rest = absurd (cc)
    by_next (Ok (Some part)) e k rest =
        let p = progress bytes schema at part e in
        let b = batch_stands bytes schema at part e in
        rest part.next (omega (arith, p.0, p.1)) (past_batch at part.next b.header b.body (rows_of part.columns part.count) r b.message b.holds) (more (batches_to most bytes schema part.next) k)
      where
        more : (s : Result (List (List Row)) ArrowFault) → (s >>= λ others. Ok (rows_of part.columns part.count ∷ others)) ≡ Err fault → s ≡ Err fault
        more (Ok others) g = absurd (cc)
        more (Err f) g = ap (λ (x : ArrowFault). Err x) (same_Err f fault g)

-- ---- a fault that is read is the first one

wanted_fault : (bytes : List ℕ) (want : Batches) (schema : Schema) (start : ℕ) (batches : List (List Row)) (fault : ArrowFault) → first_message bytes ≡ Ok (schema, start) → batches_from bytes schema start ≡ Ok batches
    → if_wanted want (length batches) ≡ Err fault → StreamFaulty bytes want fault
unfolding batches_from
wanted_fault bytes Any schema start batches fault a b w = absurd (cc)
wanted_fault bytes ExactlyOne schema start batches fault a b w = by_test (eqb (length batches) 1) refl w
  where
    by_test : (t : Bool) → eqb (length batches) 1 ≡ t → cond t (Ok (tt {0})) (Err (BatchCount (length batches))) ≡ Err fault → StreamFaulty bytes ExactlyOne fault
    by_test true e k = absurd (cc)
    by_test false e k =
        let hold = batches_hold (suc (length bytes - start)) bytes schema start batches (omega arith) b in
        subst (StreamFaulty bytes ExactlyOne) (same_Err (BatchCount (length batches)) fault k)
        (of_count schema batches (record { next = start; begins = begins bytes schema start a; batches_are = hold }) (eqb-false (length batches) 1 e))

-- the end of the chain, and what comes after the first message
abbrev ends_with : Schema → List Row → Unit {0} → Result (Schema × List Row) ArrowFault
ends_with schema rows wanted = Ok (schema, rows)

abbrev goes_on : Batches → Schema → List Row × ℕ → Result (Schema × List Row) ArrowFault
goes_on want schema read = if_wanted want read.1 >>= ends_with schema read.0

abbrev begins_with : List ℕ → Batches → Schema × ℕ → Result (Schema × List Row) ArrowFault
begins_with bytes want begun = gathered (batches_from bytes begun.0 begun.1) >>= goes_on want begun.0

is_first : (bytes : List ℕ) (want : Batches) (fault : ArrowFault) → stream_in bytes want ≡ Err fault → StreamFaulty bytes want fault
unfolding stream_in batches_from
is_first bytes want fault h = by_first (first_message bytes) refl h
  where
    by_batches : (schema : Schema) (place : ℕ) → first_message bytes ≡ Ok (schema, place) → (r : Result (List (List Row)) ArrowFault) → batches_from bytes schema place ≡ r
        → (gathered r >>= goes_on want schema) ≡ Err fault → StreamFaulty bytes want fault
    by_batches schema place a (Err g) e k =
        let f = first_faulty (suc (length bytes - place)) bytes schema place fault (omega arith) (past_schema place (begins bytes schema place a)) (e ∙ ap (λ (x : ArrowFault). Err x) (same_Err g fault k)) in
        of_later want fault schema f.at f.reached f.has
    by_batches schema place a (Ok batches) e k = wanted_fault bytes want schema place batches fault a e (unwanted (if_wanted want (length batches)) k)
      where
        unwanted : (w : Result (Unit {0}) ArrowFault) → (w >>= ends_with schema (flat_map (λ rows. rows) batches)) ≡ Err fault → w ≡ Err fault
        unwanted (Ok u) g = absurd (cc)
        unwanted (Err f) g = ap (λ (x : ArrowFault). Err x) (same_Err f fault g)

    by_first : (r : Result (Schema × ℕ) ArrowFault) → first_message bytes ≡ r
        → (r >>= begins_with bytes want) ≡ Err fault → StreamFaulty bytes want fault
    by_first (Err g) e k = of_first want fault (e ∙ ap (λ (x : ArrowFault). Err x) (same_Err g fault k))
    by_first (Ok (schema, place)) e k = by_batches schema place e (batches_from bytes schema place) refl k

-- ---- the first fault is read

first_miss : (bytes : List ℕ) (want : Batches) (fault : ArrowFault) → first_message bytes ≡ Err fault → stream_in bytes want ≡ Err fault
unfolding stream_in
first_miss bytes want fault h = rw h refl

batches_fault : (bytes : List ℕ) (want : Batches) (schema : Schema) (next : ℕ) (fault : ArrowFault) → first_message bytes ≡ Ok (schema, next) → batches_from bytes schema next ≡ Err fault → stream_in bytes want ≡ Err fault
unfolding stream_in
batches_fault bytes want schema next fault a b = rw (a, b) refl

count_fault : (bytes : List ℕ) (schema : Schema) (next : ℕ) (batches : List (List Row)) → first_message bytes ≡ Ok (schema, next) → batches_from bytes schema next ≡ Ok batches → length batches ≢ 1
    → stream_in bytes ExactlyOne ≡ Err (BatchCount (length batches))
unfolding stream_in
count_fault bytes schema next batches a b n = rw (a, b) (rw (ne_eqb (length batches) 1 n) refl)

reached : (bytes : List ℕ) (want : Batches) (schema : Schema) (fault : ArrowFault) {at : ℕ} → Reaches bytes schema at → batches_from bytes schema at ≡ Err fault → stream_in bytes want ≡ Err fault
reached bytes want schema fault (past_schema next b) h = batches_fault bytes want schema next fault (begun bytes schema next b) h
reached bytes want schema fault (past_batch at next header body rows r m holds) h =
    let n = next_made bytes schema at next header body rows m holds in
    let rest : batches_from bytes schema n.part.next ≡ Err fault = subst (λ (k : ℕ). batches_from bytes schema k ≡ Err fault) (sym n.next_is) h in
    reached bytes want schema fault r
    (batches_more bytes schema at n.part n.read ∙ ap (λ (s : Result (List (List Row)) ArrowFault). s >>= λ others. Ok (rows_of n.part.columns n.part.count ∷ others)) rest)

is_read : (bytes : List ℕ) {want : Batches} {fault : ArrowFault} → StreamFaulty bytes want fault → stream_in bytes want ≡ Err fault
is_read bytes (of_first want fault h) = first_miss bytes want fault h
is_read bytes (of_later want fault schema at r h) = reached bytes want schema fault r (batches_miss bytes schema at fault h)
is_read bytes (of_count schema batches holds n) = count_fault bytes schema holds.next batches (begun bytes schema holds.next holds.begins) (batches_read bytes schema holds.batches_are) n

pub faults_are_first : FaultsAreFirst
faults_are_first bytes want fault = (is_first bytes want fault, is_read bytes)
