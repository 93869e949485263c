-- A stream is read exactly where the bytes hold it.
use Rattle.std.proofs.Common.{◌≡◌, ℕ, zero, suc, ◌+◌, ◌-◌, ◌<◌, inl, inr, Bool, true, false, cond, eqb, List, [], ◌∷◌, length, Option, None, Some, Result, Ok, Err, arith, refl, ap, ◌∙◌, subst, sym}
use Rattle.std.specs.Prelude.{pos, option_map}
use Rattle.std.specs.List.{flat_map}
use Rattle.std.proofs.lemmas.Bool.{eqb-true, eq-eqb, ne_eqb}
use Rattle.std.proofs.lemmas.Option.{same_Some}
use Rattle.std.proofs.lemmas.List.{append-nil}
use Rattle.cn_types.specs.declared.row.Row.{Row}
use Rattle.cn_types.specs.declared.schema.Schema.{Schema}
use Rattle.flat_tables.specs.Views.{TableView}
use Rattle.arrow_ipc.specs.Holds.{MessageAt, IsEnd, BatchHolds, BatchesHold, BeginsWithSchema, Holds, WrittenStreamsHold}
use Rattle.arrow_ipc.specs.Holds.{over, batch}
use Rattle.arrow_read.specs.declared.fault.ArrowFault.{ArrowFault}
use Rattle.arrow_read.specs.declared.fault.ArrowFault.TheVariants.{BadTable, Truncated, BatchCount}
use Rattle.arrow_read.specs.declared.want.Batches.{Batches}
use Rattle.arrow_read.specs.declared.want.Batches.TheVariants.{ExactlyOne, Any}
use Rattle.arrow_read.specs.declared.head.Head.{Head}
use Rattle.arrow_read.specs.declared.batch.BatchTables.{BatchTables}
use Rattle.arrow_read.specs.declared.part.Part.{Part}
use Rattle.arrow_read.specs.Tables.{FieldView, head_in, schema_in, first_header, batch_in, later_header}
use Rattle.arrow_read.specs.Columns.{rows_of}
use Rattle.arrow_read.specs.Reading.{◌>>=◌, or_fault, metadata_size, metadata_at, body_at, schema_of, if_more, first_message, if_plain, batch_at, one_more, mark_or_batch, next_batch, and_more, batches_to, batches_from, gathered, if_wanted, stream_in}
use Rattle.arrow_read.specs.Laws.{IsWanted, HoldsWanted, StreamsAreRead, StreamsHoldOne, WrittenStreamsAreRead}
use Rattle.arrow_read.proofs.Chains.{same_Ok, bind_ok, fault_ok}
use Rattle.arrow_read.proofs.SchemaLaws.{schema_holds, schema_read}
use Rattle.arrow_read.proofs.MessageLaws.{metadata_is, is_metadata, message_stands, message_read}
use Rattle.arrow_read.proofs.BufferLaws.{within_of}
use Rattle.arrow_read.proofs.BatchLoop.{batch_is, next_is, progress, batches_end, batches_more}
use Rattle.arrow_read.proofs.RowLaws.{batch_holds, batch_made}

-- ---- the beginning

pub more_is : (size found : ℕ) → if_more size ≡ Ok found → eqb size 0 ≡ false
more_is size found h = by_test (eqb size 0) refl h
  where
    by_test : (b : Bool) → eqb size 0 ≡ b → cond b (Err Truncated) (Ok size) ≡ Ok found → eqb size 0 ≡ false
    by_test true e k = absurd (cc)
    by_test false e k = e

-- a schema's header
schema_header : (head : Head) (fields : Option (List FieldView)) (schema : Schema) → first_header head ≡ Some fields → schema_of fields ≡ Ok schema → (head.number ≡ 1) × (schema_in head.header ≡ Some fields)
schema_header head fields schema h k = by_one (eqb head.number 1) refl h
  where
    no_schema : Some None ≡ Some fields → ⊥
    no_schema e = let bad : schema_of None ≡ Ok schema = subst (λ (o : Option (List FieldView)). schema_of o ≡ Ok schema) (sym (same_Some None fields e)) k in cc

    by_three : (b : Bool) → cond b None (Some None) ≡ Some fields → ⊥
    by_three true g = cc
    by_three false g = no_schema g

    by_one : (b : Bool) → eqb head.number 1 ≡ b → cond b (schema_in head.header) (cond (eqb head.number 3) None (Some None)) ≡ Some fields → (head.number ≡ 1) × (schema_in head.header ≡ Some fields)
    by_one true e g = (eqb-true head.number 1 e, g)
    by_one false e g = absurd (by_three (eqb head.number 3) g)

pub begins : (bytes : List ℕ) (schema : Schema) (next : ℕ) → first_message bytes ≡ Ok (schema, next) → BeginsWithSchema bytes schema next
unfolding first_message
begins bytes schema next h =
    let (size, es, h1) = bind_ok (metadata_size bytes 0) _ (schema, next) h in
    let (more, em, h2) = bind_ok (if_more size) _ (schema, next) h1 in
    let (head, eh, h3) = bind_ok (or_fault (BadTable 0) (head_in (metadata_at bytes 0 size))) _ (schema, next) h2 in
    let (fields, ef, h4) = bind_ok (or_fault (BadTable 0) (first_header head)) _ (schema, next) h3 in
    let (found, ek, h5) = bind_ok (schema_of fields) _ (schema, next) h4 in
    let (body, eb, h6) = bind_ok (body_at bytes (8 + size) head.body) _ (schema, next) h5 in
    let s = schema_header head fields found (fault_ok (BadTable 0) (first_header head) fields ef) ek in
    let same : (found, 8 + size + head.body) ≡ (schema, next) = same_Ok (found, 8 + size + head.body) (schema, next) h6 in
    let message : MessageAt bytes 0 head.number head.header body (8 + size + head.body) = message_stands bytes 0 size head body es (fault_ok (BadTable 0) (head_in (metadata_at bytes 0 size)) head eh) eb in
    let begun : BeginsWithSchema bytes found (8 + size + head.body) = record {
      header = head.header;
      body = body;
      message = subst (λ (n : ℕ). MessageAt bytes 0 n head.header body (8 + size + head.body)) s.0 message;
      schema_is = schema_holds head.header fields found s.1 ek;
    } in
    subst (λ (p : Schema × ℕ). BeginsWithSchema bytes p.0 p.1) same begun

pub begun : (bytes : List ℕ) (schema : Schema) (next : ℕ) → BeginsWithSchema bytes schema next → first_message bytes ≡ Ok (schema, next)
unfolding first_message
begun bytes schema next b =
    let m = message_read bytes 0 1 b.header b.body next b.message in
    let s = schema_read b.header schema b.schema_is in
    rw (m.size_is, m.not_end) (rw (m.head_is, s.0) (rw (s.1, m.body_is) (ap (λ (n : ℕ). let r : Result (Schema × ℕ) ArrowFault = Ok (schema, n) in r) m.next_is)))

-- ---- the end

end_is : (bytes : List ℕ) (schema : Schema) (at : ℕ) → next_batch bytes schema at ≡ Ok None → IsEnd bytes at
unfolding next_batch
end_is bytes schema at h = by_end (eqb at (length bytes)) refl h
  where
    no_batch : (r : Result Part ArrowFault) → (r >>= one_more) ≡ Ok None → ⊥
    no_batch (Ok part) k = cc
    no_batch (Err f) k = cc

    by_size : (size : ℕ) (b : Bool) → metadata_size bytes at ≡ Ok size → eqb size 0 ≡ b → cond b (Ok None) (batch_at bytes schema at size >>= one_more) ≡ Ok None → IsEnd bytes at
    by_size size true e z k =
        let s = metadata_is bytes at size e in
        inr (record { mark_is = s.mark_is; size_is = s.size_is ∙ ap (λ (n : ℕ). Ok (pos n)) (eqb-true size 0 z) })
    by_size size false e z k = absurd (no_batch (batch_at bytes schema at size) k)

    by_end : (b : Bool) → eqb at (length bytes) ≡ b → cond b (Ok None) (metadata_size bytes at >>= mark_or_batch bytes schema at) ≡ Ok None → IsEnd bytes at
    by_end true e k = inl (eqb-true at (length bytes) e)
    by_end false e k =
        let (size, es, k1) = bind_ok (metadata_size bytes at) (mark_or_batch bytes schema at) None k in
        by_size size (eqb size 0) es refl k1

ended : (bytes : List ℕ) (schema : Schema) (at : ℕ) → IsEnd bytes at → next_batch bytes schema at ≡ Ok None
unfolding next_batch
ended bytes schema at (inl e) = rw e (rw (eq-eqb (length bytes) (length bytes) refl) refl)
ended bytes schema at (inr m) = by_end (eqb at (length bytes))
  where
    size : metadata_size bytes at ≡ Ok 0
    size = is_metadata bytes at 0 (record { mark_is = m.mark_is; size_is = m.size_is; within = omega (arith, within_of bytes (at + 4) (pos 0) m.size_is) })

    by_end : (b : Bool) → cond b (Ok None) (metadata_size bytes at >>= mark_or_batch bytes schema at) ≡ Ok None
    by_end true = refl
    by_end false = rw size refl

-- ---- batches

pub batch_header : (head : Head) (found : BatchTables) → later_header head ≡ Some (Some found) → (head.number ≡ 3) × (batch_in head.header ≡ Some found)
batch_header head found h = by_three (eqb head.number 3) refl h
  where
    inside : (o : Option BatchTables) → option_map (λ b. Some b) o ≡ Some (Some found) → o ≡ Some found
    inside (Some b) e = same_Some (Some b) (Some found) e
    inside None e = absurd (cc)

    by_one : (b : Bool) → cond b None (Some None) ≡ Some (Some found) → ⊥
    by_one true g = cc
    by_one false g = let e : None ≡ Some found = same_Some None (Some found) g in cc

    by_three : (b : Bool) → eqb head.number 3 ≡ b → cond b (option_map (λ b. Some b) (batch_in head.header)) (cond (eqb head.number 1) None (Some None)) ≡ Some (Some found) → (head.number ≡ 3) × (batch_in head.header ≡ Some found)
    by_three true e g = (eqb-true head.number 3 e, inside (batch_in head.header) g)
    by_three false e g = absurd (by_one (eqb head.number 1) g)

-- what is read of the next batch it holds
pub record BatchStands (bytes : List ℕ) (schema : Schema) (at : ℕ) (part : Part) : Type 0 where
  pub header : TableView
  pub body : List ℕ
  pub message : MessageAt bytes at 3 header body part.next
  pub holds : BatchHolds header body schema (rows_of part.columns part.count)

pub batch_stands : (bytes : List ℕ) (schema : Schema) (at : ℕ) (part : Part) → next_batch bytes schema at ≡ Ok (Some part) → BatchStands bytes schema at part
batch_stands bytes schema at part h =
    let n = next_is bytes schema at part h in
    let b = batch_is bytes schema at n.size part n.batch in
    let t = batch_header b.head b.batch b.batch_is in
    let message : MessageAt bytes at b.head.number b.head.header b.body (at + 8 + n.size + b.head.body) = message_stands bytes at n.size b.head b.body n.size_is b.head_is b.body_is in
    subst (BatchStands bytes schema at) b.part_is (record {
      header = b.head.header;
      body = b.body;
      message = subst (λ (k : ℕ). MessageAt bytes at k b.head.header b.body (at + 8 + n.size + b.head.body)) t.0 message;
      holds = batch_holds b.head.header b.batch b.body schema b.columns t.1 b.plain b.columns_are;
    })

pub batches_hold : (most : ℕ) (bytes : List ℕ) (schema : Schema) (at : ℕ) (batches : List (List Row)) → length bytes - at < most → batches_to most bytes schema at ≡ Ok batches → BatchesHold bytes schema at batches
batches_hold zero bytes schema at batches l h = absurd (omega arith)
batches_hold (suc most) bytes schema at batches l h =
    let (found, ef, h1) = bind_ok (next_batch bytes schema at) (and_more (batches_to most bytes schema)) batches h in
    by_found found ef h1 (λ next more k e. batches_hold most bytes schema next more k e)
  where
    by_found : (found : Option Part) → next_batch bytes schema at ≡ Ok found → and_more (batches_to most bytes schema) found ≡ Ok batches
        → ((next : ℕ) (more : List (List Row)) → length bytes - next < most → batches_to most bytes schema next ≡ Ok more → BatchesHold bytes schema next more) → BatchesHold bytes schema at batches
    by_found None e k rest = subst (BatchesHold bytes schema at) (same_Ok [] batches k) (over at (end_is bytes schema at e))
    by_found (Some part) e k rest =
        let (more, em, k1) = bind_ok (batches_to most bytes schema part.next) _ batches k in
        let p = progress bytes schema at part e in
        let b = batch_stands bytes schema at part e in
        subst (BatchesHold bytes schema at) (same_Ok (rows_of part.columns part.count ∷ more) batches k1)
        (batch at part.next b.header b.body (rows_of part.columns part.count) more b.message b.holds (rest part.next more (omega (arith, p.0, p.1)) em))

-- a batch that is held is read
pub record NextMade (bytes : List ℕ) (schema : Schema) (at next : ℕ) (rows : List Row) : Type 0 where
  pub part : Part
  pub read : next_batch bytes schema at ≡ Ok (Some part)
  pub next_is : part.next ≡ next
  pub rows_are : rows ≡ rows_of part.columns part.count

pub next_made : (bytes : List ℕ) (schema : Schema) (at next : ℕ) (header : TableView) (body : List ℕ) (rows : List Row) → MessageAt bytes at 3 header body next → BatchHolds header body schema rows → NextMade bytes schema at next rows
unfolding next_batch batch_at
next_made bytes schema at next header body rows message holds =
    let m = message_read bytes at 3 header body next message in
    let b = batch_made header body schema rows holds in
    let s = metadata_is bytes at m.size m.size_is in
    let inside : eqb at (length bytes) ≡ false = ne_eqb at (length bytes) (λ e. omega (arith, s.within)) in
    let tables : later_header (record { number = 3; header = header; body = length body }) ≡ Some (Some b.batch) = ap (option_map (λ t. Some t)) b.batch_is in
    let plain : if_plain (Some b.batch) ≡ Ok b.batch = rw b.plain refl in
    record {
      part = record { columns = b.columns; count = b.batch.count; next = at + 8 + m.size + length body };
      read = rw (inside, m.size_is) (rw (m.not_end, m.head_is) (rw (tables, plain) (rw (m.body_is, b.columns_are) refl)));
      next_is = m.next_is;
      rows_are = b.rows_are;
    }

pub batches_read : (bytes : List ℕ) (schema : Schema) {at : ℕ} {batches : List (List Row)} → BatchesHold bytes schema at batches → batches_from bytes schema at ≡ Ok batches
batches_read bytes schema (over at e) = batches_end bytes schema at (ended bytes schema at e)
batches_read bytes schema (batch at next header body rows more message holds rest) =
    let n = next_made bytes schema at next header body rows message holds in
    let others : batches_from bytes schema n.part.next ≡ Ok more = subst (λ (k : ℕ). batches_from bytes schema k ≡ Ok more) (sym n.next_is) (batches_read bytes schema rest) in
    batches_more bytes schema at n.part n.read ∙ ap (λ (r : Result (List (List Row)) ArrowFault). r >>= λ others. Ok (rows_of n.part.columns n.part.count ∷ others)) others
    ∙ ap (λ (rs : List Row). let r : Result (List (List Row)) ArrowFault = Ok (rs ∷ more) in r) (sym n.rows_are)

-- ---- the stream

wanted_is : (want : Batches) (found : ℕ) (u : Unit {0}) → if_wanted want found ≡ Ok u → IsWanted want found
wanted_is Any found u h = tt
wanted_is ExactlyOne found u h = by_test (eqb found 1) refl h
  where
    by_test : (b : Bool) → eqb found 1 ≡ b → cond b (Ok tt) (Err (BatchCount found)) ≡ Ok u → found ≡ 1
    by_test true e k = eqb-true found 1 e
    by_test false e k = absurd (cc)

is_wanted : (want : Batches) (found : ℕ) → IsWanted want found → if_wanted want found ≡ Ok tt
is_wanted Any found h = refl
is_wanted ExactlyOne found h = rw h refl

gathered_is : (r : Result (List (List Row)) ArrowFault) (read : List Row × ℕ) → gathered r ≡ Ok read → (batches : List (List Row)) × (r ≡ Ok batches) × (read ≡ (flat_map (λ rows. rows) batches, length batches))
gathered_is (Ok batches) read h = (batches, refl, sym (same_Ok (flat_map (λ rows. rows) batches, length batches) read h))
gathered_is (Err f) read h = absurd (cc)

stream_holds : (bytes : List ℕ) (want : Batches) (schema : Schema) (rows : List Row) → stream_in bytes want ≡ Ok (schema, rows) → HoldsWanted bytes want schema rows
unfolding stream_in batches_from
stream_holds bytes want schema rows h =
    let (start, eb, h1) = bind_ok (first_message bytes) _ (schema, rows) h in
    let (read, er, h2) = bind_ok (gathered (batches_from bytes start.0 start.1)) _ (schema, rows) h1 in
    let (unit, ew, h3) = bind_ok (if_wanted want read.1) _ (schema, rows) h2 in
    let (batches, ea, ed) = gathered_is (batches_from bytes start.0 start.1) read er in
    let same : (start.0, read.0) ≡ (schema, rows) = same_Ok (start.0, read.0) (schema, rows) h3 in
    let schema_is : start.0 ≡ schema = ap (λ (p : Schema × List Row). p.0) same in
    let begins_it : BeginsWithSchema bytes start.0 start.1 = begins bytes start.0 start.1 eb in
    let hold : BatchesHold bytes start.0 start.1 batches = batches_hold (suc (length bytes - start.1)) bytes start.0 start.1 batches (omega arith) ea in (
      batches,
      subst (λ (s : Schema). Holds bytes s batches) schema_is (record { next = start.1; begins = begins_it; batches_are = hold }),
      subst (IsWanted want) (ap (λ (p : List Row × ℕ). p.1) ed) (wanted_is want read.1 unit ew),
      sym (ap (λ (p : Schema × List Row). p.1) same) ∙ ap (λ (p : List Row × ℕ). p.0) ed,
    )

held_read : (bytes : List ℕ) (want : Batches) (schema : Schema) (rows : List Row) → HoldsWanted bytes want schema rows → stream_in bytes want ≡ Ok (schema, rows)
unfolding stream_in
held_read bytes want schema rows h =
    let batches : List (List Row) = h.0 in
    let first : first_message bytes ≡ Ok (schema, h.1.next) = begun bytes schema h.1.next h.1.begins in
    let all : batches_from bytes schema h.1.next ≡ Ok batches = batches_read bytes schema h.1.batches_are in
    rw first (rw all (rw (is_wanted want (length batches) h.2) (ap (λ (rs : List Row). let r : Result (Schema × List Row) ArrowFault = Ok (schema, rs) in r) (sym h.3))))

pub streams_are_read : StreamsAreRead
streams_are_read bytes want schema rows = (stream_holds bytes want schema rows, held_read bytes want schema rows)

pub streams_hold_one : StreamsHoldOne
streams_hold_one bytes schema other batches others h k =
    let first : first_message bytes ≡ Ok (schema, h.next) = begun bytes schema h.next h.begins in
    let second : first_message bytes ≡ Ok (other, k.next) = begun bytes other k.next k.begins in
    let same : (schema, h.next) ≡ (other, k.next) = same_Ok (schema, h.next) (other, k.next) (sym first ∙ second) in
    let all : batches_from bytes schema h.next ≡ Ok batches = batches_read bytes schema h.batches_are in
    let rest : batches_from bytes other k.next ≡ Ok others = batches_read bytes other k.batches_are in
    let moved : batches_from bytes other k.next ≡ Ok batches = subst (λ (p : Schema × ℕ). batches_from bytes p.0 p.1 ≡ Ok batches) same all in
    (ap (λ (p : Schema × ℕ). p.0) same, same_Ok batches others (sym moved ∙ rest))

pub written_streams_are_read : WrittenStreamsHold → WrittenStreamsAreRead
written_streams_are_read hold schema rows want can mem = held_read _ want schema rows (rows ∷ [], hold schema rows can mem, one want, sym (append-nil rows))
  where
    one : (w : Batches) → IsWanted w 1
    one ExactlyOne = refl
    one Any = tt

pub stream_made : (bytes : List ℕ) (want : Batches) (schema : Schema) (start : ℕ) (rows : List Row) (found : ℕ) (u : Unit {0}) → first_message bytes ≡ Ok (schema, start) → gathered (batches_from bytes schema start) ≡ Ok (rows, found)
    → if_wanted want found ≡ Ok u → stream_in bytes want ≡ Ok (schema, rows)
unfolding stream_in
stream_made bytes want schema start rows found u a b w = rw (a, b, w) refl
