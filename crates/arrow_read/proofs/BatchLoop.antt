-- The batches of a stream, one after another.
use Rattle.std.proofs.Common.{◌≡◌, ℕ, zero, suc, ◌+◌, ◌-◌, ◌*◌, ◌<◌, ◌≤◌, Bool, true, false, cond, eqb, Option, None, Some, Result, Ok, Err, List, [], ◌∷◌, ◌++◌, length, arith, refl, ap, ◌∙◌, sym, length-append}
use native.Mathlib.Nat.{mul-add}
use Rattle.std.specs.List.{flat_map}
use Rattle.std.proofs.lemmas.List.{append_assoc, append-nil}
use Rattle.cn_types.specs.declared.row.Row.{Row}
use Rattle.cn_types.specs.declared.schema.Schema.{Schema}
use Rattle.arrow_read.specs.declared.fault.ArrowFault.{ArrowFault}
use Rattle.arrow_read.specs.declared.fault.ArrowFault.TheVariants.{BadTable, Compressed}
use Rattle.arrow_read.specs.declared.head.Head.{Head}
use Rattle.arrow_read.specs.declared.batch.BatchTables.{BatchTables}
use Rattle.arrow_read.specs.declared.part.Part.{Part}
use Rattle.arrow_read.specs.Tables.{head_in, later_header}
use Rattle.arrow_read.specs.Columns.{ColumnView, rows_of}
use Rattle.arrow_read.specs.Reading.{◌>>=◌, or_fault, metadata_size, metadata_at, body_at, if_plain, columns_in, batch_at, one_more, mark_or_batch, next_batch, and_more, batches_to, batches_from, gathered}
use Rattle.arrow_read.proofs.Chains.{same_Ok, bind_ok, fault_ok}
use Rattle.arrow_read.proofs.MessageLaws.{body_stands}

-- what is read of a batch's message
pub record BatchIs (bytes : List ℕ) (schema : Schema) (at size : ℕ) (part : Part) : Type 0 where
  pub head : Head
  pub batch : BatchTables
  pub body : List ℕ
  pub columns : List ColumnView
  pub head_is : head_in (metadata_at bytes at size) ≡ Some head
  pub batch_is : later_header head ≡ Some (Some batch)
  pub plain : batch.compressed ≡ false
  pub body_is : body_at bytes (at + 8 + size) head.body ≡ Ok body
  pub columns_are : columns_in batch body 0 0 schema.0 ≡ Ok columns
  pub part_is : record { columns = columns; count = batch.count; next = at + 8 + size + head.body } ≡ part

pub plain_is : (header : Option BatchTables) (batch : BatchTables) → if_plain header ≡ Ok batch → (header ≡ Some batch) × (batch.compressed ≡ false)
plain_is None batch h = absurd (cc)
plain_is (Some b) batch h = by_test b.compressed refl h
  where
    by_test : (c : Bool) → b.compressed ≡ c → cond c (Err Compressed) (Ok b) ≡ Ok batch → (Some b ≡ Some batch) × (batch.compressed ≡ false)
    by_test true e k = absurd (cc)
    by_test false e k = let same : b ≡ batch = cc in (ap (λ z. Some z) same, ap (λ (z : BatchTables). z.compressed) (sym same) ∙ e)

pub batch_is : (bytes : List ℕ) (schema : Schema) (at size : ℕ) (part : Part) → batch_at bytes schema at size ≡ Ok part → BatchIs bytes schema at size part
unfolding batch_at
batch_is bytes schema at size part h =
    let a = bind_ok (or_fault (BadTable at) (head_in (metadata_at bytes at size))) _ part h in
    let b = bind_ok (or_fault (BadTable at) (later_header a.0)) _ part a.2 in
    let c = bind_ok (if_plain b.0) _ part b.2 in
    let d = bind_ok (body_at bytes (at + 8 + size) a.0.body) _ part c.2 in
    let e = bind_ok (columns_in c.0 d.0 0 0 schema.0) _ part d.2 in
    let p = plain_is b.0 c.0 c.1 in
    record {
      head = a.0;
      batch = c.0;
      body = d.0;
      columns = e.0;
      head_is = fault_ok (BadTable at) (head_in (metadata_at bytes at size)) a.0 a.1;
      batch_is = fault_ok (BadTable at) (later_header a.0) b.0 b.1 ∙ ap (λ z. Some z) p.0;
      plain = p.1;
      body_is = d.1;
      columns_are = e.1;
      part_is = same_Ok _ part e.2;
    }

-- what the next batch is
pub record NextIs (bytes : List ℕ) (schema : Schema) (at : ℕ) (part : Part) : Type 0 where
  pub size : ℕ
  pub inside : eqb at (length bytes) ≡ false
  pub size_is : metadata_size bytes at ≡ Ok size
  pub batch : batch_at bytes schema at size ≡ Ok part

mark_is : (bytes : List ℕ) (schema : Schema) (at size : ℕ) (part : Part) → mark_or_batch bytes schema at size ≡ Ok (Some part) → batch_at bytes schema at size ≡ Ok part
mark_is bytes schema at size part h = by_test (eqb size 0) h
  where
    by_test : (b : Bool) → cond b (Ok None) (batch_at bytes schema at size >>= one_more) ≡ Ok (Some part) → batch_at bytes schema at size ≡ Ok part
    by_test true k = absurd (cc)
    by_test false k = let a = bind_ok (batch_at bytes schema at size) one_more (Some part) k in let same : a.0 ≡ part = (let e = a.2 in cc) in a.1 ∙ ap (λ z. Ok z) same

pub next_is : (bytes : List ℕ) (schema : Schema) (at : ℕ) (part : Part) → next_batch bytes schema at ≡ Ok (Some part) → NextIs bytes schema at part
unfolding next_batch
next_is bytes schema at part h = by_test (eqb at (length bytes)) refl h
  where
    by_test : (b : Bool) → eqb at (length bytes) ≡ b → cond b (Ok None) (metadata_size bytes at >>= mark_or_batch bytes schema at) ≡ Ok (Some part) → NextIs bytes schema at part
    by_test true e k = absurd (cc)
    by_test false e k =
        let a = bind_ok (metadata_size bytes at) (mark_or_batch bytes schema at) (Some part) k in
        record { size = a.0; inside = e; size_is = a.1; batch = mark_is bytes schema at a.0 part a.2 }

-- a batch's message ends in the input, behind its beginning
pub progress : (bytes : List ℕ) (schema : Schema) (at : ℕ) (part : Part) → next_batch bytes schema at ≡ Ok (Some part) → (at < part.next) × (part.next ≤ length bytes)
progress bytes schema at part h =
    let n = next_is bytes schema at part h in
    let b = batch_is bytes schema at n.size part n.batch in
    let e : at + 8 + n.size + b.head.body ≡ part.next = ap (λ (p : Part). p.next) b.part_is in
    let w : at + 8 + n.size + b.head.body ≤ length bytes = (body_stands bytes (at + 8 + n.size) b.head.body b.body b.body_is).2 in
    (omega arith, omega arith)

-- more than enough changes nothing
pub enough : (n m : ℕ) (bytes : List ℕ) (schema : Schema) (at : ℕ) → length bytes - at < n → length bytes - at < m → batches_to n bytes schema at ≡ batches_to m bytes schema at
enough zero m bytes schema at h k = absurd (omega arith)
enough (suc n) zero bytes schema at h k = absurd (omega arith)
enough (suc n) (suc m) bytes schema at h k = by_next (next_batch bytes schema at) refl (λ next p q. enough n m bytes schema next p q)
  where
    by_next : (r : Result (Option Part) ArrowFault) → next_batch bytes schema at ≡ r → ((next : ℕ) → length bytes - next < n → length bytes - next < m → batches_to n bytes schema next ≡ batches_to m bytes schema next)
        → (r >>= and_more (batches_to n bytes schema)) ≡ (r >>= and_more (batches_to m bytes schema))
    by_next (Ok None) e more = refl
    by_next (Ok (Some part)) e more =
        let p = progress bytes schema at part e in
        ap (λ (s : Result (List (List Row)) ArrowFault). s >>= λ more. Ok (rows_of part.columns part.count ∷ more)) (more part.next (omega arith) (omega arith))
    by_next (Err f) e more = refl

pub batches_end : (bytes : List ℕ) (schema : Schema) (at : ℕ) → next_batch bytes schema at ≡ Ok None → batches_from bytes schema at ≡ Ok []
unfolding batches_from
batches_end bytes schema at e = rw e refl

pub batches_miss : (bytes : List ℕ) (schema : Schema) (at : ℕ) (f : ArrowFault) → next_batch bytes schema at ≡ Err f → batches_from bytes schema at ≡ Err f
unfolding batches_from
batches_miss bytes schema at f e = rw e refl

pub batches_more : (bytes : List ℕ) (schema : Schema) (at : ℕ) (part : Part) → next_batch bytes schema at ≡ Ok (Some part) → batches_from bytes schema at ≡ and_more (batches_from bytes schema) (Some part)
unfolding batches_from
batches_more bytes schema at part e =
    let p = progress bytes schema at part e in
    rw e (ap (λ (s : Result (List (List Row)) ArrowFault). s >>= λ more. Ok (rows_of part.columns part.count ∷ more)) (enough (length bytes - at) (suc (length bytes - part.next)) bytes schema part.next (omega arith) (omega arith)))

-- ---- the rows of all batches

-- those that were read, and then the others
abbrev pub with_rows : List Row → ℕ → Result (List Row × ℕ) ArrowFault → Result (List Row × ℕ) ArrowFault
with_rows rows found (Ok more) = Ok (rows ++ more.0, found + more.1)
with_rows rows found (Err e) = Err e

pub rows_end : (bytes : List ℕ) (schema : Schema) (at : ℕ) (rows : List Row) (found : ℕ) → next_batch bytes schema at ≡ Ok None → with_rows rows found (gathered (batches_from bytes schema at)) ≡ Ok (rows, found)
rows_end bytes schema at rows found e = let n : found + 0 ≡ found = omega arith in rw (batches_end bytes schema at e) (rw (append-nil rows, n) refl)

pub rows_miss : (bytes : List ℕ) (schema : Schema) (at : ℕ) (rows : List Row) (found : ℕ) (f : ArrowFault) → next_batch bytes schema at ≡ Err f → with_rows rows found (gathered (batches_from bytes schema at)) ≡ Err f
rows_miss bytes schema at rows found f e = rw (batches_miss bytes schema at f e) refl

pub rows_more : (bytes : List ℕ) (schema : Schema) (at : ℕ) (rows : List Row) (found : ℕ) (part : Part) → next_batch bytes schema at ≡ Ok (Some part)
    → with_rows rows found (gathered (batches_from bytes schema at)) ≡ with_rows (rows ++ rows_of part.columns part.count) (found + 1) (gathered (batches_from bytes schema part.next))
rows_more bytes schema at rows found part e = rw (batches_more bytes schema at part e) (next (batches_from bytes schema part.next))
  where
    next : (r : Result (List (List Row)) ArrowFault) → with_rows rows found (gathered (r >>= λ more. Ok (rows_of part.columns part.count ∷ more))) ≡ with_rows (rows ++ rows_of part.columns part.count) (found + 1) (gathered r)
    next (Ok more) =
        let n : found + suc (length more) ≡ (found + 1) + length more = omega arith in
        rw (n, append_assoc rows (rows_of part.columns part.count) (flat_map (λ rows. rows) more)) refl
    next (Err f) = refl

-- what is left after the cells of more rows
pub cells_more : (rows added : List Row) (w count now before room : ℕ) → length added ≡ count → now + w * count ≡ before → before + w * length rows ≡ room → now + w * length (rows ++ added) ≡ room
cells_more rows added w count now before room l n b =
    let long : length (rows ++ added) ≡ length rows + count = length-append rows added ∙ ap (λ (k : ℕ). length rows + k) l in
    let more : w * length (rows ++ added) ≡ w * length rows + w * count = ap (λ (k : ℕ). w * k) long ∙ mul-add w (length rows) count in
    omega (arith, n, b, more)
