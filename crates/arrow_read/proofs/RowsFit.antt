-- Rows that are read fit the schema that is read.
use Rattle.std.proofs.Common.{◌≡◌, ℕ, zero, suc, ◌+◌, List, [], ◌∷◌, length, Option, None, Some, Ok, arith, refl, ap, subst, sym}
use Rattle.std.specs.Prelude.{map, slice_get, unwrap_or, All, ◌++◌}
use Rattle.std.specs.List.{AllByRecursion, flat_map}
use Rattle.std.proofs.lemmas.List.Elements.{All-from_recursion, All-get_or}
use Rattle.std.proofs.lemmas.List.Concat.{flat_map-cons}
use Rattle.std.proofs.lemmas.Option.{slice_get_within, get_or_from_slice_get}
use Rattle.cn_types.specs.Fit.{value_at, HasType, HaveTypes, Fits}
use Rattle.cn_types.specs.declared.value.Value.{Value}
use Rattle.cn_types.specs.declared.value.Value.TheVariants as V
use Rattle.cn_types.specs.declared.value.DataType.{DataType}
use Rattle.cn_types.specs.declared.value.DataType.TheVariants as K
use Rattle.cn_types.specs.declared.row.Row.{Row}
use Rattle.cn_types.specs.declared.schema.Field.{Field}
use Rattle.cn_types.specs.declared.schema.Schema.{Schema}
use Rattle.flat_tables.specs.Views.{TableView}
use Rattle.arrow_ipc.specs.Columns.{cells}
use Rattle.arrow_ipc.specs.Holds.{ValueStands, CellStands, ColumnsHold, BatchHolds, BatchesHold}
use Rattle.arrow_ipc.specs.Holds.{over, batch}
use Rattle.arrow_read.specs.Laws.{ReadRowsFit}
use Rattle.arrow_read.proofs.StreamLaws.{streams_are_read}

-- ---- one cell

stands : (kind : DataType) (buffers : List (List ℕ)) (row : ℕ) (value : Value) → ValueStands kind buffers row value → HasType kind value
stands K.Boolean [] row value h = absurd h
stands K.Boolean (x ∷ []) row V.Null h = tt
stands K.Boolean (x ∷ []) row (V.Boolean b) h = tt
stands K.Boolean (x ∷ []) row (V.Integer n) h = absurd h
stands K.Boolean (x ∷ []) row (V.Long n) h = absurd h
stands K.Boolean (x ∷ []) row (V.Text t) h = absurd h
stands K.Boolean (x ∷ []) row (V.Date d) h = absurd h
stands K.Boolean (x ∷ y ∷ more) row value h = absurd h
stands K.Integer [] row value h = absurd h
stands K.Integer (x ∷ []) row V.Null h = tt
stands K.Integer (x ∷ []) row (V.Boolean b) h = absurd h
stands K.Integer (x ∷ []) row (V.Integer n) h = tt
stands K.Integer (x ∷ []) row (V.Long n) h = absurd h
stands K.Integer (x ∷ []) row (V.Text t) h = absurd h
stands K.Integer (x ∷ []) row (V.Date d) h = absurd h
stands K.Integer (x ∷ y ∷ more) row value h = absurd h
stands K.Long [] row value h = absurd h
stands K.Long (x ∷ []) row V.Null h = tt
stands K.Long (x ∷ []) row (V.Boolean b) h = absurd h
stands K.Long (x ∷ []) row (V.Integer n) h = absurd h
stands K.Long (x ∷ []) row (V.Long n) h = tt
stands K.Long (x ∷ []) row (V.Text t) h = absurd h
stands K.Long (x ∷ []) row (V.Date d) h = absurd h
stands K.Long (x ∷ y ∷ more) row value h = absurd h
stands K.Text [] row value h = absurd h
stands K.Text (x ∷ []) row value h = absurd h
stands K.Text (x ∷ y ∷ []) row V.Null h = tt
stands K.Text (x ∷ y ∷ []) row (V.Boolean b) h = absurd h
stands K.Text (x ∷ y ∷ []) row (V.Integer n) h = absurd h
stands K.Text (x ∷ y ∷ []) row (V.Long n) h = absurd h
stands K.Text (x ∷ y ∷ []) row (V.Text t) h = tt
stands K.Text (x ∷ y ∷ []) row (V.Date d) h = absurd h
stands K.Text (x ∷ y ∷ z ∷ more) row value h = absurd h
stands K.Date [] row value h = absurd h
stands K.Date (x ∷ []) row V.Null h = tt
stands K.Date (x ∷ []) row (V.Boolean b) h = absurd h
stands K.Date (x ∷ []) row (V.Integer n) h = absurd h
stands K.Date (x ∷ []) row (V.Long n) h = absurd h
stands K.Date (x ∷ []) row (V.Text t) h = absurd h
stands K.Date (x ∷ []) row (V.Date d) h = h.1
stands K.Date (x ∷ y ∷ more) row value h = absurd h

null_typed : (kind : DataType) → HasType kind V.Null
null_typed K.Boolean = tt
null_typed K.Integer = tt
null_typed K.Long = tt
null_typed K.Text = tt
null_typed K.Date = tt

cell_typed : (kind : DataType) (validity : List ℕ) (buffers : List (List ℕ)) (row : ℕ) (value : Value) → CellStands kind validity buffers row value → HasType kind value
cell_typed kind validity buffers row V.Null h = null_typed kind
cell_typed kind validity buffers row (V.Boolean b) h = stands kind buffers row (V.Boolean b) h.1
cell_typed kind validity buffers row (V.Integer n) h = stands kind buffers row (V.Integer n) h.1
cell_typed kind validity buffers row (V.Long n) h = stands kind buffers row (V.Long n) h.1
cell_typed kind validity buffers row (V.Text t) h = stands kind buffers row (V.Text t) h.1
cell_typed kind validity buffers row (V.Date d) h = stands kind buffers row (V.Date d) h.1

-- ---- one row

cell_at : (column : ℕ) (rows : List Row) (i : ℕ) (row : Row) → slice_get rows i ≡ Some row → slice_get (cells column rows) i ≡ Some (value_at column row)
cell_at column [] i row e = absurd (cc)
cell_at column (r ∷ rows) zero row e = let same : r ≡ row = cc in ap (λ (x : Row). Some (value_at column x)) same
cell_at column (r ∷ rows) (suc i) row e = cell_at column rows i row e

row_typed : (table : TableView) (body : List ℕ) (column first : ℕ) (fields : List Field) (rows : List Row) (i : ℕ) (row : Row) (values : List Value)
    → slice_get rows i ≡ Some row → length values ≡ length fields → ((k : ℕ) → value_at (column + k) row ≡ unwrap_or (slice_get values k) V.Null)
    → ColumnsHold table body column first fields rows → HaveTypes (map (λ (f : Field). f.kind) fields) values
row_typed table body column first [] rows i row [] e width from h = tt
row_typed table body column first [] rows i row (v ∷ values) e width from h = absurd (omega arith)
row_typed table body column first (field ∷ fields) rows i row [] e width from h = absurd (omega arith)
row_typed table body column first (field ∷ fields) rows i row (v ∷ values) e width from h =
    let here : value_at column row ≡ v = subst (λ (n : ℕ). value_at n row ≡ v) (let z : column + 0 ≡ column = omega arith in z) (from 0) in
    let typed : HasType field.kind (value_at column row) = cell_typed field.kind h.0.validity h.0.buffers i (value_at column row) (h.0.each i (value_at column row) (cell_at column rows i row e)) in (
      subst (λ (x : Value). HasType field.kind x) here typed,
      row_typed table body (column + 1) _ fields rows i row values e (let w : length values ≡ length fields = omega arith in w)
          (λ k. subst (λ (n : ℕ). value_at n row ≡ unwrap_or (slice_get values k) V.Null) (let z : column + suc k ≡ column + 1 + k = omega arith in z) (from (suc k))) h.1,
    )

-- ---- the rows

batch_fits : (table : TableView) (body : List ℕ) (schema : Schema) (rows : List Row) → BatchHolds table body schema rows → (i : ℕ) (row : Row) → slice_get rows i ≡ Some row → Fits schema row
batch_fits table body schema rows h i row e =
    let width : length row.0 ≡ length schema.0 = subst (λ (r : Row). length r.0 ≡ length schema.0) (get_or_from_slice_get rows i row row e) (All-get_or (λ (r : Row). length r.0 ≡ length schema.0) rows i row (slice_get_within rows i row e) h.widths) in
    row_typed table body 0 0 schema.0 rows i row row.0 e width (λ k. ap (λ (n : ℕ). value_at n row) (let z : 0 + k ≡ k = omega arith in z)) h.columns

each_fits : (schema : Schema) (rows : List Row) → ((i : ℕ) (row : Row) → slice_get rows i ≡ Some row → Fits schema row) → AllByRecursion (Fits schema) rows
each_fits schema [] h = tt
each_fits schema (row ∷ rows) h = (h 0 row refl, each_fits schema rows (λ i. h (suc i)))

both_fit : (schema : Schema) (rows more : List Row) → AllByRecursion (Fits schema) rows → AllByRecursion (Fits schema) more → AllByRecursion (Fits schema) (rows ++ more)
both_fit schema [] more h k = k
both_fit schema (row ∷ rows) more h k = (h.0, both_fit schema rows more h.1 k)

batches_fit : (bytes : List ℕ) (schema : Schema) {at : ℕ} {batches : List (List Row)} → BatchesHold bytes schema at batches → AllByRecursion (Fits schema) (flat_map (λ rows. rows) batches)
batches_fit bytes schema (over at e) = tt
batches_fit bytes schema (batch at next header body rows more m h rest) =
    let first : AllByRecursion (Fits schema) rows = each_fits schema rows (batch_fits header body schema rows h) in
    subst (λ (l : List Row). AllByRecursion (Fits schema) l) (sym (flat_map-cons (λ (l : List Row). l) rows more))
    (both_fit schema rows (flat_map (λ l. l) more) first (batches_fit bytes schema rest))

pub rows_fit : ReadRowsFit
rows_fit bytes want schema rows e =
    let h = (streams_are_read bytes want schema rows).0 e in
    All-from_recursion (Fits schema) rows (subst (λ (l : List Row). AllByRecursion (Fits schema) l) (sym h.3) (batches_fit bytes schema h.1.batches_are))
