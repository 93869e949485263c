-- The rows of a batch are read exactly where it holds them.
use Rattle.std.proofs.Common.{◌≡◌, ℕ, zero, suc, ◌+◌, Bool, false, List, [], ◌∷◌, length, map, Option, Some, Ok, arith, refl, ap, ◌∙◌, subst, sym}
use Rattle.std.specs.Prelude.{pos, slice_get, unwrap_or}
use Rattle.std.specs.Result.{result_ok}
use Rattle.std.specs.List.{AllByRecursion, range_with_len}
use Rattle.std.proofs.lemmas.Option.{same_Some, slice_get_within, get_or_from_slice_get}
use Rattle.std.proofs.lemmas.List.{length-map}
use Rattle.std.proofs.lemmas.List.FromFn.{length-map-range_with_len}
use Rattle.std.proofs.lemmas.List.Elements.{All-from_recursion, All-get_or}
use Rattle.cn_types.specs.declared.value.Value.{Value}
use Rattle.cn_types.specs.declared.value.Value.TheVariants as V
use Rattle.cn_types.specs.declared.row.Row.{Row}
use Rattle.cn_types.specs.declared.schema.Field.{Field}
use Rattle.cn_types.specs.declared.schema.Schema.{Schema}
use Rattle.flat_tables.specs.Views.{TableView}
use Rattle.flat_tables.specs.Reading.{i64_field, vector_field}
use Rattle.flat_tables.proofs.Places.{slice_get-map}
use Rattle.cn_types.specs.Fit.{value_at}
use Rattle.arrow_ipc.specs.Columns.{cells}
use Rattle.arrow_ipc.specs.Holds.{or_absent, buffer_count, ColumnHolds, ColumnsHold, BatchHolds}
use Rattle.arrow_read.specs.declared.batch.BatchTables.{BatchTables}
use Rattle.arrow_read.specs.Tables.{presence, not_negative, batch_in}
use Rattle.arrow_read.specs.Columns.{ColumnView, cell, row_of, rows_of}
use Rattle.arrow_read.specs.Reading.{column_in, columns_in}
use Rattle.arrow_read.proofs.Chains.{same_Ok, bind_ok, ok_of, or_absent_is, is_or_absent, not_negative_is, is_not_negative}
use Rattle.arrow_read.proofs.Steps.{bind_some}
use Rattle.arrow_read.proofs.FieldLaws.{presence_absent, absent_presence}
use Rattle.arrow_read.proofs.ColumnsHold.{made_at, made_of, TablesAre, column_holds, ColumnMade, column_made}

-- ---- the batch's tables

pub record BatchIs (header : TableView) (batch : BatchTables) : Type 0 where
  pub count : or_absent (pos 0) (i64_field header 0) ≡ Ok (pos batch.count)
  pub tables : TablesAre header batch
  pub compressed : presence header 3 ≡ Some batch.compressed

pub batch_is : (header : TableView) (batch : BatchTables) → batch_in header ≡ Some batch → BatchIs header batch
unfolding batch_in
batch_is header batch h =
    let (size, es, h1) = bind_some (result_ok (i64_field header 0)) _ batch h in
    let (count, ec, h2) = bind_some (not_negative (unwrap_or size (pos 0))) _ batch h1 in
    let (nodes, en, h3) = bind_some (result_ok (vector_field header 1 16)) _ batch h2 in
    let (spans, ep, h4) = bind_some (result_ok (vector_field header 2 16)) _ batch h3 in
    let (compressed, ek, h5) = bind_some (presence header 3) _ batch h4 in
    let is : record { count = count; nodes = nodes; spans = spans; compressed = compressed } ≡ batch = same_Some (record { count = count; nodes = nodes; spans = spans; compressed = compressed }) batch h5 in
    subst (BatchIs header) is (record {
      count = or_absent_is (pos 0) (i64_field header 0) size (pos count) (ok_of (i64_field header 0) size es) (not_negative_is (unwrap_or size (pos 0)) count ec);
      tables = record { nodes_are = ok_of (vector_field header 1 16) nodes en; spans_are = ok_of (vector_field header 2 16) spans ep };
      compressed = ek;
    })

-- ---- the cells of a column

value_of_row : (columns : List ColumnView) (k : ℕ) (column : ColumnView) (row : ℕ) → slice_get columns k ≡ Some column → value_at k (row_of columns row) ≡ cell column row
value_of_row columns k column row e = ap (λ (o : Option Value). unwrap_or o V.Null) (slice_get-map (λ (c : ColumnView). cell c row) columns k column e)

cells_of_rows : (columns : List ColumnView) (k : ℕ) (column : ColumnView) (numbers : List ℕ) → slice_get columns k ≡ Some column → cells k (map (row_of columns) numbers) ≡ map (cell column) numbers
cells_of_rows columns k column [] e = refl
cells_of_rows columns k column (n ∷ ns) e =
    ap (λ (v : Value). v ∷ cells k (map (row_of columns) ns)) (value_of_row columns k column n e) ∙ ap (λ (vs : List Value). cell column n ∷ vs) (cells_of_rows columns k column ns e)

-- the cells of these columns, of which the first has this place, are those of the rows
abbrev pub CellsAre : ℕ → ℕ → List ColumnView → List Row → Type 0
CellsAre place count columns rows = (i : ℕ) (column : ColumnView) → slice_get columns i ≡ Some column → cells (place + i) rows ≡ map (cell column) (range_with_len 0 count)

-- ---- what is read of the columns is held

columns_hold : (t : TableView) (batch : BatchTables) (body : List ℕ) (place first : ℕ) (fields : List Field) (columns : List ColumnView) (rows : List Row) → TablesAre t batch → columns_in batch body place first fields ≡ Ok columns
    → CellsAre place batch.count columns rows → ColumnsHold t body place first fields rows
columns_hold t batch body place first [] columns rows tables h are = tt
columns_hold t batch body place first (field ∷ fields) columns rows tables h are =
    let (column, ec, h1) = bind_ok (column_in batch body place first field.kind) _ columns h in
    let (more, em, h2) = bind_ok (columns_in batch body (place + 1) (first + 1 + buffer_count field.kind) fields) _ columns h1 in
    let same : column ∷ more ≡ columns = same_Ok (column ∷ more) columns h2 in
    let all : CellsAre place batch.count (column ∷ more) rows = subst (λ (cs : List ColumnView). CellsAre place batch.count cs rows) (sym same) are in
    let here : place + 0 ≡ place = omega arith in
    let cells_are : cells place rows ≡ map (cell column) (range_with_len 0 batch.count) = ap (λ (n : ℕ). cells n rows) (sym here) ∙ all 0 column refl in (
      subst (ColumnHolds t body place first field.kind) (sym cells_are) (column_holds t batch body place first field.kind column tables ec),
      columns_hold t batch body (place + 1) (first + 1 + buffer_count field.kind) fields more rows tables em
          (λ i c e. let there : place + 1 + i ≡ place + suc i = omega arith in ap (λ (n : ℕ). cells n rows) there ∙ all (suc i) c e),
    )

columns_length : (batch : BatchTables) (body : List ℕ) (place first : ℕ) (fields : List Field) (columns : List ColumnView) → columns_in batch body place first fields ≡ Ok columns → length columns ≡ length fields
columns_length batch body place first [] columns h = ap length (sym (same_Ok [] columns h))
columns_length batch body place first (field ∷ fields) columns h =
    let (column, ec, h1) = bind_ok (column_in batch body place first field.kind) _ columns h in
    let (more, em, h2) = bind_ok (columns_in batch body (place + 1) (first + 1 + buffer_count field.kind) fields) _ columns h1 in
    ap length (sym (same_Ok (column ∷ more) columns h2)) ∙ ap suc (columns_length batch body (place + 1) (first + 1 + buffer_count field.kind) fields more em)

widths : (columns : List ColumnView) (width : ℕ) (numbers : List ℕ) → length columns ≡ width → AllByRecursion (λ row. length row.0 ≡ width) (map (row_of columns) numbers)
widths columns width [] e = tt
widths columns width (n ∷ ns) e = (length-map columns (λ (c : ColumnView). cell c n) ∙ e, widths columns width ns e)

pub batch_holds : (header : TableView) (batch : BatchTables) (body : List ℕ) (schema : Schema) (columns : List ColumnView) → batch_in header ≡ Some batch → batch.compressed ≡ false → columns_in batch body 0 0 schema.0 ≡ Ok columns
    → BatchHolds header body schema (rows_of columns batch.count)
batch_holds header batch body schema columns h plain e =
    let b = batch_is header batch h in
    let rows : List Row = rows_of columns batch.count in
    record {
      count = b.count ∙ ap (λ (n : ℕ). Ok (pos n)) (sym (length-map-range_with_len (row_of columns) 0 batch.count));
      plain = presence_absent header 3 (b.compressed ∙ ap (λ (t : Bool). Some t) plain);
      nodes = (batch.nodes, b.tables.nodes_are);
      spans = (batch.spans, b.tables.spans_are);
      widths = All-from_recursion (λ (row : Row). length row.0 ≡ length schema.0) rows (widths columns (length schema.0) (range_with_len 0 batch.count) (columns_length batch body 0 0 schema.0 columns e));
      columns = columns_hold header batch body 0 0 schema.0 columns rows b.tables e
          (λ i c k. let here : 0 + i ≡ i = omega arith in ap (λ (n : ℕ). cells n rows) here ∙ cells_of_rows columns i c (range_with_len 0 batch.count) k);
    }

-- ---- and what is held is read

pub record ColumnsMade (batch : BatchTables) (body : List ℕ) (place first : ℕ) (fields : List Field) (rows : List Row) : Type 0 where
  pub columns : List ColumnView
  pub read : columns_in batch body place first fields ≡ Ok columns
  pub cells_are : CellsAre place batch.count columns rows

columns_made : (t : TableView) (batch : BatchTables) (body : List ℕ) (place first : ℕ) (fields : List Field) (rows : List Row) → TablesAre t batch → batch.count ≡ length rows → ColumnsHold t body place first fields rows
    → ColumnsMade batch body place first fields rows
columns_made t batch body place first [] rows tables count h = record { columns = []; read = refl; cells_are = λ i c e. absurd (cc) }
columns_made t batch body place first (field ∷ fields) rows tables count h =
    let one : ColumnMade batch body place first field.kind (cells place rows) = column_made t batch body place first field.kind (cells place rows) tables (count ∙ sym (length-map rows (value_at place))) h.0 in
    let rest : ColumnsMade batch body (place + 1) (first + 1 + buffer_count field.kind) fields rows = columns_made t batch body (place + 1) (first + 1 + buffer_count field.kind) fields rows tables count h.1 in
    record {
      columns = one.column ∷ rest.columns;
      read = rw (one.read, rest.read) refl;
      cells_are = each one.column rest.columns one.values_are rest.cells_are;
    }
  where
    each : (column : ColumnView) (more : List ColumnView) → cells place rows ≡ map (cell column) (range_with_len 0 batch.count) → CellsAre (place + 1) batch.count more rows → CellsAre place batch.count (column ∷ more) rows
    each column more one rest zero c e =
        let here : place + 0 ≡ place = omega arith in
        ap (λ (n : ℕ). cells n rows) here ∙ one ∙ ap (λ (x : ColumnView). map (cell x) (range_with_len 0 batch.count)) (same_Some column c e)
    each column more one rest (suc i) c e = let there : place + suc i ≡ place + 1 + i = omega arith in ap (λ (n : ℕ). cells n rows) there ∙ rest i c e

same_values : (f : ColumnView → Value) (columns : List ColumnView) (values : List Value) → length columns ≡ length values → ((k : ℕ) (c : ColumnView) → slice_get columns k ≡ Some c → f c ≡ unwrap_or (slice_get values k) V.Null) → map f columns ≡ values
same_values f [] [] l h = refl
same_values f [] (v ∷ vs) l h = absurd (omega arith)
same_values f (c ∷ cs) [] l h = absurd (omega arith)
same_values f (c ∷ cs) (v ∷ vs) l h =
    ap (λ (x : Value). x ∷ map f cs) (h 0 c refl) ∙ ap (λ (xs : List Value). v ∷ xs) (same_values f cs vs (omega arith) (λ k x e. h (suc k) x e))

row_is : (columns : List ColumnView) (rows : List Row) (i : ℕ) (row : Row) → length columns ≡ length row.0 → CellsAre 0 (length rows) columns rows → slice_get rows i ≡ Some row → row_of columns i ≡ row
row_is columns rows i row width are e =
    let f : ColumnView → Value = λ c. cell c i in
    let values : map f columns ≡ row.0 = same_values f columns row.0 width (λ k c g.
    let here : k ≡ 0 + k = omega arith in
    let there : 0 + i ≡ i = omega arith in
    let column : cells k rows ≡ map (cell c) (range_with_len 0 (length rows)) = ap (λ (n : ℕ). cells n rows) here ∙ are k c g in
    let value : slice_get (map (cell c) (range_with_len 0 (length rows))) i ≡ Some (value_at k row) = ap (λ (vs : List Value). slice_get vs i) (sym column) ∙ slice_get-map (value_at k) rows i row e in
    let m = made_at (cell c) 0 (length rows) i (value_at k row) value in
    ap (cell c) (sym there) ∙ m.1) in
    ap (λ (vs : List Value). let r : Row = record { 0 = vs } in r) values

-- a batch that is read, with its rows
pub record BatchMade (header : TableView) (body : List ℕ) (schema : Schema) (rows : List Row) : Type 0 where
  pub batch : BatchTables
  pub columns : List ColumnView
  pub batch_is : batch_in header ≡ Some batch
  pub plain : batch.compressed ≡ false
  pub columns_are : columns_in batch body 0 0 schema.0 ≡ Ok columns
  pub rows_are : rows ≡ rows_of columns batch.count

pub batch_made : (header : TableView) (body : List ℕ) (schema : Schema) (rows : List Row) → BatchHolds header body schema rows → BatchMade header body schema rows
unfolding batch_in
batch_made header body schema rows h =
    let batch : BatchTables = record { count = length rows; nodes = h.nodes.0; spans = h.spans.0; compressed = false } in
    let size = is_or_absent (pos 0) (i64_field header 0) (pos (length rows)) h.count in
    let count : not_negative (unwrap_or size.0 (pos 0)) ≡ Some (length rows) = ap not_negative size.2 ∙ is_not_negative (length rows) in
    let tables : TablesAre header batch = record { nodes_are = h.nodes.1; spans_are = h.spans.1 } in
    let made : ColumnsMade batch body 0 0 schema.0 rows = columns_made header batch body 0 0 schema.0 rows tables refl h.columns in
    let wide : length made.columns ≡ length schema.0 = columns_length batch body 0 0 schema.0 made.columns made.read in
    record {
      batch = batch;
      columns = made.columns;
      batch_is = rw (size.1, h.nodes.1, h.spans.1) (rw (count, absent_presence header 3 h.plain) refl);
      plain = refl;
      columns_are = made.read;
      rows_are = made_of (row_of made.columns) 0 rows (λ i row e.
          let here : 0 + i ≡ i = omega arith in
          let width : length row.0 ≡ length schema.0 = subst (λ (r : Row). length r.0 ≡ length schema.0) (get_or_from_slice_get rows i row row e) (All-get_or (λ (r : Row). length r.0 ≡ length schema.0) rows i row (slice_get_within rows i row e) h.widths) in
          ap (row_of made.columns) here ∙ row_is made.columns rows i row (wide ∙ sym width) made.cells_are e);
    }
