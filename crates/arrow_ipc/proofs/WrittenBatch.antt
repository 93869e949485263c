-- The batch of a written stream holds its rows.
use Rattle.std.proofs.Common.{◌≡◌, ℕ, zero, suc, ◌+◌, ◌^◌, ◌<◌, ◌≤◌, not, List, [], ◌∷◌, ◌++◌, length, map, Some, Ok, arith, refl, ap, ◌∙◌, sym, subst, inr, length-append}
use Rattle.std.specs.Prelude.{pos, slice_get, unwrap_or, FitsSigned}
use Rattle.std.specs.List.{All, AllByRecursion, flat_map}
use Rattle.std.specs.Int.{w32, w64, to_le_bytes}
use Rattle.std.proofs.lemmas.Int.{ints}
use Rattle.std.proofs.lemmas.List.{append_assoc}
use Rattle.std.proofs.lemmas.List.Sums.{count_by-le-length}
use Rattle.std.proofs.lemmas.List.Elements.{All-from_recursion, recursion_from_All}
use Rattle.cn_types.specs.Fit.{HasType, HaveTypes, Fits, IsValue}
use Rattle.cn_types.specs.declared.value.Value.{Value}
use Rattle.cn_types.specs.declared.value.Value.TheVariants as V
use Rattle.cn_types.specs.declared.value.DataType.{DataType}
use Rattle.cn_types.specs.declared.value.DataType.TheVariants as K
use Rattle.cn_types.specs.declared.row.Row.{Row}
use Rattle.cn_types.specs.declared.schema.Field.{Field}
use Rattle.cn_types.specs.declared.schema.Schema.{Schema}
use Rattle.flat_tables.specs.declared.object.FlatObject.{FlatObject}
use Rattle.flat_tables.specs.declared.object.FlatObject.TheVariants as O
use Rattle.flat_tables.specs.declared.object.FlatSlot.{FlatSlot}
use Rattle.flat_tables.specs.declared.object.FlatSlot.TheVariants.{I64, Object}
use Rattle.flat_tables.specs.declared.object.FlatPair.{FlatPair}
use Rattle.flat_tables.specs.Views.{TableView}
use Rattle.flat_tables.specs.Reading.{field_at, named_vector, vector_field}
use Rattle.flat_tables.specs.Layout.{OnNamed, zeros}
use Rattle.flat_tables.specs.Found.{FoundTo, SlotsRead, NumberFits, HasFittingNumbers, ReadsBack}
use Rattle.flat_tables.specs.ObjectSizes.{SizesAddUp}
use Rattle.flat_tables.specs.ObjectLaws.{HasFittingNumbers-Table, HasFittingNumbers-Pairs}
use Rattle.arrow_ipc.specs.Columns.{cells, has_value, null_count, text_of, bitmap, truth, bytes_of_4, bytes_of_8, offsets, validity, column_buffers, value_buffers, buffers_from, body_of, spans_from, node_of, nodes_from}
use Rattle.arrow_ipc.specs.Messages.{batch_table, message_table, schema_message, batch_message}
use Rattle.arrow_ipc.specs.Stream.{mark, end_mark, message_bytes, stream_of, CanBeWritten}
use Rattle.arrow_ipc.specs.Holds.{or_absent, PairIs, BufferAt, BuffersAt, AreLongEnough, CellStands, ColumnsHold, BatchHolds, EndMarkAt, AreInMemory, WrittenStreamsHold, buffer_count}
use Rattle.arrow_ipc.specs.Holds.{over, batch}
use Rattle.arrow_ipc.proofs.Sizes.{batch_can_be_put, texts_below}
use Rattle.flat_tables.proofs.Standing.{Stands, first, second, within, taken}
use Rattle.arrow_ipc.proofs.Standing.{whole, n32_there}
use Rattle.arrow_ipc.proofs.CellsStand.{present, missing, validity_long, bits_long, truth_stands, length-4s, length-8s, integer_stands, date_stands, long_stands, offsets_stand, text_stands}
use Rattle.arrow_ipc.proofs.FoundMessages.{found_pairs, field_read, get-map}
use Rattle.arrow_ipc.proofs.FoundBatch.{placed, pair_is}
use Rattle.arrow_ipc.proofs.WrittenSchema.{IsRead, message_is_read, message_numbers, begins_with_schema}

-- ---- one column

-- a value of a column's type, and of its Rust type
abbrev pub IsCell : DataType → Value → Type 0
IsCell kind v = HasType kind v × IsValue v

long_enough : (kind : DataType) (values : List Value) → length (flat_map text_of values) < 2 ^ 31 → AreLongEnough kind (length values) (value_buffers kind values)
long_enough K.Boolean values small = bits_long truth values
long_enough K.Integer values small = length-4s values
long_enough K.Long values small = length-8s values
long_enough K.Text values small = offsets_stand values small
long_enough K.Date values small = length-4s values

cell_stands : (kind : DataType) (values : List Value) (row : ℕ) (v : Value) → length (flat_map text_of values) < 2 ^ 31 → slice_get values row ≡ Some v → IsCell kind v → CellStands kind (validity values) (value_buffers kind values) row v
cell_stands K.Boolean values row V.Null small e h = missing values row e
cell_stands K.Boolean values row (V.Boolean b) small e h = (present values row (V.Boolean b) e refl, truth_stands values row b e)
cell_stands K.Boolean values row (V.Integer z) small e h = absurd h.0
cell_stands K.Boolean values row (V.Long z) small e h = absurd h.0
cell_stands K.Boolean values row (V.Text t) small e h = absurd h.0
cell_stands K.Boolean values row (V.Date z) small e h = absurd h.0
cell_stands K.Integer values row V.Null small e h = missing values row e
cell_stands K.Integer values row (V.Boolean b) small e h = absurd h.0
cell_stands K.Integer values row (V.Integer z) small e h = (present values row (V.Integer z) e refl, integer_stands values row z e h.1)
cell_stands K.Integer values row (V.Long z) small e h = absurd h.0
cell_stands K.Integer values row (V.Text t) small e h = absurd h.0
cell_stands K.Integer values row (V.Date z) small e h = absurd h.0
cell_stands K.Long values row V.Null small e h = missing values row e
cell_stands K.Long values row (V.Boolean b) small e h = absurd h.0
cell_stands K.Long values row (V.Integer z) small e h = absurd h.0
cell_stands K.Long values row (V.Long z) small e h = (present values row (V.Long z) e refl, long_stands values row z e h.1)
cell_stands K.Long values row (V.Text t) small e h = absurd h.0
cell_stands K.Long values row (V.Date z) small e h = absurd h.0
cell_stands K.Text values row V.Null small e h = missing values row e
cell_stands K.Text values row (V.Boolean b) small e h = absurd h.0
cell_stands K.Text values row (V.Integer z) small e h = absurd h.0
cell_stands K.Text values row (V.Long z) small e h = absurd h.0
cell_stands K.Text values row (V.Text t) small e h = (present values row (V.Text t) e refl, (text_stands values row t small e, h.1))
cell_stands K.Text values row (V.Date z) small e h = absurd h.0
cell_stands K.Date values row V.Null small e h = missing values row e
cell_stands K.Date values row (V.Boolean b) small e h = absurd h.0
cell_stands K.Date values row (V.Integer z) small e h = absurd h.0
cell_stands K.Date values row (V.Long z) small e h = absurd h.0
cell_stands K.Date values row (V.Text t) small e h = absurd h.0
cell_stands K.Date values row (V.Date z) small e h = (present values row (V.Date z) e refl, (date_stands values row z e h.1, h.0))

-- the buffers of the columns that are left, from `first` on
abbrev BuffersFrom : TableView → List ℕ → ℕ → List (List ℕ) → Type 0
BuffersFrom t body first buffers = (i : ℕ) (buffer : List ℕ) → slice_get buffers i ≡ Some buffer → BufferAt t body (first + i) buffer

buffers_at : (t : TableView) (body : List ℕ) (kind : DataType) (values : List Value) (rest : List (List ℕ)) (first : ℕ) → BuffersFrom t body first (column_buffers kind values ++ rest)
    → BufferAt t body first (validity values) × BuffersAt t body (first + 1) (value_buffers kind values) × BuffersFrom t body (first + 1 + buffer_count kind) rest
unfolding column_buffers
buffers_at t body kind values rest first h = by_kind kind h
  where
    at : (i n : ℕ) (buffer : List ℕ) → first + i ≡ n → BufferAt t body (first + i) buffer → BufferAt t body n buffer
    at i n buffer e b = subst (λ (k : ℕ). BufferAt t body k buffer) e b

    by_kind : (k : DataType) → BuffersFrom t body first (column_buffers k values ++ rest) → BufferAt t body first (validity values) × BuffersAt t body (first + 1) (value_buffers k values) × BuffersFrom t body (first + 1 + buffer_count k) rest
    by_kind K.Boolean f = (at 0 first (validity values) (omega arith) (f 0 (validity values) refl), (f 1 (bitmap (map truth values)) refl, tt), λ i b e. at (suc (suc i)) (first + 1 + 1 + i) b (omega arith) (f (suc (suc i)) b e))
    by_kind K.Integer f = (at 0 first (validity values) (omega arith) (f 0 (validity values) refl), (f 1 (flat_map bytes_of_4 values) refl, tt), λ i b e. at (suc (suc i)) (first + 1 + 1 + i) b (omega arith) (f (suc (suc i)) b e))
    by_kind K.Long f = (at 0 first (validity values) (omega arith) (f 0 (validity values) refl), (f 1 (flat_map bytes_of_8 values) refl, tt), λ i b e. at (suc (suc i)) (first + 1 + 1 + i) b (omega arith) (f (suc (suc i)) b e))
    by_kind K.Text f = (at 0 first (validity values) (omega arith) (f 0 (validity values) refl), (f 1 (offsets 0 values) refl, (at 2 (first + 1 + 1) (flat_map text_of values) (omega arith) (f 2 (flat_map text_of values) refl), tt)), λ i b e. at (suc (suc (suc i))) (first + 1 + 2 + i) b (omega arith) (f (suc (suc (suc i))) b e))
    by_kind K.Date f = (at 0 first (validity values) (omega arith) (f 0 (validity values) refl), (f 1 (flat_map bytes_of_4 values) refl, tt), λ i b e. at (suc (suc i)) (first + 1 + 1 + i) b (omega arith) (f (suc (suc i)) b e))

abbrev NodesFrom : TableView → ℕ → List Field → List Row → Type 0
NodesFrom t column fields rows = (i : ℕ) (values : List Value) → slice_get (nodes_from column fields rows) i ≡ Some (node_of values) → length values < 2 ^ 63 → null_count values < 2 ^ 63 → PairIs (vector_field t 1 16) (column + i) (length values) (null_count values)

All-get : {X : Type 0} → (P : X → Type 0) (xs : List X) (i : ℕ) (x : X) → AllByRecursion P xs → slice_get xs i ≡ Some x → P x
All-get P [] i x h e = absurd (cc)
All-get P (y ∷ ys) zero x h e = let same : y ≡ x = cc in subst P same h.0
All-get P (y ∷ ys) (suc i) x h e = All-get P ys i x h.1 e

length-cells : (column : ℕ) (rows : List Row) → length (cells column rows) ≡ length rows
length-cells column [] = refl
length-cells column (row ∷ rows) = ap suc (length-cells column rows)

-- what is known of the columns that are left: their values have their types, and their texts are short
abbrev ColumnsFit : ℕ → List Field → List Row → Type 0
ColumnsFit column [] rows = Unit {0}
ColumnsFit column (field ∷ fields) rows = AllByRecursion (IsCell field.kind) (cells column rows) × (length (flat_map text_of (cells column rows)) < 2 ^ 31) × ColumnsFit (column + 1) fields rows

columns_hold : (t : TableView) (body : List ℕ) (column first : ℕ) (fields : List Field) (rows : List Row) → length rows < 2 ^ 63 → ColumnsFit column fields rows → BuffersFrom t body first (buffers_from column fields rows) → NodesFrom t column fields rows
    → ColumnsHold t body column first fields rows
columns_hold t body column first [] rows small fit buffers nodes = tt
columns_hold t body column first (field ∷ fields) rows small fit buffers nodes =
    let values : List Value = cells column rows in
    let parts = buffers_at t body field.kind values (buffers_from (column + 1) fields rows) first buffers in
    let here : column + 0 ≡ column = omega arith in (
      record {
        validity = validity values;
        buffers = value_buffers field.kind values;
        node = subst (λ (n : ℕ). PairIs (vector_field t 1 16) n (length values) (null_count values)) here (nodes 0 values refl (omega (arith, length-cells column rows)) (omega (arith, length-cells column rows, count_by-le-length (λ (v : Value). not (has_value v)) values)));
        validity_at = parts.0;
        buffers_at = parts.1;
        validity_long = validity_long values;
        long_enough = long_enough field.kind values fit.1;
        each = λ row v e. cell_stands field.kind values row v fit.1 e (All-get (IsCell field.kind) values row v fit.0 e);
      },
      columns_hold t body (column + 1) (first + 1 + buffer_count field.kind) fields rows small fit.2 parts.2
          (λ i vs e f g. let there : column + suc i ≡ column + 1 + i = omega arith in subst (λ (n : ℕ). PairIs (vector_field t 1 16) n (length vs) (null_count vs)) there (nodes (suc i) vs e f g)),
    )

-- ---- all columns

have_type : (kinds : List DataType) (values : List Value) (column : ℕ) (kind : DataType) → HaveTypes kinds values → slice_get kinds column ≡ Some kind → HasType kind (unwrap_or (slice_get values column) V.Null)
have_type [] values column kind h e = absurd (cc)
have_type (k ∷ ks) [] column kind h e = absurd h
have_type (k ∷ ks) (v ∷ vs) zero kind h e = let same : k ≡ kind = cc in subst (λ (x : DataType). HasType x v) same h.0
have_type (k ∷ ks) (v ∷ vs) (suc column) kind h e = have_type ks vs column kind h.1 e

is_value : (values : List Value) (column : ℕ) → AllByRecursion IsValue values → IsValue (unwrap_or (slice_get values column) V.Null)
is_value [] column h = tt
is_value (v ∷ vs) zero h = h.0
is_value (v ∷ vs) (suc column) h = is_value vs column h.1

cells_fit : (schema : Schema) (column : ℕ) (field : Field) (rows : List Row) → slice_get schema.0 column ≡ Some field → AllByRecursion (Fits schema) rows → AllByRecursion (λ row. All IsValue row.0) rows → AllByRecursion (IsCell field.kind) (cells column rows)
cells_fit schema column field [] e fits values = tt
cells_fit schema column field (row ∷ rows) e fits values = (
  (have_type (map (λ (f : Field). f.kind) schema.0) row.0 column field.kind fits.0 (get-map (λ (f : Field). f.kind) schema.0 column field e), is_value row.0 column (recursion_from_All IsValue row.0 values.0)),
  cells_fit schema column field rows e fits.1 values.1,
)

columns_fit : (schema : Schema) (rows : List Row) → CanBeWritten schema rows → AreInMemory schema rows → (column : ℕ) (fields : List Field) → ((i : ℕ) (f : Field) → slice_get fields i ≡ Some f → slice_get schema.0 (column + i) ≡ Some f)
    → ColumnsFit column fields rows
columns_fit schema rows can mem column [] at = tt
columns_fit schema rows can mem column (field ∷ fields) at =
    let here : column + 0 ≡ column = omega arith in
    let it : slice_get schema.0 column ≡ Some field = subst (λ (n : ℕ). slice_get schema.0 n ≡ Some field) here (at 0 field refl) in (
      cells_fit schema column field rows it (recursion_from_All (Fits schema) rows can.fits) (recursion_from_All (λ (row : Row). All IsValue row.0) rows mem.values),
      texts_below schema rows column can,
      columns_fit schema rows can mem (column + 1) fields (λ i f e. let there : column + suc i ≡ column + 1 + i = omega arith in subst (λ (n : ℕ). slice_get schema.0 n ≡ Some f) there (at (suc i) f e)),
    )

same_width : (ks : List DataType) (values : List Value) → HaveTypes ks values → length values ≡ length ks
same_width [] [] h = refl
same_width (k ∷ ks) (v ∷ vs) h = ap suc (same_width ks vs h.1)
same_width [] (v ∷ vs) h = absurd h
same_width (k ∷ ks) [] h = absurd h

kinds-length : (fields : List Field) → length (map (λ field. field.kind) fields) ≡ length fields
kinds-length [] = refl
kinds-length (field ∷ fields) = ap suc (kinds-length fields)

widths : (schema : Schema) (rows : List Row) → AllByRecursion (Fits schema) rows → AllByRecursion (λ row. length row.0 ≡ length schema.0) rows
widths schema [] h = tt
widths schema (row ∷ rows) h = (same_width (map (λ (f : Field). f.kind) schema.0) row.0 h.0 ∙ kinds-length schema.0, widths schema rows h.1)

-- ---- the batch's message

abbrev batch_slots : ℕ → List FlatPair → List FlatPair → List (FlatSlot FlatObject)
batch_slots count nodes spans = I64 (pos count) ∷ Object (O.Pairs nodes) ∷ Object (O.Pairs spans) ∷ []

batch_table_is : (count : ℕ) (nodes spans : List FlatPair) → batch_table count nodes spans ≡ O.Table (batch_slots count nodes spans)
unfolding batch_table
batch_table_is count nodes spans = refl

batch_numbers : (count : ℕ) (nodes spans : List FlatPair) → count < 2 ^ 63 → HasFittingNumbers (batch_table count nodes spans)
batch_numbers count nodes spans h =
    let slots : List (FlatSlot FlatObject) = batch_slots count nodes spans in
    let fits : FitsSigned w64 (pos count) = omega (arith, ints) in
    subst HasFittingNumbers (sym (batch_table_is count nodes spans))
    (HasFittingNumbers-Table slots (All-from_recursion NumberFits slots (fits, (tt, (tt, tt)))) (All-from_recursion (OnNamed HasFittingNumbers) slots (tt, (HasFittingNumbers-Pairs nodes, (HasFittingNumbers-Pairs spans, tt)))))

batch_holds : (schema : Schema) (rows : List Row) (t : TableView) → CanBeWritten schema rows → AreInMemory schema rows
    → SlotsRead (FoundTo 4) t (batch_slots (length rows) (nodes_from 0 schema.0 rows) (spans_from 0 (buffers_from 0 schema.0 rows))) → BatchHolds t (body_of (buffers_from 0 schema.0 rows)) schema rows
batch_holds schema rows t can mem r =
    let all : List (List ℕ) = buffers_from 0 schema.0 rows in
    let body : List ℕ = body_of all in
    let nodes : List FlatPair = nodes_from 0 schema.0 rows in
    let spans : List FlatPair = spans_from 0 all in
    let node_field = r.each 1 (Object (O.Pairs nodes)) refl in
    let node_vector = found_pairs 3 nodes t.buffer node_field.0 node_field.2 in
    let node_is : vector_field t 1 16 ≡ Ok (Some node_vector.0) = field_read (named_vector t.buffer 16) (field_at t.buffer t.place 1) node_field.0 node_vector.0 node_field.1 node_vector.1 in
    let span_field = r.each 2 (Object (O.Pairs spans)) refl in
    let span_vector = found_pairs 3 spans t.buffer span_field.0 span_field.2 in
    let span_is : vector_field t 2 16 ≡ Ok (Some span_vector.0) = field_read (named_vector t.buffer 16) (field_at t.buffer t.place 2) span_field.0 span_vector.0 span_field.1 span_vector.1 in
    record {
      count = ap (or_absent (pos 0)) (r.each 0 (I64 (pos (length rows))) refl);
      plain = r.beyond 3 (omega arith);
      nodes = (Some node_vector.0, node_is);
      spans = (Some span_vector.0, span_is);
      widths = All-from_recursion (λ (row : Row). length row.0 ≡ length schema.0) rows (widths schema rows (recursion_from_All (Fits schema) rows can.fits));
      columns = columns_hold t body 0 0 schema.0 rows mem.count
          (columns_fit schema rows can mem 0 schema.0 (λ i f e. let here : i ≡ 0 + i = omega arith in subst (λ (n : ℕ). slice_get schema.0 n ≡ Some f) here e))
          (λ i b e.
          let p = placed 0 all body i b (whole body) e in
          let inside : p.offset + length b ≤ length body = within body p.offset b p.stands in
          let here : i ≡ 0 + i = omega arith in
          subst (λ (n : ℕ). BufferAt t body n b) here (record {
            offset = p.offset;
            span = pair_is t 2 span_vector.0 spans i p.offset (length b) span_is span_vector.2 p.span (omega (arith, inside, mem.body)) (omega (arith, inside, mem.body));
            bytes = taken body p.offset (length b) b refl p.stands;
            within = inside;
          }))
          (λ i vs e f g. let here : i ≡ 0 + i = omega arith in
          subst (λ (n : ℕ). PairIs (vector_field t 1 16) n (length vs) (null_count vs)) here (pair_is t 1 node_vector.0 nodes i (length vs) (null_count vs) node_is node_vector.2 e f g));
    }

-- ---- the stream

end_mark_stands : (bytes : List ℕ) (at : ℕ) → Stands bytes at end_mark → EndMarkAt bytes at
end_mark_stands bytes at s =
    let small : 0 < 2 ^ 31 = omega arith in
    record {
      mark_is = taken bytes at 4 mark refl (first bytes at mark (zeros 4) s);
      size_is = n32_there bytes (at + 4) 0 small (subst (Stands bytes (at + 4)) zero_bytes (second bytes at mark (zeros 4) s));
    }
  where
    zero_bytes : zeros 4 ≡ to_le_bytes w32 0
    zero_bytes = refl

pub written_streams_hold : SizesAddUp → ReadsBack → WrittenStreamsHold
unfolding stream_of batch_message
written_streams_hold sizes reads schema rows can mem =
    let stream : List ℕ = stream_of schema rows in
    let one : List ℕ = message_bytes (schema_message schema) in
    let two : List ℕ = message_bytes (batch_message schema rows) in
    let all : List (List ℕ) = buffers_from 0 schema.0 rows in
    let body : List ℕ = body_of all in
    let at : ℕ = length one in
    let slots : List (FlatSlot FlatObject) = batch_slots (length rows) (nodes_from 0 schema.0 rows) (spans_from 0 all) in
    let from : 0 + length one ≡ at = omega arith in
    let rest : Stands stream at (two ++ (body ++ end_mark)) = subst (λ (n : ℕ). Stands stream n (two ++ (body ++ end_mark))) from (second stream 0 one (two ++ (body ++ end_mark)) (whole stream)) in
    let there : Stands stream at ((two ++ body) ++ end_mark) = subst (Stands stream at) (sym (append_assoc two body end_mark)) rest in
    let message : batch_message schema rows ≡ message_table 3 (O.Table slots) (length body) = ap (λ (o : FlatObject). message_table 3 o (length body)) (batch_table_is (length rows) (nodes_from 0 schema.0 rows) (spans_from 0 all)) in
    let three : 3 < 2 ^ 8 = omega arith in
    let read : IsRead stream at 3 slots body (at + length two + length body)
    = message_is_read reads stream at 3 slots body (batch_message schema rows) message (batch_can_be_put sizes schema rows can)
    (message_numbers 3 (batch_table (length rows) (nodes_from 0 schema.0 rows) (spans_from 0 all)) (length body) three mem.body (batch_numbers (length rows) (nodes_from 0 schema.0 rows) (spans_from 0 all) mem.count))
    (first stream at (two ++ body) end_mark there) in
    let next : at + length (two ++ body) ≡ at + length two + length body = omega (arith, length-append two body) in
    let over_there : Stands stream (at + length two + length body) end_mark = subst (λ (n : ℕ). Stands stream n end_mark) next (second stream at (two ++ body) end_mark there) in
    record {
      next = at;
      begins = begins_with_schema sizes reads schema rows can mem.names;
      batches_are = batch at (at + length two + length body) read.header body rows [] read.message (batch_holds schema rows read.header can mem read.slots_read)
          (over (at + length two + length body) (inr (end_mark_stands stream (at + length two + length body) over_there)));
    }
