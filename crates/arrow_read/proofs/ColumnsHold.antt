-- A whole column is read exactly where a batch holds it.
use Rattle.std.proofs.Common.{◌≡◌, ℕ, zero, suc, get_or, ◌+◌, ◌*◌, ◌<◌, ◌≤◌, ◌⊎◌, inl, inr, Bool, true, false, not, cond, eqb, ◌&&◌, ◌||◌, List, [], ◌∷◌, length, map, Option, None, Some, Ok, Err, arith, refl, ap, ◌∙◌, subst, sym}
use Rattle.std.specs.Prelude.{ℤ, pos, slice_get}
use Rattle.std.specs.List.{range_with_len}
use Rattle.std.proofs.lemmas.Bool.{leb-true, le-leb, ne_eqb, and_parts, or_right}
use Rattle.std.proofs.lemmas.Bool.Decides.{nat_tests}
use Rattle.std.proofs.lemmas.Option.{same_Some, slice_get_within, slice_get-get_or}
use Rattle.std.proofs.lemmas.List.FromFn.{length-map-range_with_len, sum_by-map-range_with_len_more}
use Rattle.cn_types.specs.declared.value.Value.{Value}
use Rattle.cn_types.specs.declared.value.Value.TheVariants as V
use Rattle.cn_types.specs.declared.value.DataType.{DataType}
use Rattle.cn_types.specs.declared.value.DataType.TheVariants as K
use Rattle.flat_tables.specs.Views.{TableView, VectorView}
use Rattle.flat_tables.specs.Reading.{vector_field}
use Rattle.arrow_ipc.specs.Columns.{has_value, null_count}
use Rattle.arrow_ipc.specs.Holds.{PairIs, BufferAt, BuffersAt, CellStands, AreLongEnough, ColumnHolds}
use Rattle.arrow_read.specs.declared.fault.ArrowFault.{ArrowFault}
use Rattle.arrow_read.specs.declared.fault.ArrowFault.TheVariants.{BadLength, BadBuffer}
use Rattle.arrow_read.specs.declared.pair.Pair.{Pair}
use Rattle.arrow_read.specs.declared.batch.BatchTables.{BatchTables}
use Rattle.arrow_read.specs.Columns.{ColumnView, pair_at, buffer_at, is_present, cell, texts_of, buffers_in, misses_below, has_bits, is_long_enough, is_number, nulls_of, is_sound, row_fault, first_fault}
use Rattle.arrow_read.specs.Reading.{or_fault, if_sound, if_values, column_in}
use Rattle.arrow_read.proofs.Chains.{bind_ok, fault_ok, same_int}
use Rattle.arrow_read.proofs.Steps.{bind_some}
use Rattle.arrow_read.proofs.Below.{no_fault_at, no_fault_from}
use Rattle.arrow_read.proofs.BufferLaws.{pair_read, pair_made, buffer_read, buffer_made, offsets_stand, standing_offsets}
use Rattle.arrow_read.proofs.ColumnLaws.{others, column_of, CellIs, cell_is, Reads, reads}

-- ---- lists by place

pub made_at : {A : Type 0} → (f : ℕ → A) (start n i : ℕ) (x : A) → slice_get (map f (range_with_len start n)) i ≡ Some x → (i < n) × (f (start + i) ≡ x)
made_at f start zero i x h = absurd (cc)
made_at f start (suc n) zero x h = let here : start ≡ start + 0 = omega arith in (omega arith, ap f (sym here) ∙ same_Some (f start) x h)
made_at f start (suc n) (suc i) x h =
    let r = made_at f (start + 1) n i x h in
    let there : start + suc i ≡ start + 1 + i = omega arith in
    (omega (arith, r.0), ap f there ∙ r.1)

pub made_of : {A : Type 0} → (f : ℕ → A) (start : ℕ) (xs : List A) → ((i : ℕ) (x : A) → slice_get xs i ≡ Some x → f (start + i) ≡ x) → xs ≡ map f (range_with_len start (length xs))
made_of f start [] h = refl
made_of {A} f start (x ∷ xs) h =
    let here : start ≡ start + 0 = omega arith in
    let first : x ≡ f start = sym (ap f here ∙ h 0 x refl) in
    let rest : xs ≡ map f (range_with_len (start + 1) (length xs)) = made_of f (start + 1) xs (λ i y g. let there : start + 1 + i ≡ start + suc i = omega arith in ap f there ∙ h (suc i) y g) in
    ap (λ (y : A). y ∷ xs) first ∙ ap (λ (ys : List A). f start ∷ ys) rest

flip : (b : Bool) → ◌≡◌ {A = ℕ} (cond (not b) 1 0) (cond b 0 1)
flip true = refl
flip false = refl

-- as many nulls as rows that aren't present
pub nulls_are : (f : ℕ → Value) (test : ℕ → Bool) (n : ℕ) → ((i : ℕ) → i < n → has_value (f i) ≡ test i) → null_count (map f (range_with_len 0 n)) ≡ misses_below n test
nulls_are f test zero h = refl
nulls_are f test (suc n) h =
    let next : suc n ≡ n + 1 = omega arith in
    let here : 0 + n ≡ n = omega arith in
    let more : null_count (map f (range_with_len 0 (n + 1))) ≡ null_count (map f (range_with_len 0 n)) + cond (not (has_value (f n))) 1 0 = sum_by-map-range_with_len_more (λ (v : Value). cond (not (has_value v)) 1 0) f 0 n n here in
    let before : null_count (map f (range_with_len 0 n)) ≡ misses_below n test = nulls_are f test n (λ i l. h i (omega arith)) in
    let last : cond (not (has_value (f n))) 1 0 ≡ cond (test n) 0 1 = ap (λ (b : Bool). cond (not b) 1 0) (h n (omega arith)) ∙ flip (test n) in
    ap (λ (k : ℕ). null_count (map f (range_with_len 0 k))) next ∙ more ∙ ap (λ (k : ℕ). k + cond (not (has_value (f n))) 1 0) before ∙ ap (λ (k : ℕ). misses_below n test + k) last

-- ---- what is read of a column

pub record ColumnIs (batch : BatchTables) (body : List ℕ) (place first : ℕ) (kind : DataType) (column : ColumnView) : Type 0 where
  pub nulls : ℤ
  pub nulls_are : nulls_of batch.count (pair_at batch.nodes place) ≡ Some nulls
  pub buffers_are : buffers_in batch body first kind ≡ Some column
  pub sound : is_sound batch.count nulls column ≡ true
  pub no_fault : first_fault batch.count (row_fault place column) ≡ None

pub sound_is : (count : ℕ) (nulls : ℤ) (place : ℕ) (column found : ColumnView) → if_sound count nulls place column ≡ Ok found → (column ≡ found) × (is_sound count nulls column ≡ true)
sound_is count nulls place column found h = by_test (is_sound count nulls column) refl h
  where
    by_test : (b : Bool) → is_sound count nulls column ≡ b → cond b (Ok column) (Err (BadBuffer place)) ≡ Ok found → (column ≡ found) × (is_sound count nulls column ≡ true)
    by_test true e k = let same : column ≡ found = cc in (same, e)
    by_test false e k = absurd (cc)

values_are : (column found : ColumnView) (o : Option ArrowFault) → if_values column o ≡ Ok found → (column ≡ found) × (o ≡ None)
values_are column found None h = let same : column ≡ found = cc in (same, refl)
values_are column found (Some fault) h = absurd (cc)

pub column_is : (batch : BatchTables) (body : List ℕ) (place first : ℕ) (kind : DataType) (column : ColumnView) → column_in batch body place first kind ≡ Ok column → ColumnIs batch body place first kind column
unfolding column_in
column_is batch body place first kind column h =
    let (nulls, en, h1) = bind_ok (or_fault (BadLength place) (nulls_of batch.count (pair_at batch.nodes place))) _ column h in
    let (buffers, eb, h2) = bind_ok (or_fault (BadBuffer place) (buffers_in batch body first kind)) _ column h1 in
    let (sound, es, h3) = bind_ok (if_sound batch.count nulls place buffers) _ column h2 in
    let s = sound_is batch.count nulls place buffers sound es in
    let v = values_are sound column (first_fault batch.count (row_fault place sound)) h3 in
    subst (ColumnIs batch body place first kind) (s.0 ∙ v.0) (record {
      nulls = nulls;
      nulls_are = fault_ok (BadLength place) (nulls_of batch.count (pair_at batch.nodes place)) nulls en;
      buffers_are = fault_ok (BadBuffer place) (buffers_in batch body first kind) buffers eb;
      sound = s.1;
      no_fault = subst (λ (c : ColumnView). first_fault batch.count (row_fault place c) ≡ None) (sym s.0) v.1;
    })

pub is_column : (batch : BatchTables) (body : List ℕ) (place first : ℕ) (kind : DataType) (column : ColumnView) → ColumnIs batch body place first kind column → column_in batch body place first kind ≡ Ok column
unfolding column_in
is_column batch body place first kind column h = rw (h.nulls_are, h.buffers_are) (rw h.sound (rw h.no_fault refl))

-- its node
pub record NodeIs (count : ℕ) (node : Pair) (nulls : ℤ) : Type 0 where
  pub count_is : node.first ≡ pos count
  pub nulls_are : node.second ≡ nulls

pub node_is : (count : ℕ) (o : Option Pair) (nulls : ℤ) → nulls_of count o ≡ Some nulls → (node : Pair) × (o ≡ Some node) × NodeIs count node nulls
node_is count None nulls h = absurd (cc)
node_is count (Some node) nulls h = by_test (is_number node.first count) refl h
  where
    by_test : (b : Bool) → is_number node.first count ≡ b → cond b (Some node.second) None ≡ Some nulls → (found : Pair) × (Some node ≡ Some found) × NodeIs count found nulls
    by_test true e k = (node, refl, record { count_is = same_int node.first (pos count) e; nulls_are = same_Some node.second nulls k })
    by_test false e k = absurd (cc)

-- ---- its buffers

pub record BuffersAre (batch : BatchTables) (body : List ℕ) (first : ℕ) (kind : DataType) (column : ColumnView) : Type 0 where
  pub validity : List ℕ
  pub values : List ℕ
  pub texts : List ℕ
  pub validity_at : buffer_at batch.spans body first ≡ Some validity
  pub values_at : buffer_at batch.spans body (first + 1) ≡ Some values
  pub texts_at : texts_of kind (buffer_at batch.spans body (first + 2)) ≡ Some texts
  pub column_is : column_of kind validity values texts ≡ column

pub buffers_are : (batch : BatchTables) (body : List ℕ) (first : ℕ) (kind : DataType) (column : ColumnView) → buffers_in batch body first kind ≡ Some column → BuffersAre batch body first kind column
unfolding buffers_in
buffers_are batch body first kind column h =
    let (validity, ev, h1) = bind_some (buffer_at batch.spans body first) _ column h in
    let (values, en, h2) = bind_some (buffer_at batch.spans body (first + 1)) _ column h1 in
    let (texts, et, h3) = bind_some (texts_of kind (buffer_at batch.spans body (first + 2))) _ column h2 in
    record { validity = validity; values = values; texts = texts; validity_at = ev; values_at = en; texts_at = et; column_is = same_Some (column_of kind validity values texts) column h3 }

pub others_at : (t : TableView) (spans : Option VectorView) (body : List ℕ) (first : ℕ) (kind : DataType) (values texts : List ℕ) → vector_field t 2 16 ≡ Ok spans → buffer_at spans body (first + 1) ≡ Some values
    → texts_of kind (buffer_at spans body (first + 2)) ≡ Some texts → BuffersAt t body (first + 1) (others kind values texts)
others_at t spans body first K.Boolean values texts e h k = (buffer_read t spans body (first + 1) values e h, tt)
others_at t spans body first K.Integer values texts e h k = (buffer_read t spans body (first + 1) values e h, tt)
others_at t spans body first K.Long values texts e h k = (buffer_read t spans body (first + 1) values e h, tt)
others_at t spans body first K.Text values texts e h k =
    let there : first + 2 ≡ first + 1 + 1 = omega arith in
    (buffer_read t spans body (first + 1) values e h, (subst (λ (n : ℕ). BufferAt t body n texts) there (buffer_read t spans body (first + 2) texts e k), tt))
others_at t spans body first K.Date values texts e h k = (buffer_read t spans body (first + 1) values e h, tt)

pub long_enough : (kind : DataType) (validity values texts : List ℕ) (count : ℕ) → is_long_enough count (column_of kind validity values texts) ≡ true → AreLongEnough kind count (others kind values texts)
unfolding is_long_enough
long_enough K.Boolean va vs ts count h = leb-true count (8 * length vs) h
long_enough K.Integer va vs ts count h = leb-true (4 * count) (length vs) h
long_enough K.Long va vs ts count h = leb-true (8 * count) (length vs) h
long_enough K.Text va vs ts count h = offsets_stand count vs ts h
long_enough K.Date va vs ts count h = leb-true (4 * count) (length vs) h

pub is_long : (kind : DataType) (validity values texts : List ℕ) (count : ℕ) → AreLongEnough kind count (others kind values texts) → is_long_enough count (column_of kind validity values texts) ≡ true
unfolding is_long_enough
is_long K.Boolean va vs ts count h = le-leb count (8 * length vs) h
is_long K.Integer va vs ts count h = le-leb (4 * count) (length vs) h
is_long K.Long va vs ts count h = le-leb (8 * count) (length vs) h
is_long K.Text va vs ts count h = standing_offsets count vs ts h
is_long K.Date va vs ts count h = le-leb (4 * count) (length vs) h

-- the three parts of a sound column
pub record SoundIs (count : ℕ) (nulls : ℤ) (kind : DataType) (validity values texts : List ℕ) : Type 0 where
  pub validity_long : (validity ≡ []) ⊎ (count ≤ 8 * length validity)
  pub long : is_long_enough count (column_of kind validity values texts) ≡ true
  pub nulls_are : nulls ≡ pos (misses_below count (is_present validity))

validity_is : (count : ℕ) (validity : List ℕ) → (eqb (length validity) 0 || has_bits count validity) ≡ true → (validity ≡ []) ⊎ (count ≤ 8 * length validity)
validity_is count [] h = inl refl
validity_is count (byte ∷ bytes) h = inr (leb-true count (8 * length (byte ∷ bytes)) (ap (λ (b : Bool). b || has_bits count (byte ∷ bytes)) (sym (ne_eqb (suc (length bytes)) 0 (λ e. omega arith))) ∙ h))

is_validity : (count : ℕ) (validity : List ℕ) → (validity ≡ []) ⊎ (count ≤ 8 * length validity) → (eqb (length validity) 0 || has_bits count validity) ≡ true
is_validity count validity (inl e) = rw e refl
is_validity count validity (inr l) = or_right (eqb (length validity) 0) (has_bits count validity) (le-leb count (8 * length validity) l)

pub sound_parts : (count : ℕ) (nulls : ℤ) (kind : DataType) (validity values texts : List ℕ) → is_sound count nulls (column_of kind validity values texts) ≡ true → SoundIs count nulls kind validity values texts
unfolding is_sound
sound_parts count nulls kind va vs ts h =
    let p = and_parts ((eqb (length va) 0 || has_bits count va) && is_long_enough count (column_of kind va vs ts)) (is_number nulls (misses_below count (is_present va))) h in
    let q = and_parts (eqb (length va) 0 || has_bits count va) (is_long_enough count (column_of kind va vs ts)) p.0 in
    record { validity_long = validity_is count va q.0; long = q.1; nulls_are = same_int nulls (pos (misses_below count (is_present va))) p.1 }

pub same_number : (n : ℕ) → is_number (pos n) n ≡ true
same_number n = grind (arith, nat_tests)

pub parts_sound : (count : ℕ) (nulls : ℤ) (kind : DataType) (validity values texts : List ℕ) → SoundIs count nulls kind validity values texts → is_sound count nulls (column_of kind validity values texts) ≡ true
unfolding is_sound
parts_sound count nulls kind va vs ts s = rw (is_validity count va s.validity_long, s.long, s.nulls_are) (same_number (misses_below count (is_present va)))

-- ---- what is read of a column is held

-- a batch's tables, as its vectors are read
pub record TablesAre (t : TableView) (batch : BatchTables) : Type 0 where
  pub nodes_are : vector_field t 1 16 ≡ Ok batch.nodes
  pub spans_are : vector_field t 2 16 ≡ Ok batch.spans

pub column_holds : (t : TableView) (batch : BatchTables) (body : List ℕ) (place first : ℕ) (kind : DataType) (column : ColumnView) → TablesAre t batch → column_in batch body place first kind ≡ Ok column
    → ColumnHolds t body place first kind (map (cell column) (range_with_len 0 batch.count))
column_holds t batch body place first kind column tables h =
    let c = column_is batch body place first kind column h in
    let b = buffers_are batch body first kind column c.buffers_are in
    subst (λ (x : ColumnView). ColumnHolds t body place first kind (map (cell x) (range_with_len 0 batch.count))) b.column_is (of c b)
  where
    of : ColumnIs batch body place first kind column → (b : BuffersAre batch body first kind column) → ColumnHolds t body place first kind (map (cell (column_of kind b.validity b.values b.texts)) (range_with_len 0 batch.count))
    of c b =
        let it : ColumnView = column_of kind b.validity b.values b.texts in
        let n : ℕ = batch.count in
        let node = node_is n (pair_at batch.nodes place) c.nulls c.nulls_are in
        let sound = sound_parts n c.nulls kind b.validity b.values b.texts (subst (λ (x : ColumnView). is_sound n c.nulls x ≡ true) (sym b.column_is) c.sound) in
        let faults : first_fault n (row_fault place it) ≡ None = subst (λ (x : ColumnView). first_fault n (row_fault place x) ≡ None) (sym b.column_is) c.no_fault in
        let cells : (i : ℕ) → i < n → CellIs kind b.validity b.values b.texts i (cell it i) = λ i l. cell_is kind b.validity b.values b.texts place n i l sound.long (no_fault_at n (row_fault place it) faults i l) in
        let count : length (map (cell it) (range_with_len 0 n)) ≡ n = length-map-range_with_len (cell it) 0 n in
        let nulls : null_count (map (cell it) (range_with_len 0 n)) ≡ misses_below n (is_present b.validity) = nulls_are (cell it) (is_present b.validity) n (λ i l. (cells i l).has) in
        record {
          validity = b.validity;
          buffers = others kind b.values b.texts;
          node = subst (λ (k : ℕ). PairIs (vector_field t 1 16) place k (null_count (map (cell it) (range_with_len 0 n)))) (sym count)
              (subst (λ (k : ℕ). PairIs (vector_field t 1 16) place n k) (sym nulls) (pair_read (vector_field t 1 16) batch.nodes place node.0 n (misses_below n (is_present b.validity)) tables.nodes_are node.1 node.2.count_is (node.2.nulls_are ∙ sound.nulls_are)));
          validity_at = buffer_read t batch.spans body first b.validity tables.spans_are b.validity_at;
          buffers_at = others_at t batch.spans body first kind b.values b.texts tables.spans_are b.values_at b.texts_at;
          validity_long = subst (λ (k : ℕ). (b.validity ≡ []) ⊎ (k ≤ 8 * length b.validity)) (sym count) sound.validity_long;
          long_enough = subst (λ (k : ℕ). AreLongEnough kind k (others kind b.values b.texts)) (sym count) (long_enough kind b.validity b.values b.texts n sound.long);
          each = λ row value e.
              let m = made_at (cell it) 0 n row value e in
              let here : 0 + row ≡ row = omega arith in
              subst (CellStands kind b.validity (others kind b.values b.texts) row) (ap (cell it) (sym here) ∙ m.1) (cells row m.0).cell_stands;
        }

-- ---- and what is held is read

-- the buffers behind the validity that a column of a type has
pub record OthersAre (kind : DataType) (buffers : List (List ℕ)) : Type 0 where
  pub values : List ℕ
  pub texts : List ℕ
  pub are : buffers ≡ others kind values texts
  pub no_texts : (o : Option (List ℕ)) → (kind ≡ K.Text → o ≡ Some texts) → texts_of kind o ≡ Some texts

pub others_are : (kind : DataType) (count : ℕ) (buffers : List (List ℕ)) → AreLongEnough kind count buffers → OthersAre kind buffers
others_are K.Boolean count [] h = absurd h
others_are K.Boolean count (b ∷ []) h = record { values = b; texts = []; are = refl; no_texts = λ o f. refl }
others_are K.Boolean count (b ∷ c ∷ r) h = absurd h
others_are K.Integer count [] h = absurd h
others_are K.Integer count (b ∷ []) h = record { values = b; texts = []; are = refl; no_texts = λ o f. refl }
others_are K.Integer count (b ∷ c ∷ r) h = absurd h
others_are K.Long count [] h = absurd h
others_are K.Long count (b ∷ []) h = record { values = b; texts = []; are = refl; no_texts = λ o f. refl }
others_are K.Long count (b ∷ c ∷ r) h = absurd h
others_are K.Text count [] h = absurd h
others_are K.Text count (b ∷ []) h = absurd h
others_are K.Text count (b ∷ c ∷ []) h = record { values = b; texts = c; are = refl; no_texts = λ o f. f refl }
others_are K.Text count (b ∷ c ∷ d ∷ r) h = absurd h
others_are K.Date count [] h = absurd h
others_are K.Date count (b ∷ []) h = record { values = b; texts = []; are = refl; no_texts = λ o f. refl }
others_are K.Date count (b ∷ c ∷ r) h = absurd h

pub values_made : (t : TableView) (spans : Option VectorView) (body : List ℕ) (first : ℕ) (kind : DataType) (values texts : List ℕ) → vector_field t 2 16 ≡ Ok spans → BuffersAt t body (first + 1) (others kind values texts)
    → (buffer_at spans body (first + 1) ≡ Some values) × (kind ≡ K.Text → buffer_at spans body (first + 2) ≡ Some texts)
values_made t spans body first K.Boolean vs ts e h = (buffer_made t spans body (first + 1) vs e h.0, λ k. absurd (cc))
values_made t spans body first K.Integer vs ts e h = (buffer_made t spans body (first + 1) vs e h.0, λ k. absurd (cc))
values_made t spans body first K.Long vs ts e h = (buffer_made t spans body (first + 1) vs e h.0, λ k. absurd (cc))
values_made t spans body first K.Text vs ts e h =
    let there : first + 1 + 1 ≡ first + 2 = omega arith in
    (buffer_made t spans body (first + 1) vs e h.0, λ k. buffer_made t spans body (first + 2) ts e (subst (λ (n : ℕ). BufferAt t body n ts) there h.1.0))
values_made t spans body first K.Date vs ts e h = (buffer_made t spans body (first + 1) vs e h.0, λ k. absurd (cc))

-- a column that is read, with its values
pub record ColumnMade (batch : BatchTables) (body : List ℕ) (place first : ℕ) (kind : DataType) (values : List Value) : Type 0 where
  pub column : ColumnView
  pub read : column_in batch body place first kind ≡ Ok column
  pub values_are : values ≡ map (cell column) (range_with_len 0 batch.count)

pub column_made : (t : TableView) (batch : BatchTables) (body : List ℕ) (place first : ℕ) (kind : DataType) (values : List Value) → TablesAre t batch → batch.count ≡ length values → ColumnHolds t body place first kind values
    → ColumnMade batch body place first kind values
unfolding buffers_in
column_made t batch body place first kind values tables count h =
    let n : ℕ = length values in
    let o = others_are kind n h.buffers h.long_enough in
    let it : ColumnView = column_of kind h.validity o.values o.texts in
    let long : AreLongEnough kind n (others kind o.values o.texts) = subst (AreLongEnough kind n) o.are h.long_enough in
    let at : BuffersAt t body (first + 1) (others kind o.values o.texts) = subst (BuffersAt t body (first + 1)) o.are h.buffers_at in
    let stand : (row : ℕ) (value : Value) → slice_get values row ≡ Some value → CellStands kind h.validity (others kind o.values o.texts) row value
    = λ row value e. subst (λ (bs : List (List ℕ)). CellStands kind h.validity bs row value) o.are (h.each row value e) in
    let made = values_made t batch.spans body first kind o.values o.texts tables.spans_are at in
    let all : (row : ℕ) (value : Value) → slice_get values row ≡ Some value → Reads place it row value
    = λ row value e. reads kind h.validity o.values o.texts place n row value (slice_get_within values row value e) long (stand row value e) in
    let same : values ≡ map (cell it) (range_with_len 0 n) = made_of (cell it) 0 values (λ i x e. let here : 0 + i ≡ i = omega arith in ap (cell it) here ∙ (all i x e).cell_is) in
    let every : (row : ℕ) → row < n → (value : Value) × (slice_get values row ≡ Some value) = λ row l. (get_or values row V.Null, slice_get-get_or values row V.Null l) in
    let nulls : null_count values ≡ misses_below n (is_present h.validity)
    = ap null_count same ∙ nulls_are (cell it) (is_present h.validity) n (λ i l. let v = every i l in ap has_value (all i v.0 v.1).cell_is ∙ (all i v.0 v.1).has) in
    let node : pair_at batch.nodes place ≡ Some (record { first = pos n; second = pos (null_count values) }) = pair_made (vector_field t 1 16) batch.nodes place n (null_count values) tables.nodes_are h.node in
    let nulls_read : nulls_of batch.count (pair_at batch.nodes place) ≡ Some (pos (null_count values)) = rw (node, count) (node_read n (null_count values)) in
    record {
      column = it;
      read = is_column batch body place first kind it (record {
        nulls = pos (null_count values);
        nulls_are = nulls_read;
        buffers_are = rw (buffer_made t batch.spans body first h.validity tables.spans_are h.validity_at, made.0, o.no_texts (buffer_at batch.spans body (first + 2)) made.1) refl;
        sound = rw count (parts_sound n (pos (null_count values)) kind h.validity o.values o.texts (record { validity_long = h.validity_long; long = is_long kind h.validity o.values o.texts n long; nulls_are = ap pos nulls }));
        no_fault = rw count (no_fault_from n (row_fault place it) (λ i l. let v = every i l in (all i v.0 v.1).sound));
      });
      values_are = rw count same;
    }
  where
    node_read : (m k : ℕ) → nulls_of m (Some (record { first = pos m; second = pos k })) ≡ Some (pos k)
    node_read m k = rw (same_number m) refl
