-- A column's fault is the first one in the order of the format's tests.
use Rattle.std.proofs.Common.{◌≡◌, ℕ, zero, suc, ◌+◌, ◌<◌, ◌⊎◌, inl, inr, Bool, true, false, cond, List, [], ◌∷◌, Option, None, Some, Result, Ok, Err, arith, refl, ap, ◌∙◌, subst, sym}
use Rattle.std.specs.Prelude.{ℤ, pos, unwrap_or, is_some, IsUtf8}
use Rattle.std.proofs.lemmas.Bool.{both_ways, lt-ltb}
use Rattle.std.proofs.lemmas.Option.{same_Some}
use Rattle.cn_types.specs.Fit.{IsDay}
use Rattle.cn_types.specs.declared.value.DataType.{DataType}
use Rattle.cn_types.specs.declared.value.DataType.TheVariants as K
use Rattle.cn_types.specs.declared.schema.Field.{Field}
use Rattle.flat_tables.specs.Views.{TableView, VectorView}
use Rattle.flat_tables.specs.Reading.{vector_field}
use Rattle.arrow_ipc.specs.Holds.{BuffersAt, AreLongEnough, buffer_count}
use Rattle.arrow_read.specs.declared.fault.ArrowFault.{ArrowFault}
use Rattle.arrow_read.specs.declared.fault.ArrowFault.TheVariants.{BadLength, BadBuffer, NotUtf8, BadDate}
use Rattle.arrow_read.specs.declared.pair.Pair.{Pair}
use Rattle.arrow_read.specs.declared.batch.BatchTables.{BatchTables}
use Rattle.arrow_read.specs.Tables.{utf8}
use Rattle.arrow_read.specs.Columns.{ColumnView, pair_in, pair_at, is_present, number_4, text_at, utf8_at, buffers_in, is_long_enough, nulls_of, is_sound, is_day, text_fault, date_fault, row_fault, later, first_fault}
use Rattle.arrow_read.specs.Reading.{◌>>=◌, or_fault, if_sound, if_values, column_in, columns_in}
use Rattle.arrow_read.specs.ColumnFaults.{NodeSays, BuffersSay, CellFaulty, ColumnFaulty, ColumnsFaulty, ColumnFaultsAreFirst}
use Rattle.arrow_read.specs.ColumnFaults.{bad_length, bad_buffer, bad_row}
use Rattle.arrow_read.proofs.Chains.{fault_ok}
use Rattle.arrow_read.proofs.Steps.{only_if}
use Rattle.arrow_read.proofs.Below.{no_fault_at, no_fault_from, fault_at}
use Rattle.arrow_read.proofs.Texts.{is_utf8-false, is_utf8_text}
use Rattle.arrow_read.proofs.BufferLaws.{in_pair, one_vector, buffer_read, buffer_made, present_is, is_present_of, integer_there, text_stands, text_read, text_place}
use Rattle.arrow_read.proofs.ColumnLaws.{others, column_of, day_is, is_day_of}
use Rattle.arrow_read.proofs.RowLaws.{batch_is}
use Rattle.arrow_read.proofs.ColumnsHold.{TablesAre, sound_is, NodeIs, node_is, buffers_are, others_at, others_are, values_made, long_enough, is_long, sound_parts, same_number, parts_sound}

pub bind_err : {A B : Type 0} → (r : Result A ArrowFault) (f : A → Result B ArrowFault) (e : ArrowFault) → (r >>= f) ≡ Err e → (r ≡ Err e) ⊎ ((x : A) × (r ≡ Ok x) × (f x ≡ Err e))
bind_err (Ok x) f e h = inr (x, refl, h)
bind_err {A} (Err d) f e h = inl (let same : d ≡ e = cc in ap (λ (z : ArrowFault). let r : Result A ArrowFault = Err z in r) same)

pub fault_err : {A : Type 0} → (e : ArrowFault) (o : Option A) (f : ArrowFault) → or_fault e o ≡ Err f → (o ≡ None) × (e ≡ f)
fault_err e None f h = let same : e ≡ f = cc in (refl, same)
fault_err e (Some x) f h = absurd (cc)

-- ---- the node

node_says : (t : TableView) (batch : BatchTables) (place count : ℕ) (nulls : ℤ) → TablesAre t batch → nulls_of count (pair_at batch.nodes place) ≡ Some nulls → NodeSays t place count nulls
node_says t batch place count nulls tables h = let n = node_is count (pair_at batch.nodes place) nulls h in of batch.nodes tables.nodes_are n.0 n.1 n.2
  where
    of : (o : Option VectorView) → vector_field t 1 16 ≡ Ok o → (node : Pair) → pair_at o place ≡ Some node → NodeIs count node nulls → NodeSays t place count nulls
    of None e node p n = absurd (cc)
    of (Some v) e node p n =
        let i = in_pair v place node p in
        record { vector = v; vector_is = e; within = i.within; length_is = i.first_is ∙ ap (λ z. Ok z) n.count_is; nulls_is = i.second_is ∙ ap (λ z. Ok z) n.nulls_are }

said_node : (t : TableView) (batch : BatchTables) (place count : ℕ) (nulls : ℤ) → TablesAre t batch → NodeSays t place count nulls → nulls_of count (pair_at batch.nodes place) ≡ Some nulls
unfolding pair_in
said_node t batch place count nulls tables n =
    let same : batch.nodes ≡ Some n.vector = one_vector (vector_field t 1 16) batch.nodes n.vector tables.nodes_are n.vector_is in
    rw (same, lt-ltb place n.vector.count n.within, n.length_is, n.nulls_is) (rw (same_number count) refl)

-- ---- the buffers

-- a column whose buffers are sound
pub record Sound (t : TableView) (batch : BatchTables) (body : List ℕ) (count first : ℕ) (kind : DataType) (nulls : ℤ) (column : ColumnView) : Type 0 where
  pub validity : List ℕ
  pub values : List ℕ
  pub texts : List ℕ
  pub say : BuffersSay t body count first kind nulls validity (others kind values texts)
  pub long : is_long_enough count (column_of kind validity values texts) ≡ true
  pub column_is : column_of kind validity values texts ≡ column

buffers_say : (t : TableView) (batch : BatchTables) (body : List ℕ) (count first : ℕ) (kind : DataType) (nulls : ℤ) (column : ColumnView) → TablesAre t batch → buffers_in batch body first kind ≡ Some column → is_sound count nulls column ≡ true
    → Sound t batch body count first kind nulls column
buffers_say t batch body count first kind nulls column tables h s =
    let b = buffers_are batch body first kind column h in
    let p = sound_parts count nulls kind b.validity b.values b.texts (subst (λ (c : ColumnView). is_sound count nulls c ≡ true) (sym b.column_is) s) in
    record {
      validity = b.validity;
      values = b.values;
      texts = b.texts;
      say = record {
        validity_at = buffer_read t batch.spans body first b.validity tables.spans_are b.validity_at;
        buffers_at = others_at t batch.spans body first kind b.values b.texts tables.spans_are b.values_at b.texts_at;
        validity_long = p.validity_long;
        long_enough = long_enough kind b.validity b.values b.texts count p.long;
        nulls_are = p.nulls_are;
      };
      long = p.long;
      column_is = b.column_is;
    }

-- a column that is read of sound buffers
pub record Said (batch : BatchTables) (body : List ℕ) (count first : ℕ) (kind : DataType) (nulls : ℤ) (validity : List ℕ) (buffers : List (List ℕ)) : Type 0 where
  pub values : List ℕ
  pub texts : List ℕ
  pub others_are : buffers ≡ others kind values texts
  pub read : buffers_in batch body first kind ≡ Some (column_of kind validity values texts)
  pub sound : is_sound count nulls (column_of kind validity values texts) ≡ true
  pub long : is_long_enough count (column_of kind validity values texts) ≡ true
  pub enough : AreLongEnough kind count (others kind values texts)

said_buffers : (t : TableView) (batch : BatchTables) (body : List ℕ) (count first : ℕ) (kind : DataType) (nulls : ℤ) (validity : List ℕ) (buffers : List (List ℕ)) → TablesAre t batch → BuffersSay t body count first kind nulls validity buffers
    → Said batch body count first kind nulls validity buffers
unfolding buffers_in
said_buffers t batch body count first kind nulls validity buffers tables b =
    let o = others_are kind count buffers b.long_enough in
    let enough : AreLongEnough kind count (others kind o.values o.texts) = subst (AreLongEnough kind count) o.are b.long_enough in
    let made = values_made t batch.spans body first kind o.values o.texts tables.spans_are (subst (BuffersAt t body (first + 1)) o.are b.buffers_at) in
    let long : is_long_enough count (column_of kind validity o.values o.texts) ≡ true = is_long kind validity o.values o.texts count enough in
    record {
      values = o.values;
      texts = o.texts;
      others_are = o.are;
      read = rw (buffer_made t batch.spans body first validity tables.spans_are b.validity_at, made.0, o.no_texts _ made.1) refl;
      sound = parts_sound count nulls kind validity o.values o.texts (record { validity_long = b.validity_long; long = long; nulls_are = b.nulls_are });
      long = long;
      enough = enough;
    }

-- ---- rows

none_is_some : {A : Type 0} → (o : Option A) (x : A) → o ≡ None → o ≡ Some x → ⊥
none_is_some o x e f = cc

no_text : (place row : ℕ) (o : Option (List ℕ)) (f : ArrowFault) → text_fault place row o ≡ Some f → (o ≡ None) × (f ≡ NotUtf8 place row)
no_text place row None f h = let same : NotUtf8 place row ≡ f = cc in (refl, sym same)
no_text place row (Some text) f h = absurd (cc)

no_day : (place row : ℕ) (z : ℤ) (f : ArrowFault) → date_fault place row z ≡ Some f → (¬ IsDay z) × (f ≡ BadDate place row)
no_day place row z f h = by_test (is_day z) refl h
  where
    by_test : (b : Bool) → is_day z ≡ b → cond b None (Some (BadDate place row)) ≡ Some f → (¬ IsDay z) × (f ≡ BadDate place row)
    by_test true e k = absurd (cc)
    by_test false e k = let same : BadDate place row ≡ f = cc in (λ d. absurd (let g = is_day_of z d in cc), sym same)

day_fault : (place row : ℕ) (z : ℤ) → ¬ IsDay z → (is_day z ≡ true → IsDay z) → date_fault place row z ≡ Some (BadDate place row)
day_fault place row z n of = by_test (is_day z) refl
  where
    by_test : (b : Bool) → is_day z ≡ b → cond b None (Some (BadDate place row)) ≡ Some (BadDate place row)
    by_test true e = absurd (n (of e))
    by_test false e = refl

not_utf8_is : (text : List ℕ) → utf8 text ≡ None → ¬ IsUtf8 text
not_utf8_is text h u = none_is_some (utf8 text) text h (is_utf8_text text u)

utf8_none : (text : List ℕ) → ¬ IsUtf8 text → utf8 text ≡ None
unfolding utf8
utf8_none text n = rw (is_utf8-false text n) refl

text_no_utf8 : (offsets texts : List ℕ) (row : ℕ) (text : List ℕ) → text_at offsets texts row ≡ Some text → utf8_at offsets texts row ≡ None → utf8 text ≡ None
unfolding utf8_at
text_no_utf8 offsets texts row text e h = sym (rw e refl) ∙ h

no_utf8_text : (offsets texts : List ℕ) (row : ℕ) (text : List ℕ) → text_at offsets texts row ≡ Some text → utf8 text ≡ None → utf8_at offsets texts row ≡ None
unfolding utf8_at
no_utf8_text offsets texts row text e h = rw (e, h) refl

some_text : (o : Option (List ℕ)) → is_some o ≡ true → (text : List ℕ) × (o ≡ Some text)
some_text (Some text) h = (text, refl)
some_text None h = absurd (cc)

cell_faulty : (kind : DataType) (validity values texts : List ℕ) (place count row : ℕ) (f : ArrowFault) → row < count → is_long_enough count (column_of kind validity values texts) ≡ true
    → row_fault place (column_of kind validity values texts) row ≡ Some f → CellFaulty kind validity (others kind values texts) place row f
unfolding row_fault is_long_enough
cell_faulty K.Boolean va vs ts place count row f l long h = let p = only_if (is_present va row) None f h in absurd (cc)
cell_faulty K.Integer va vs ts place count row f l long h = let p = only_if (is_present va row) None f h in absurd (cc)
cell_faulty K.Long va vs ts place count row f l long h = let p = only_if (is_present va row) None f h in absurd (cc)
cell_faulty K.Text va vs ts place count row f l long h =
    let p = only_if (is_present va row) (text_fault place row (utf8_at vs ts row)) f h in
    let n = no_text place row (utf8_at vs ts row) f p.1 in
    let text = some_text (text_at vs ts row) (text_place count row vs ts l long) in
    let s = text_stands vs ts row text.0 text.1 in
    (present_is va row p.0, (text.0, s.0, not_utf8_is text.0 (text_no_utf8 vs ts row text.0 text.1 n.0), n.1))
cell_faulty K.Date va vs ts place count row f l long h =
    let days : ℤ = unwrap_or (number_4 vs row) (pos 0) in
    let p = only_if (is_present va row) (date_fault place row days) f h in
    let n = no_day place row days f p.1 in
    (present_is va row p.0, (days, integer_there vs count row long l, n.0, n.1))

faulty_cell : (kind : DataType) (validity values texts : List ℕ) (place count row : ℕ) (f : ArrowFault) → row < count → AreLongEnough kind count (others kind values texts) → CellFaulty kind validity (others kind values texts) place row f
    → row_fault place (column_of kind validity values texts) row ≡ Some f
unfolding row_fault
faulty_cell K.Boolean va vs ts place count row f l long h = absurd h.1
faulty_cell K.Integer va vs ts place count row f l long h = absurd h.1
faulty_cell K.Long va vs ts place count row f l long h = absurd h.1
faulty_cell K.Text va vs ts place count row f l long h =
    let p : is_present va row ≡ true = is_present_of va row h.0 in
    let none : utf8_at vs ts row ≡ None = no_utf8_text vs ts row h.1.0 (text_read vs ts count row h.1.0 l long h.1.1) (utf8_none h.1.0 h.1.2) in
    rw (p, none) (ap (λ z. Some z) (sym h.1.3))
faulty_cell K.Date va vs ts place count row f l long h =
    let p : is_present va row ≡ true = is_present_of va row h.0 in
    let fault : date_fault place row h.1.0 ≡ Some (BadDate place row) = day_fault place row h.1.0 h.1.2 (day_is h.1.0) in
    rw (p, h.1.1) (fault ∙ ap (λ z. Some z) (sym h.1.3))

-- the first row with a fault
pub record FirstAt (count : ℕ) (faults : ℕ → Option ArrowFault) (f : ArrowFault) : Type 0 where
  pub row : ℕ
  pub within : row < count
  pub at : faults row ≡ Some f
  pub before : (i : ℕ) → i < row → faults i ≡ None

first_at : (count : ℕ) (faults : ℕ → Option ArrowFault) (f : ArrowFault) → first_fault count faults ≡ Some f → FirstAt count faults f
first_at zero faults f h = absurd (cc)
first_at (suc n) faults f h = by_before (first_fault n faults) refl h (λ e. first_at n faults f e)
  where
    by_before : (o : Option ArrowFault) → first_fault n faults ≡ o → later o (faults n) ≡ Some f → (first_fault n faults ≡ Some f → FirstAt n faults f) → FirstAt (suc n) faults f
    by_before (Some x) e k rest = let r = rest (e ∙ k) in record { row = r.row; within = omega (arith, r.within); at = r.at; before = r.before }
    by_before None e k rest = record { row = n; within = omega arith; at = k; before = no_fault_at n faults e }

-- ---- a column

sound_err : (count : ℕ) (nulls : ℤ) (place : ℕ) (column : ColumnView) (f : ArrowFault) → if_sound count nulls place column ≡ Err f → (is_sound count nulls column ≡ false) × (BadBuffer place ≡ f)
sound_err count nulls place column f h = by_test (is_sound count nulls column) refl h
  where
    by_test : (b : Bool) → is_sound count nulls column ≡ b → cond b (Ok column) (Err (BadBuffer place)) ≡ Err f → (is_sound count nulls column ≡ false) × (BadBuffer place ≡ f)
    by_test true e k = absurd (cc)
    by_test false e k = let same : BadBuffer place ≡ f = cc in (e, same)

values_err : (column : ColumnView) (o : Option ArrowFault) (f : ArrowFault) → if_values column o ≡ Err f → o ≡ Some f
values_err column None f h = absurd (cc)
values_err column (Some g) f h = let same : g ≡ f = cc in ap (λ z. Some z) same

-- buffers that aren't sound, whatever they are
no_buffers : (t : TableView) (batch : BatchTables) (body : List ℕ) (count first : ℕ) (kind : DataType) (nulls : ℤ) (o : Option ColumnView) → TablesAre t batch → buffers_in batch body first kind ≡ o
    → ((column : ColumnView) → o ≡ Some column → is_sound count nulls column ≡ true → ⊥) → (validity : List ℕ) (buffers : List (List ℕ)) → ¬ BuffersSay t body count first kind nulls validity buffers
no_buffers t batch body count first kind nulls o tables e n validity buffers b =
    let s = said_buffers t batch body count first kind nulls validity buffers tables b in
    n (column_of kind validity s.values s.texts) (sym e ∙ s.read) s.sound

row_faulty : (t : TableView) (batch : BatchTables) (body : List ℕ) (place first : ℕ) (kind : DataType) (nulls : ℤ) (column : ColumnView) (f : ArrowFault) → TablesAre t batch → nulls_of batch.count (pair_at batch.nodes place) ≡ Some nulls
    → buffers_in batch body first kind ≡ Some column → is_sound batch.count nulls column ≡ true → first_fault batch.count (row_fault place column) ≡ Some f → ColumnFaulty t body batch.count place first kind f
row_faulty t batch body place first kind nulls column f tables n b s h =
    let it = buffers_say t batch body batch.count first kind nulls column tables b s in
    let faults : first_fault batch.count (row_fault place (column_of kind it.validity it.values it.texts)) ≡ Some f = subst (λ (c : ColumnView). first_fault batch.count (row_fault place c) ≡ Some f) (sym it.column_is) h in
    let r = first_at batch.count (row_fault place (column_of kind it.validity it.values it.texts)) f faults in
    bad_row nulls it.validity (others kind it.values it.texts) r.row f (node_says t batch place batch.count nulls tables n) it.say r.within
    (λ i g l c. let below : i < batch.count = omega (arith, r.within) in none_is_some (row_fault place (column_of kind it.validity it.values it.texts) i) g (r.before i l) (faulty_cell kind it.validity it.values it.texts place batch.count i g below it.say.long_enough c))
    (cell_faulty kind it.validity it.values it.texts place batch.count r.row f r.within it.long r.at)

faulty : (t : TableView) (batch : BatchTables) (body : List ℕ) (place first : ℕ) (kind : DataType) (f : ArrowFault) → TablesAre t batch → column_in batch body place first kind ≡ Err f → ColumnFaulty t body batch.count place first kind f
unfolding column_in
faulty t batch body place first kind f tables h =
    elim (bind_err (or_fault (BadLength place) (nulls_of batch.count (pair_at batch.nodes place))) _ f h) [
      | inl e ↦
          let g = fault_err (BadLength place) (nulls_of batch.count (pair_at batch.nodes place)) f e in
          subst (ColumnFaulty t body batch.count place first kind) g.1
          (bad_length (λ nulls n. none_is_some (nulls_of batch.count (pair_at batch.nodes place)) nulls g.0 (said_node t batch place batch.count nulls tables n)))
      | inr more ↦
          let (nulls, en, h1) = more in
          let n : nulls_of batch.count (pair_at batch.nodes place) ≡ Some nulls = fault_ok (BadLength place) (nulls_of batch.count (pair_at batch.nodes place)) nulls en in
          let says : NodeSays t place batch.count nulls = node_says t batch place batch.count nulls tables n in
          elim (bind_err (or_fault (BadBuffer place) (buffers_in batch body first kind)) _ f h1) [
            | inl e ↦
                let g = fault_err (BadBuffer place) (buffers_in batch body first kind) f e in
                subst (ColumnFaulty t body batch.count place first kind) g.1
                (bad_buffer nulls says (no_buffers t batch body batch.count first kind nulls (buffers_in batch body first kind) tables refl (λ column k s. none_is_some (buffers_in batch body first kind) column g.0 k)))
            | inr more1 ↦
                let (column, eb, h2) = more1 in
                let b : buffers_in batch body first kind ≡ Some column = fault_ok (BadBuffer place) (buffers_in batch body first kind) column eb in
                elim (bind_err (if_sound batch.count nulls place column) _ f h2) [
                  | inl e ↦
                      let g = sound_err batch.count nulls place column f e in
                      subst (ColumnFaulty t body batch.count place first kind) g.1
                      (bad_buffer nulls says (no_buffers t batch body batch.count first kind nulls (Some column) tables b
                      (λ other k s. both_ways (is_sound batch.count nulls column) g.0 (subst (λ (c : ColumnView). is_sound batch.count nulls c ≡ true) (sym (same_Some column other k)) s))))
                  | inr more2 ↦
                      let (found, es, h3) = more2 in
                      let s = sound_is batch.count nulls place column found es in
                      let v : first_fault batch.count (row_fault place found) ≡ Some f = values_err found (first_fault batch.count (row_fault place found)) f h3 in
                      row_faulty t batch body place first kind nulls column f tables n b s.1 (subst (λ (c : ColumnView). first_fault batch.count (row_fault place c) ≡ Some f) (sym s.0) v)
                ]
          ]
    ]

-- ---- and the other way

no_node : (t : TableView) (batch : BatchTables) (place count : ℕ) → TablesAre t batch → ((nulls : ℤ) → ¬ NodeSays t place count nulls) → nulls_of count (pair_at batch.nodes place) ≡ None
no_node t batch place count tables n = by_nulls (nulls_of count (pair_at batch.nodes place)) refl
  where
    by_nulls : (o : Option ℤ) → nulls_of count (pair_at batch.nodes place) ≡ o → nulls_of count (pair_at batch.nodes place) ≡ None
    by_nulls None e = e
    by_nulls (Some nulls) e = absurd (n nulls (node_says t batch place count nulls tables e))

length_read : (batch : BatchTables) (body : List ℕ) (place first : ℕ) (kind : DataType) → nulls_of batch.count (pair_at batch.nodes place) ≡ None → column_in batch body place first kind ≡ Err (BadLength place)
unfolding column_in
length_read batch body place first kind e = rw e refl

buffer_missing : (batch : BatchTables) (body : List ℕ) (place first : ℕ) (kind : DataType) (nulls : ℤ) → nulls_of batch.count (pair_at batch.nodes place) ≡ Some nulls → buffers_in batch body first kind ≡ None
    → column_in batch body place first kind ≡ Err (BadBuffer place)
unfolding column_in
buffer_missing batch body place first kind nulls n b = rw (n, b) refl

buffer_unsound : (batch : BatchTables) (body : List ℕ) (place first : ℕ) (kind : DataType) (nulls : ℤ) (column : ColumnView) → nulls_of batch.count (pair_at batch.nodes place) ≡ Some nulls → buffers_in batch body first kind ≡ Some column
    → is_sound batch.count nulls column ≡ false → column_in batch body place first kind ≡ Err (BadBuffer place)
unfolding column_in
buffer_unsound batch body place first kind nulls column n b s = rw (n, b) (rw s refl)

row_read : (batch : BatchTables) (body : List ℕ) (place first : ℕ) (kind : DataType) (nulls : ℤ) (column : ColumnView) (f : ArrowFault) → nulls_of batch.count (pair_at batch.nodes place) ≡ Some nulls → buffers_in batch body first kind ≡ Some column
    → is_sound batch.count nulls column ≡ true → first_fault batch.count (row_fault place column) ≡ Some f → column_in batch body place first kind ≡ Err f
unfolding column_in
row_read batch body place first kind nulls column f n b s h = rw (n, b) (rw s (rw h refl))

faulty_read : (t : TableView) (batch : BatchTables) (body : List ℕ) (place first : ℕ) (kind : DataType) {f : ArrowFault} → TablesAre t batch → ColumnFaulty t body batch.count place first kind f → column_in batch body place first kind ≡ Err f
faulty_read t batch body place first kind tables (bad_length n) = length_read batch body place first kind (no_node t batch place batch.count tables n)
faulty_read t batch body place first kind tables (bad_buffer nulls says n) = by_buffers (buffers_in batch body first kind) refl
  where
    node : nulls_of batch.count (pair_at batch.nodes place) ≡ Some nulls
    node = said_node t batch place batch.count nulls tables says

    by_sound : (column : ColumnView) → buffers_in batch body first kind ≡ Some column → (b : Bool) → is_sound batch.count nulls column ≡ b → column_in batch body place first kind ≡ Err (BadBuffer place)
    by_sound column e true s = absurd (let it = buffers_say t batch body batch.count first kind nulls column tables e s in n it.validity (others kind it.values it.texts) it.say)
    by_sound column e false s = buffer_unsound batch body place first kind nulls column node e s

    by_buffers : (o : Option ColumnView) → buffers_in batch body first kind ≡ o → column_in batch body place first kind ≡ Err (BadBuffer place)
    by_buffers None e = buffer_missing batch body place first kind nulls node e
    by_buffers (Some column) e = by_sound column e (is_sound batch.count nulls column) refl
faulty_read t batch body place first kind tables (bad_row nulls validity buffers row f says say l before cell) =
    let s = said_buffers t batch body batch.count first kind nulls validity buffers tables say in
    let it : ColumnView = column_of kind validity s.values s.texts in
    let here : CellFaulty kind validity (others kind s.values s.texts) place row f = subst (λ (bs : List (List ℕ)). CellFaulty kind validity bs place row f) s.others_are cell in
    let none : first_fault row (row_fault place it) ≡ None = no_fault_from row (row_fault place it) (λ i k. no_row s.values s.texts i (row_fault place it i) refl
    (λ g e. let below : i < batch.count = omega arith in before i g k (subst (λ (bs : List (List ℕ)). CellFaulty kind validity bs place i g) (sym s.others_are) (cell_faulty kind validity s.values s.texts place batch.count i g below s.long e)))) in
    row_read batch body place first kind nulls it f (said_node t batch place batch.count nulls tables says) s.read s.sound
    (fault_at batch.count (row_fault place it) row f l none (faulty_cell kind validity s.values s.texts place batch.count row f l s.enough here))
  where
    no_row : (vs ts : List ℕ) (i : ℕ) (o : Option ArrowFault) → row_fault place (column_of kind validity vs ts) i ≡ o → ((g : ArrowFault) → row_fault place (column_of kind validity vs ts) i ≡ Some g → ⊥) → row_fault place (column_of kind validity vs ts) i ≡ None
    no_row vs ts i None e n = e
    no_row vs ts i (Some g) e n = absurd (n g e)

-- ---- all columns

ok_is_err : {A : Type 0} → (r : Result A ArrowFault) (x : A) (f : ArrowFault) → r ≡ Ok x → r ≡ Err f → ⊥
ok_is_err r x f e g = cc

pub columns_faulty : (t : TableView) (batch : BatchTables) (body : List ℕ) (place first : ℕ) (fields : List Field) (f : ArrowFault) → TablesAre t batch → columns_in batch body place first fields ≡ Err f
    → ColumnsFaulty t body batch.count place first fields f
columns_faulty t batch body place first [] f tables h = absurd (cc)
columns_faulty t batch body place first (field ∷ fields) f tables h =
    elim (bind_err (column_in batch body place first field.kind) _ f h) [
      | inl e ↦ inl (faulty t batch body place first field.kind f tables e)
      | inr more ↦
          let (column, ec, h1) = more in
          elim (bind_err (columns_in batch body (place + 1) (first + 1 + buffer_count field.kind) fields) _ f h1) [
            | inl e ↦ inr (
              (λ other g. ok_is_err (column_in batch body place first field.kind) column other ec (faulty_read t batch body place first field.kind tables g)),
              columns_faulty t batch body (place + 1) (first + 1 + buffer_count field.kind) fields f tables e,
            )
            | inr rest ↦ let (columns, ea, h2) = rest in absurd (cc)
          ]
    ]

pub columns_fault : (t : TableView) (batch : BatchTables) (body : List ℕ) (place first : ℕ) (fields : List Field) (f : ArrowFault) → TablesAre t batch → ColumnsFaulty t body batch.count place first fields f
    → columns_in batch body place first fields ≡ Err f
columns_fault t batch body place first [] f tables h = absurd h
columns_fault t batch body place first (field ∷ fields) f tables (inl h) = rw (faulty_read t batch body place first field.kind tables h) refl
columns_fault t batch body place first (field ∷ fields) f tables (inr h) =
    by_column (column_in batch body place first field.kind) refl (columns_fault t batch body (place + 1) (first + 1 + buffer_count field.kind) fields f tables h.1)
  where
    by_column : (r : Result ColumnView ArrowFault) → column_in batch body place first field.kind ≡ r → columns_in batch body (place + 1) (first + 1 + buffer_count field.kind) fields ≡ Err f → columns_in batch body place first (field ∷ fields) ≡ Err f
    by_column (Err g) e k = absurd (h.0 g (faulty t batch body place first field.kind g tables e))
    by_column (Ok column) e k = rw (e, k) refl

pub column_faults_are_first : ColumnFaultsAreFirst
column_faults_are_first header batch body fields f h =
    let b = batch_is header batch h in
    (columns_faulty header batch body 0 0 fields f b.tables, columns_fault header batch body 0 0 fields f b.tables)
