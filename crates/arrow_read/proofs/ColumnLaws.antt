-- A column is read exactly where its buffers hold it.
use Rattle.std.proofs.Common.{◌≡◌, ℕ, ◌<◌, ◌≤◌, Bool, true, false, cond, ◌&&◌, List, [], ◌∷◌, Option, None, Some, arith, refl, ap, ◌∙◌, subst, sym}
use Rattle.std.specs.Prelude.{ℤ, pos, negsuc, unwrap_or, IsUtf8, ◌≤ℤ◌, int_le, if◌then◌else◌}
use Rattle.std.specs.Cmp.{both_ways}
use Rattle.std.proofs.lemmas.Bool.{leb-true, le-leb, and_parts}
use Rattle.std.proofs.lemmas.Int.{ints}
use Rattle.cn_types.specs.Fit.{IsDay}
use Rattle.cn_types.specs.declared.value.Value.{Value}
use Rattle.cn_types.specs.declared.value.Value.TheVariants as V
use Rattle.cn_types.specs.declared.value.DataType.{DataType}
use Rattle.cn_types.specs.declared.value.DataType.TheVariants as K
use Rattle.arrow_ipc.specs.Columns.{has_value}
use Rattle.arrow_ipc.specs.Holds.{IsPresent, TextStands, CellStands, OffsetsStand, AreLongEnough}
use Rattle.arrow_read.specs.declared.fault.ArrowFault.TheVariants.{BadDate}
use Rattle.arrow_read.specs.Tables.{utf8}
use Rattle.arrow_read.specs.Columns.{ColumnView, bit_in, is_present, number_4, text_at, utf8_at, text_value, value_in, cell, is_long_enough, is_day, text_fault, date_fault, row_fault}
use Rattle.arrow_read.proofs.Steps.{bind_some}
use Rattle.arrow_read.proofs.Texts.{utf8_is, is_utf8_text}
use Rattle.arrow_read.proofs.BufferLaws.{bit_is, is_bit, present_is, is_present_of, absent_is, is_absent_of, integer_there, long_there, text_stands, text_read}

-- ---- the buffers behind the validity, and the column of all

abbrev pub others : DataType → List ℕ → List ℕ → List (List ℕ)
others K.Boolean values texts = values ∷ []
others K.Integer values texts = values ∷ []
others K.Long values texts = values ∷ []
others K.Text values texts = values ∷ texts ∷ []
others K.Date values texts = values ∷ []

abbrev pub column_of : DataType → List ℕ → List ℕ → List ℕ → ColumnView
column_of kind validity values texts = record { kind = kind; validity = validity; values = values; texts = texts }

-- ---- days

pub day_is : (z : ℤ) → is_day z ≡ true → IsDay z
day_is (pos n) h = let t = and_parts (int_le (negsuc 719161) (pos n)) (int_le (pos n) (pos 2932896)) h in (omega (arith, ints), below (leb-true n 2932896 t.1))
  where
    below : n ≤ 2932896 → pos n ≤ℤ pos 2932896
    below l = omega (arith, ints)
day_is (negsuc n) h = let t = and_parts (int_le (negsuc 719161) (negsuc n)) (int_le (negsuc n) (pos 2932896)) h in (above (leb-true n 719161 t.0), omega (arith, ints))
  where
    above : n ≤ 719161 → negsuc 719161 ≤ℤ negsuc n
    above l = omega (arith, ints)

pub is_day_of : (z : ℤ) → IsDay z → is_day z ≡ true
is_day_of (pos n) h = let l : n ≤ 2932896 = omega (arith, ints, h.1) in ap (λ (b : Bool). true && b) (le-leb n 2932896 l)
is_day_of (negsuc n) h = let l : n ≤ 719161 = omega (arith, ints, h.0) in ap (λ (b : Bool). b && true) (le-leb n 719161 l)

-- ---- one cell that is read

-- what stands at a row that is present, of a column without a fault there
pub record Stands (kind : DataType) (validity values texts : List ℕ) (row : ℕ) (value : Value) : Type 0 where
  pub cell_stands : CellStands kind validity (others kind values texts) row value
  pub has : has_value value ≡ true

text_there : (place row : ℕ) (o : Option (List ℕ)) → text_fault place row o ≡ None → (text : List ℕ) × (o ≡ Some text)
text_there place row (Some text) h = (text, refl)
text_there place row None h = absurd (cc)

day_there : (place row : ℕ) (z : ℤ) → date_fault place row z ≡ None → is_day z ≡ true
day_there place row z h = by_test (is_day z) refl h
  where
    by_test : (b : Bool) → is_day z ≡ b → cond b None (Some (BadDate place row)) ≡ None → is_day z ≡ true
    by_test true e k = e
    by_test false e k = absurd (cc)

utf8_there : (offsets texts : List ℕ) (row : ℕ) (text : List ℕ) → utf8_at offsets texts row ≡ Some text → (text_at offsets texts row ≡ Some text) × IsUtf8 text
unfolding utf8_at
utf8_there offsets texts row text h =
    let (bytes, e, k) = bind_some (text_at offsets texts row) utf8 text h in
    let u = utf8_is bytes text k in
    (e ∙ ap (λ z. Some z) u.0, u.1)

stands : (kind : DataType) (validity values texts : List ℕ) (place count row : ℕ) → row < count → is_long_enough count (column_of kind validity values texts) ≡ true → is_present validity row ≡ true
    → row_fault place (column_of kind validity values texts) row ≡ None → Stands kind validity values texts row (value_in (column_of kind validity values texts) row)
unfolding value_in is_long_enough row_fault
stands K.Boolean va vs ts place count row l long p f = record { cell_stands = (present_is va row p, (bit_is vs row, is_bit vs row)); has = refl }
stands K.Integer va vs ts place count row l long p f = record { cell_stands = (present_is va row p, integer_there vs count row long l); has = refl }
stands K.Long va vs ts place count row l long p f = record { cell_stands = (present_is va row p, long_there vs count row long l); has = refl }
stands K.Text va vs ts place count row l long p f =
    let fault : text_fault place row (utf8_at vs ts row) ≡ None = ap (λ (b : Bool). if b then text_fault place row (utf8_at vs ts row) else None) (sym p) ∙ f in
    let text = text_there place row (utf8_at vs ts row) fault in
    let u = utf8_there vs ts row text.0 text.1 in
    let s = text_stands vs ts row text.0 u.0 in
    subst (λ (o : Option (List ℕ)). Stands K.Text va vs ts row (text_value o)) (sym text.1) (record { cell_stands = (present_is va row p, (s.0, u.1)); has = refl })
stands K.Date va vs ts place count row l long p f =
    let days : ℤ = unwrap_or (number_4 vs row) (pos 0) in
    let fault : date_fault place row days ≡ None = ap (λ (b : Bool). if b then date_fault place row days else None) (sym p) ∙ f in
    record { cell_stands = (present_is va row p, (integer_there vs count row long l, day_is days (day_there place row days fault))); has = refl }

-- a cell stands, and it has a value where it is present
pub record CellIs (kind : DataType) (validity values texts : List ℕ) (row : ℕ) (value : Value) : Type 0 where
  pub cell_stands : CellStands kind validity (others kind values texts) row value
  pub has : has_value value ≡ is_present validity row

pub cell_is : (kind : DataType) (validity values texts : List ℕ) (place count row : ℕ) → row < count → is_long_enough count (column_of kind validity values texts) ≡ true → row_fault place (column_of kind validity values texts) row ≡ None
    → CellIs kind validity values texts row (cell (column_of kind validity values texts) row)
unfolding cell
cell_is kind va vs ts place count row l long f = by_test (is_present va row) refl
  where
    by_test : (b : Bool) → is_present va row ≡ b → CellIs kind va vs ts row (if b then value_in (column_of kind va vs ts) row else V.Null)
    by_test true e = let s = stands kind va vs ts place count row l long e f in record { cell_stands = s.cell_stands; has = s.has ∙ sym e }
    by_test false e = record { cell_stands = null_stands kind (others kind vs ts) (absent_is va row e); has = sym e }
      where
        null_stands : (k : DataType) (buffers : List (List ℕ)) → ¬ (IsPresent va row) → CellStands k va buffers row V.Null
        null_stands K.Boolean buffers n = n
        null_stands K.Integer buffers n = n
        null_stands K.Long buffers n = n
        null_stands K.Text buffers n = n
        null_stands K.Date buffers n = n

-- ---- one cell that stands

pub record Reads (place : ℕ) (column : ColumnView) (row : ℕ) (value : Value) : Type 0 where
  pub cell_is : cell column row ≡ value
  pub has : has_value value ≡ is_present column.validity row
  pub sound : row_fault place column row ≡ None

-- of a cell that is present
reads_value : (place : ℕ) (column : ColumnView) (row : ℕ) (value : Value) → is_present column.validity row ≡ true → value_in column row ≡ value → has_value value ≡ true → row_fault place column row ≡ None → Reads place column row value
unfolding cell
reads_value place column row value p v h f = record { cell_is = rw p v; has = h ∙ sym p; sound = f }

-- of one that isn't
reads_null : (place : ℕ) (column : ColumnView) (row : ℕ) → ¬ (IsPresent column.validity row) → Reads place column row V.Null
unfolding cell row_fault
reads_null place column row n =
    let absent : is_present column.validity row ≡ false = is_absent_of column.validity row n in
    record { cell_is = rw absent refl; has = sym absent; sound = rw absent refl }

text_of_stands : (offsets texts : List ℕ) (count row : ℕ) (text : List ℕ) → row < count → OffsetsStand count offsets texts → TextStands offsets texts row text → IsUtf8 text → utf8_at offsets texts row ≡ Some text
unfolding utf8_at
text_of_stands offsets texts count row text l rise s u = rw (text_read offsets texts count row text l rise s) (is_utf8_text text u)

pub reads : (kind : DataType) (validity values texts : List ℕ) (place count row : ℕ) (value : Value) → row < count → AreLongEnough kind count (others kind values texts) → CellStands kind validity (others kind values texts) row value
    → Reads place (column_of kind validity values texts) row value
unfolding value_in row_fault
reads K.Boolean va vs ts place count row V.Null l long h = reads_null place (column_of K.Boolean va vs ts) row h
reads K.Boolean va vs ts place count row (V.Boolean b) l long h =
    let p : is_present va row ≡ true = is_present_of va row h.0 in
    let same : bit_in vs row ≡ b = both_ways (bit_in vs row) b (λ t. h.1.1 (bit_is vs row t)) (λ t. is_bit vs row (h.1.0 t)) in
    reads_value place (column_of K.Boolean va vs ts) row (V.Boolean b) p (ap (λ z. V.Boolean z) same) refl (rw p refl)
reads K.Boolean va vs ts place count row (V.Integer z) l long h = absurd h.1
reads K.Boolean va vs ts place count row (V.Long z) l long h = absurd h.1
reads K.Boolean va vs ts place count row (V.Text t) l long h = absurd h.1
reads K.Boolean va vs ts place count row (V.Date z) l long h = absurd h.1
reads K.Integer va vs ts place count row V.Null l long h = reads_null place (column_of K.Integer va vs ts) row h
reads K.Integer va vs ts place count row (V.Boolean b) l long h = absurd h.1
reads K.Integer va vs ts place count row (V.Integer z) l long h =
    let p : is_present va row ≡ true = is_present_of va row h.0 in
    reads_value place (column_of K.Integer va vs ts) row (V.Integer z) p (rw h.1 refl) refl (rw p refl)
reads K.Integer va vs ts place count row (V.Long z) l long h = absurd h.1
reads K.Integer va vs ts place count row (V.Text t) l long h = absurd h.1
reads K.Integer va vs ts place count row (V.Date z) l long h = absurd h.1
reads K.Long va vs ts place count row V.Null l long h = reads_null place (column_of K.Long va vs ts) row h
reads K.Long va vs ts place count row (V.Boolean b) l long h = absurd h.1
reads K.Long va vs ts place count row (V.Integer z) l long h = absurd h.1
reads K.Long va vs ts place count row (V.Long z) l long h =
    let p : is_present va row ≡ true = is_present_of va row h.0 in
    reads_value place (column_of K.Long va vs ts) row (V.Long z) p (rw h.1 refl) refl (rw p refl)
reads K.Long va vs ts place count row (V.Text t) l long h = absurd h.1
reads K.Long va vs ts place count row (V.Date z) l long h = absurd h.1
reads K.Text va vs ts place count row V.Null l long h = reads_null place (column_of K.Text va vs ts) row h
reads K.Text va vs ts place count row (V.Boolean b) l long h = absurd h.1
reads K.Text va vs ts place count row (V.Integer z) l long h = absurd h.1
reads K.Text va vs ts place count row (V.Long z) l long h = absurd h.1
reads K.Text va vs ts place count row (V.Text t) l long h =
    let p : is_present va row ≡ true = is_present_of va row h.0 in
    let text : utf8_at vs ts row ≡ Some t = text_of_stands vs ts count row t l long h.1.0 h.1.1 in
    reads_value place (column_of K.Text va vs ts) row (V.Text t) p (rw text refl) refl (rw (p, text) refl)
reads K.Text va vs ts place count row (V.Date z) l long h = absurd h.1
reads K.Date va vs ts place count row V.Null l long h = reads_null place (column_of K.Date va vs ts) row h
reads K.Date va vs ts place count row (V.Boolean b) l long h = absurd h.1
reads K.Date va vs ts place count row (V.Integer z) l long h = absurd h.1
reads K.Date va vs ts place count row (V.Long z) l long h = absurd h.1
reads K.Date va vs ts place count row (V.Text t) l long h = absurd h.1
reads K.Date va vs ts place count row (V.Date z) l long h =
    let p : is_present va row ≡ true = is_present_of va row h.0 in
    reads_value place (column_of K.Date va vs ts) row (V.Date z) p (rw h.1.0 refl) refl (rw (p, h.1.0) (rw (is_day_of z h.1.1) refl))
