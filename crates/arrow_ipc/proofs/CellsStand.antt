-- The cells of a written column stand in its buffers.
use Rattle.std.proofs.Common.{◌≡◌, ℕ, zero, suc, ◌+◌, ◌-◌, ◌*◌, ◌/◌, ◌%◌, ◌^◌, ◌<◌, ◌≤◌, ◌⊎◌, Bool, true, false, not, eqb, List, [], ◌∷◌, ◌++◌, length, map, take, drop, get_or, Some, Ok, arith, refl, ap, ◌∙◌, sym, subst, inl, inr, ⊎_elim, length-append}
use Rattle.std.specs.Prelude.{ℤ, pos, slice_get, slice_index, IsTrue, ◌↔◌, FitsSigned, if◌then◌else◌}
use Rattle.std.specs.List.{flat_map}
use Rattle.std.specs.Int.{w32, w64, to_le_bytes, bit_at}
use Rattle.std.proofs.lemmas.List.{get_or-take, get_or-drop}
use Rattle.std.proofs.lemmas.List.FromFn.{get_or-map-range_with_len, length-map-range_with_len}
use Rattle.std.proofs.lemmas.List.Sums.{sum_by-cons}
use Rattle.std.proofs.lemmas.Nat.Bits.{bit_at-zero, bit_at_lowest, bit_at-suc}
use Rattle.std.proofs.lemmas.Bool.Decides.{nat_tests}
use Rattle.cn_types.specs.declared.value.Value.{Value}
use Rattle.cn_types.specs.declared.value.Value.TheVariants as V
use Rattle.flat_tables.specs.Reading.{i32_at, i64_at}
use Rattle.arrow_ipc.specs.Columns.{has_value, null_count, truth, bytes_of_4, bytes_of_8, text_of, text_size, number_of, bitmap, validity, offsets}
use Rattle.arrow_ipc.specs.Holds.{IsBitOf, IsPresent, TextStands, OffsetsBegin, OffsetsRise, OffsetsStand}
use Rattle.flat_tables.proofs.Standing.{Stands, first, second, taken, uniform, i32_there}
use Rattle.arrow_ipc.proofs.Standing.{whole, long_there, n32_there}

-- ---- bits

low : (b : Bool) (n : ℕ) → ((if b then 1 else 0) + 2 * n) % 2 ≡ (if b then 1 else 0)
low true n = omega arith
low false n = omega arith

half : (b : Bool) (n : ℕ) → ((if b then 1 else 0) + 2 * n) / 2 ≡ n
half true n = omega arith
half false n = omega arith

number_bit : (bits : List Bool) (i : ℕ) → bit_at (number_of bits) i ≡ (if get_or bits i false then 1 else 0)
number_bit [] i = bit_at-zero i
number_bit (b ∷ bs) zero = bit_at_lowest (number_of (b ∷ bs)) ∙ low b (number_of bs)
number_bit (b ∷ bs) (suc i) = bit_at-suc (number_of (b ∷ bs)) i ∙ ap (λ (n : ℕ). bit_at n i) (half b (number_of bs)) ∙ number_bit bs i

length-bitmap : (bits : List Bool) → length (bitmap bits) ≡ (length bits + 7) / 8
unfolding bitmap
length-bitmap bits = length-map-range_with_len (λ (k : ℕ). number_of (take 8 (drop (8 * k) bits))) 0 ((length bits + 7) / 8)

bitmap_bit : (bits : List Bool) (row : ℕ) → row < length bits → bit_at (slice_index (bitmap bits) (row / 8)) (row % 8) ≡ (if get_or bits row false then 1 else 0)
unfolding bitmap
bitmap_bit bits row h =
    let below : row / 8 < (length bits + 7) / 8 = omega arith in
    let small : row % 8 < 8 = omega arith in
    let there : 8 * (row / 8) + row % 8 ≡ row = omega arith in
    ap (λ (n : ℕ). bit_at n (row % 8)) (get_or-map-range_with_len (λ (k : ℕ). number_of (take 8 (drop (8 * k) bits))) 0 ((length bits + 7) / 8) (row / 8) (row / 8) 0 below (omega arith))
    ∙ number_bit (take 8 (drop (8 * (row / 8)) bits)) (row % 8)
    ∙ ap (λ (b : Bool). if b then 1 else 0) (get_or-take 8 (drop (8 * (row / 8)) bits) (row % 8) false small ∙ get_or-drop (8 * (row / 8)) bits (row % 8) false ∙ ap (λ (n : ℕ). get_or bits n false) there)

-- the bit of a cell
cell_bit : (f : Value → Bool) (values : List Value) (row : ℕ) (v : Value) → slice_get values row ≡ Some v → get_or (map f values) row false ≡ f v
cell_bit f [] row v e = absurd (cc)
cell_bit f (x ∷ xs) zero v e = let same : x ≡ v = cc in ap f same
cell_bit f (x ∷ xs) (suc row) v e = cell_bit f xs row v e

pub row_below : {X : Type 0} → (xs : List X) (row : ℕ) (v : X) → slice_get xs row ≡ Some v → row < length xs
row_below [] row v e = absurd (cc)
row_below (x ∷ xs) zero v e = omega arith
row_below (x ∷ xs) (suc row) v e = omega (arith, row_below xs row v e)

length-bits : (f : Value → Bool) (values : List Value) → length (map f values) ≡ length values
length-bits f [] = refl
length-bits f (v ∷ vs) = ap suc (length-bits f vs)

bits_bit : (f : Value → Bool) (values : List Value) (row : ℕ) (v : Value) → slice_get values row ≡ Some v → bit_at (slice_index (bitmap (map f values)) (row / 8)) (row % 8) ≡ (if f v then 1 else 0)
bits_bit f values row v e =
    let below : row < length (map f values) = omega (arith, row_below values row v e, length-bits f values) in
    bitmap_bit (map f values) row below ∙ ap (λ (b : Bool). if b then 1 else 0) (cell_bit f values row v e)

pub bits_long : (f : Value → Bool) (values : List Value) → length values ≤ 8 * length (bitmap (map f values))
bits_long f values = omega (arith, length-bitmap (map f values), length-bits f values)

-- the truth of a row's bit
pub truth_stands : (values : List Value) (row : ℕ) (b : Bool) → slice_get values row ≡ Some (V.Boolean b) → IsTrue b ↔ IsBitOf (bitmap (map truth values)) row
truth_stands values row true e = (λ h. bits_bit truth values row (V.Boolean true) e, λ h. refl)
truth_stands values row false e = (λ h. absurd (no_truth h), λ h. absurd (zero_is_one (bit_at (slice_index (bitmap (map truth values)) (row / 8)) (row % 8)) (bits_bit truth values row (V.Boolean false) e) h))
  where
    no_truth : IsTrue false → ⊥
    no_truth h = cc

    zero_is_one : (n : ℕ) → n ≡ 0 → n ≡ 1 → ⊥
    zero_is_one n a b = omega arith

-- ---- validity

pub present : (values : List Value) (row : ℕ) (v : Value) → slice_get values row ≡ Some v → has_value v ≡ true → IsPresent (validity values) row
unfolding validity
present values row v e h = either (eqb (null_count values) 0)
  where
    set : IsBitOf (bitmap (map has_value values)) row
    set = bits_bit has_value values row v e ∙ ap (λ (b : Bool). if b then 1 else 0) h

    either : (b : Bool) → IsPresent (if b then [] else bitmap (map has_value values)) row
    either true = inl refl
    either false = inr set

some_null : (values : List Value) (row : ℕ) → slice_get values row ≡ Some V.Null → 0 < null_count values
some_null [] row e = absurd (cc)
some_null (v ∷ vs) zero e = let same : v ≡ V.Null = cc in subst (λ (x : Value). 0 < null_count (x ∷ vs)) (sym same) (omega (arith, sum_by-cons (λ (x : Value). if not (has_value x) then 1 else 0) V.Null vs))
some_null (v ∷ vs) (suc row) e = omega (arith, some_null vs row e, sum_by-cons (λ (x : Value). if not (has_value x) then 1 else 0) v vs)

has_nulls : (n : ℕ) → 0 < n → eqb n 0 ≡ false
has_nulls n h = grind (arith, nat_tests)

pub missing : (values : List Value) (row : ℕ) → slice_get values row ≡ Some V.Null → IsPresent (validity values) row → ⊥
unfolding validity
missing values row e p = not_there (subst (λ (b : Bool). IsPresent (if b then [] else bitmap (map has_value values)) row) (has_nulls (null_count values) (some_null values row e)) p)
  where
    not_there : IsPresent (bitmap (map has_value values)) row → ⊥
    not_there = ⊎_elim
        (λ (none : bitmap (map has_value values) ≡ []). omega (arith, ap length none, bits_long has_value values, row_below values row V.Null e))
        (λ (set : IsBitOf (bitmap (map has_value values)) row). omega (arith, sym (bits_bit has_value values row V.Null e) ∙ set))

pub validity_long : (values : List Value) → (validity values ≡ []) ⊎ (length values ≤ 8 * length (validity values))
unfolding validity
validity_long values = either (eqb (null_count values) 0)
  where
    either : (b : Bool) → ((if b then [] else bitmap (map has_value values)) ≡ []) ⊎ (length values ≤ 8 * length (if b then [] else bitmap (map has_value values)))
    either true = inl refl
    either false = inr (bits_long has_value values)

-- ---- numbers

length-4 : (v : Value) → length (bytes_of_4 v) ≡ 4
length-4 V.Null = refl
length-4 (V.Boolean b) = refl
length-4 (V.Integer z) = refl
length-4 (V.Long z) = refl
length-4 (V.Text t) = refl
length-4 (V.Date z) = refl

length-8 : (v : Value) → length (bytes_of_8 v) ≡ 8
length-8 V.Null = refl
length-8 (V.Boolean b) = refl
length-8 (V.Integer z) = refl
length-8 (V.Long z) = refl
length-8 (V.Text t) = refl
length-8 (V.Date z) = refl

pub length-4s : (values : List Value) → 4 * length values ≤ length (flat_map bytes_of_4 values)
length-4s [] = omega arith
length-4s (v ∷ vs) = omega (arith, length-4s vs, length-4 v, length-append (bytes_of_4 v) (flat_map bytes_of_4 vs))

pub length-8s : (values : List Value) → 8 * length values ≤ length (flat_map bytes_of_8 values)
length-8s [] = omega arith
length-8s (v ∷ vs) = omega (arith, length-8s vs, length-8 v, length-append (bytes_of_8 v) (flat_map bytes_of_8 vs))

stands_4 : (values : List Value) (row : ℕ) (v : Value) → slice_get values row ≡ Some v → Stands (flat_map bytes_of_4 values) (4 * row) (bytes_of_4 v)
stands_4 values row v e =
    let at : 0 + row * 4 ≡ 4 * row = omega arith in
    subst (λ (n : ℕ). Stands (flat_map bytes_of_4 values) n (bytes_of_4 v)) at (uniform bytes_of_4 4 length-4 (flat_map bytes_of_4 values) 0 values row v (whole (flat_map bytes_of_4 values)) e)

stands_8 : (values : List Value) (row : ℕ) (v : Value) → slice_get values row ≡ Some v → Stands (flat_map bytes_of_8 values) (8 * row) (bytes_of_8 v)
stands_8 values row v e =
    let at : 0 + row * 8 ≡ 8 * row = omega arith in
    subst (λ (n : ℕ). Stands (flat_map bytes_of_8 values) n (bytes_of_8 v)) at (uniform bytes_of_8 8 length-8 (flat_map bytes_of_8 values) 0 values row v (whole (flat_map bytes_of_8 values)) e)

pub integer_stands : (values : List Value) (row : ℕ) (z : ℤ) → slice_get values row ≡ Some (V.Integer z) → FitsSigned w32 z → i32_at (flat_map bytes_of_4 values) (4 * row) ≡ Ok z
integer_stands values row z e h = i32_there (flat_map bytes_of_4 values) (4 * row) z h (stands_4 values row (V.Integer z) e)

pub date_stands : (values : List Value) (row : ℕ) (z : ℤ) → slice_get values row ≡ Some (V.Date z) → FitsSigned w32 z → i32_at (flat_map bytes_of_4 values) (4 * row) ≡ Ok z
date_stands values row z e h = i32_there (flat_map bytes_of_4 values) (4 * row) z h (stands_4 values row (V.Date z) e)

pub long_stands : (values : List Value) (row : ℕ) (z : ℤ) → slice_get values row ≡ Some (V.Long z) → FitsSigned w64 z → i64_at (flat_map bytes_of_8 values) (8 * row) ≡ Ok z
long_stands values row z e h = long_there (flat_map bytes_of_8 values) (8 * row) z h (stands_8 values row (V.Long z) e)

-- ---- texts

-- the bytes of the texts before a row
abbrev before : ℕ → List Value → ℕ
before zero vs = 0
before (suc row) [] = 0
before (suc row) (v ∷ vs) = text_size v + before row vs

before_le : (row : ℕ) (values : List Value) → before row values ≤ length (flat_map text_of values)
before_le zero values = omega arith
before_le (suc row) [] = omega arith
before_le (suc row) (v ∷ vs) = let h : text_size v + before row vs ≤ length (text_of v ++ flat_map text_of vs) = omega (arith, before_le row vs, length-append (text_of v) (flat_map text_of vs)) in h

before_next : (row : ℕ) (values : List Value) → before row values ≤ before (suc row) values
before_next zero [] = omega arith
before_next zero (v ∷ vs) = omega arith
before_next (suc row) [] = omega arith
before_next (suc row) (v ∷ vs) = let h : text_size v + before row vs ≤ text_size v + before (suc row) vs = omega (arith, before_next row vs) in h

offset_there : (at row : ℕ) (values : List Value) (b : List ℕ) (place : ℕ) → row ≤ length values → Stands b place (offsets at values) → Stands b (place + 4 * row) (to_le_bytes w32 (at + before row values))
offset_there at zero [] b place h s =
    let p : place ≡ place + 4 * 0 = omega arith in
    let n : at ≡ at + 0 = omega arith in
    subst (λ (k : ℕ). Stands b k (to_le_bytes w32 (at + 0))) p (subst (λ (k : ℕ). Stands b place (to_le_bytes w32 k)) n s)
offset_there at zero (v ∷ vs) b place h s =
    let p : place ≡ place + 4 * 0 = omega arith in
    let n : at ≡ at + 0 = omega arith in
    subst (λ (k : ℕ). Stands b k (to_le_bytes w32 (at + 0))) p (subst (λ (k : ℕ). Stands b place (to_le_bytes w32 k)) n (first b place (to_le_bytes w32 at) (offsets (at + text_size v) vs) s))
offset_there at (suc row) [] b place h s = absurd (omega arith)
offset_there at (suc row) (v ∷ vs) b place h s =
    let less : row ≤ length vs = omega arith in
    let next : Stands b (place + 4 + 4 * row) (to_le_bytes w32 ((at + text_size v) + before row vs)) = offset_there (at + text_size v) row vs b (place + 4) less (second b place (to_le_bytes w32 at) (offsets (at + text_size v) vs) s) in
    let p : place + 4 + 4 * row ≡ place + 4 * suc row = omega arith in
    let n : (at + text_size v) + before row vs ≡ at + (text_size v + before row vs) = omega arith in
    subst (λ (k : ℕ). Stands b k (to_le_bytes w32 (at + (text_size v + before row vs)))) p (subst (λ (k : ℕ). Stands b (place + 4 + 4 * row) (to_le_bytes w32 k)) n next)

text_there : (row : ℕ) (values : List Value) (v : Value) (b : List ℕ) (place : ℕ) → slice_get values row ≡ Some v → Stands b place (flat_map text_of values) → Stands b (place + before row values) (text_of v)
text_there row [] v b place e s = absurd (cc)
text_there zero (x ∷ xs) v b place e s =
    let same : x ≡ v = cc in
    let p : place ≡ place + 0 = omega arith in
    subst (λ (k : ℕ). Stands b k (text_of v)) p (subst (λ (y : Value). Stands b place (text_of y)) same (first b place (text_of x) (flat_map text_of xs) s))
text_there (suc row) (x ∷ xs) v b place e s =
    let p : place + text_size x + before row xs ≡ place + (text_size x + before row xs) = omega arith in
    subst (λ (k : ℕ). Stands b k (text_of v)) p (text_there row xs v b (place + text_size x) e (second b place (text_of x) (flat_map text_of xs) s))

before_same : (row : ℕ) (values : List Value) (v : Value) → slice_get values row ≡ Some v → before (suc row) values ≡ before row values + text_size v
before_same row [] v e = absurd (cc)
before_same zero (x ∷ xs) v e = let same : x ≡ v = cc in let h : text_size x + 0 ≡ 0 + text_size v = omega (arith, ap text_size same) in h
before_same (suc row) (x ∷ xs) v e = let h : text_size x + before (suc row) xs ≡ (text_size x + before row xs) + text_size v = omega (arith, before_same row xs v e) in h

offset_is : (values : List Value) (row : ℕ) → length (flat_map text_of values) < 2 ^ 31 → row ≤ length values → i32_at (offsets 0 values) (4 * row) ≡ Ok (pos (before row values))
offset_is values row small h =
    let fits : before row values < 2 ^ 31 = omega (arith, before_le row values) in
    let p : 0 + 4 * row ≡ 4 * row = omega arith in
    let n : 0 + before row values ≡ before row values = omega arith in
    n32_there (offsets 0 values) (4 * row) (before row values) fits
    (subst (λ (k : ℕ). Stands (offsets 0 values) k (to_le_bytes w32 (before row values))) p (subst (λ (k : ℕ). Stands (offsets 0 values) (0 + 4 * row) (to_le_bytes w32 k)) n (offset_there 0 row values (offsets 0 values) 0 h (whole (offsets 0 values)))))

offsets_rise : (values : List Value) → length (flat_map text_of values) < 2 ^ 31 → OffsetsRise (length values) (offsets 0 values) (flat_map text_of values)
offsets_rise values small row h =
    let here : row ≤ length values = omega arith in
    let there : row + 1 ≤ length values = omega arith in
    let next : row + 1 ≡ suc row = omega arith in (
      before row values,
      before (row + 1) values,
      offset_is values row small here,
      offset_is values (row + 1) small there,
      subst (λ (k : ℕ). before row values ≤ before k values) (sym next) (before_next row values),
      before_le (row + 1) values,
    )

offsets_begin : (values : List Value) → length (flat_map text_of values) < 2 ^ 31 → OffsetsBegin (offsets 0 values) (flat_map text_of values)
offsets_begin values small = (0, offset_is values 0 small (omega arith), omega arith)

pub offsets_stand : (values : List Value) → length (flat_map text_of values) < 2 ^ 31 → OffsetsStand (length values) (offsets 0 values) (flat_map text_of values)
offsets_stand values small = inr (offsets_begin values small, offsets_rise values small)

pub text_stands : (values : List Value) (row : ℕ) (text : List ℕ) → length (flat_map text_of values) < 2 ^ 31 → slice_get values row ≡ Some (V.Text text) → TextStands (offsets 0 values) (flat_map text_of values) row text
text_stands values row text small e =
    let here : row ≤ length values = omega (arith, row_below values row (V.Text text) e) in
    let there : row + 1 ≤ length values = omega (arith, row_below values row (V.Text text) e) in
    let next : row + 1 ≡ suc row = omega arith in
    let to : before (row + 1) values ≡ before row values + length text = ap (λ (k : ℕ). before k values) next ∙ before_same row values (V.Text text) e in
    let size : length text ≡ before (row + 1) values - before row values = omega arith in
    let p : 0 + before row values ≡ before row values = omega arith in
    record {
      from = before row values;
      to = before (row + 1) values;
      from_is = offset_is values row small here;
      to_is = offset_is values (row + 1) small there;
      rises = omega arith;
      bytes = taken (flat_map text_of values) (before row values) (before (row + 1) values - before row values) text size
          (subst (λ (k : ℕ). Stands (flat_map text_of values) k text) p (text_there row values (V.Text text) (flat_map text_of values) 0 e (whole (flat_map text_of values))));
    }
