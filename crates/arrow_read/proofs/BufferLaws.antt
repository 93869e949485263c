-- Pairs, buffers, bits, numbers and texts are read exactly where they stand.
use Rattle.std.proofs.Common.{◌≡◌, ℕ, suc, ◌+◌, ◌-◌, ◌*◌, ◌/◌, ◌%◌, ◌<◌, ◌≤◌, inl, inr, Bool, true, false, cond, eqb, ltb, leb, ◌&&◌, ◌||◌, List, [], ◌∷◌, length, take, drop, Option, None, Some, Result, Ok, Err, arith, refl, ap, ◌∙◌, subst, sym, length-take, length-drop}
use Rattle.std.specs.Prelude.{ℤ, pos, unwrap_or, is_some, slice_index}
use Rattle.std.specs.Result.{result_ok}
use Rattle.std.specs.Int.{w32, w64, bit_at, from_le_bytes, cast_signed}
use Rattle.std.proofs.lemmas.Bool.{ltb-true, leb-true, eqb-true, lt-ltb, le-leb, ne_eqb, and_parts, or_right, false_from_ne_true}
use Rattle.std.proofs.lemmas.Option.{same_Some}
use Rattle.flat_tables.specs.declared.fault.FlatFault.{FlatFault}
use Rattle.flat_tables.specs.Views.{TableView, VectorView}
use Rattle.flat_tables.specs.declared.fault.FlatFault.TheVariants.{OutOfRange}
use Rattle.flat_tables.specs.Reading.{◌>>=◌, i32_at, i64_at, item_bytes, vector_field}
use Rattle.arrow_ipc.specs.Holds.{PairIs, BufferAt, IsBitOf, IsPresent, TextStands, OffsetsBegin, OffsetsRise, OffsetsStand}
use Rattle.arrow_read.specs.declared.pair.Pair.{Pair}
use Rattle.arrow_read.specs.Tables.{not_negative}
use Rattle.arrow_read.specs.Columns.{pair_in, pair_at, span_of, buffer_at, bit_in, is_present, number_4, number_8, text_between, text_at, has_4s, has_8s, is_text_place, all_below, first_offset, has_offsets}
use Rattle.arrow_read.proofs.Chains.{same_Ok, ok_of, not_negative_is, is_not_negative}
use Rattle.arrow_read.proofs.Steps.{bind_some, only_if}
use Rattle.arrow_read.proofs.Below.{all_below_at, all_below_from}

-- ---- pairs

pub record InPair (v : VectorView) (place : ℕ) (pair : Pair) : Type 0 where
  pub within : place < v.count
  pub first_is : i64_at (item_bytes v place) 0 ≡ Ok pair.first
  pub second_is : i64_at (item_bytes v place) 8 ≡ Ok pair.second

pub in_pair : (v : VectorView) (place : ℕ) (pair : Pair) → pair_in v place ≡ Some pair → InPair v place pair
unfolding pair_in
in_pair v place pair h =
    let t = only_if (ltb place v.count) _ pair h in
    let (a, ea, k1) = bind_some (result_ok (i64_at (item_bytes v place) 0)) _ pair t.1 in
    let (b, eb, k2) = bind_some (result_ok (i64_at (item_bytes v place) 8)) _ pair k1 in
    let same : record { first = a; second = b } ≡ pair = same_Some (record { first = a; second = b }) pair k2 in
    subst (InPair v place) same (record {
      within = ltb-true place v.count t.0;
      first_is = ok_of (i64_at (item_bytes v place) 0) a ea;
      second_is = ok_of (i64_at (item_bytes v place) 8) b eb;
    })

pub pair_read : (r : Result (Option VectorView) FlatFault) (o : Option VectorView) (place : ℕ) (pair : Pair) (a b : ℕ) → r ≡ Ok o → pair_at o place ≡ Some pair → pair.first ≡ pos a → pair.second ≡ pos b → PairIs r place a b
pair_read r None place pair a b e h ea eb = absurd (cc)
pair_read r (Some v) place pair a b e h ea eb =
    let p = in_pair v place pair h in
    (v, e, p.within, p.first_is ∙ ap (λ z. Ok z) ea, p.second_is ∙ ap (λ z. Ok z) eb)

pub one_vector : (r : Result (Option VectorView) FlatFault) (o : Option VectorView) (v : VectorView) → r ≡ Ok o → r ≡ Ok (Some v) → o ≡ Some v
one_vector r o v e f = same_Ok o (Some v) (sym e ∙ f)

pub pair_made : (r : Result (Option VectorView) FlatFault) (o : Option VectorView) (place a b : ℕ) → r ≡ Ok o → PairIs r place a b → pair_at o place ≡ Some (record { first = pos a; second = pos b })
unfolding pair_in
pair_made r o place a b e p =
    let same : o ≡ Some p.0 = one_vector r o p.0 e p.1 in
    rw (same, lt-ltb place p.0.count p.2, p.3, p.4) refl

-- ---- buffers

pub record InBody (body : List ℕ) (span : Pair) (bytes : List ℕ) : Type 0 where
  pub offset : ℕ
  pub first_is : span.first ≡ pos offset
  pub second_is : span.second ≡ pos (length bytes)
  pub bytes_are : take (length bytes) (drop offset body) ≡ bytes
  pub within : offset + length bytes ≤ length body

in_body : (body : List ℕ) (span : Pair) (bytes : List ℕ) → span_of body span ≡ Some bytes → InBody body span bytes
unfolding span_of
in_body body span bytes h =
    let (offset, eo, k1) = bind_some (not_negative span.first) _ bytes h in
    let (size, es, k2) = bind_some (not_negative span.second) _ bytes k1 in
    let t = only_if (leb (offset + size) (length body)) _ bytes k2 in
    let same : take size (drop offset body) ≡ bytes = same_Some (take size (drop offset body)) bytes t.1 in
    let w : offset + size ≤ length body = leb-true (offset + size) (length body) t.0 in
    let taken : length (take size (drop offset body)) ≡ size = omega (arith, length-take size (drop offset body), length-drop offset body) in
    let long : length bytes ≡ size = ap length (sym same) ∙ taken in
    record {
      offset = offset;
      first_is = not_negative_is span.first offset eo;
      second_is = not_negative_is span.second size es ∙ ap pos (sym long);
      bytes_are = ap (λ (n : ℕ). take n (drop offset body)) long ∙ same;
      within = subst (λ (n : ℕ). offset + n ≤ length body) (sym long) w;
    }

pub buffer_read : (t : TableView) (spans : Option VectorView) (body : List ℕ) (number : ℕ) (bytes : List ℕ) → vector_field t 2 16 ≡ Ok spans → buffer_at spans body number ≡ Some bytes → BufferAt t body number bytes
unfolding buffer_at
buffer_read t spans body number bytes e h =
    let (span, es, k) = bind_some (pair_at spans number) _ bytes h in
    let b = in_body body span bytes k in
    record {
      offset = b.offset;
      span = pair_read (vector_field t 2 16) spans number span b.offset (length bytes) e es b.first_is b.second_is;
      bytes = b.bytes_are;
      within = b.within;
    }

pub buffer_made : (t : TableView) (spans : Option VectorView) (body : List ℕ) (number : ℕ) (bytes : List ℕ) → vector_field t 2 16 ≡ Ok spans → BufferAt t body number bytes → buffer_at spans body number ≡ Some bytes
unfolding buffer_at span_of
buffer_made t spans body number bytes e b =
    rw (pair_made (vector_field t 2 16) spans number b.offset (length bytes) e b.span)
    (rw (is_not_negative b.offset, is_not_negative (length bytes), le-leb (b.offset + length bytes) (length body) b.within) (ap (λ z. Some z) b.bytes))

-- ---- bits

pub bit_is : (bits : List ℕ) (row : ℕ) → bit_in bits row ≡ true → IsBitOf bits row
bit_is bits row h = eqb-true (bit_at (slice_index bits (row / 8)) (row % 8)) 1 h

pub is_bit : (bits : List ℕ) (row : ℕ) → IsBitOf bits row → bit_in bits row ≡ true
is_bit bits row h = rw h refl

pub present_is : (validity : List ℕ) (row : ℕ) → is_present validity row ≡ true → IsPresent validity row
present_is [] row h = inl refl
present_is (byte ∷ bytes) row h = inr (bit_is (byte ∷ bytes) row (ap (λ (b : Bool). b || bit_in (byte ∷ bytes) row) (sym (ne_eqb (suc (length bytes)) 0 (λ e. omega arith))) ∙ h))

pub is_present_of : (validity : List ℕ) (row : ℕ) → IsPresent validity row → is_present validity row ≡ true
is_present_of validity row (inl e) = rw e refl
is_present_of [] row (inr b) = refl
is_present_of (byte ∷ bytes) row (inr b) = ap (λ (t : Bool). t || bit_in (byte ∷ bytes) row) (ne_eqb (suc (length bytes)) 0 (λ e. omega arith)) ∙ is_bit (byte ∷ bytes) row b

pub absent_is : (validity : List ℕ) (row : ℕ) → is_present validity row ≡ false → ¬ (IsPresent validity row)
absent_is validity row h p = let yes = is_present_of validity row p in absurd (cc)

pub is_absent_of : (validity : List ℕ) (row : ℕ) → ¬ (IsPresent validity row) → is_present validity row ≡ false
is_absent_of validity row h = false_from_ne_true (is_present validity row) (λ e. h (present_is validity row e))

-- ---- numbers

pub i32_inside : (b : List ℕ) (at : ℕ) → at + 4 ≤ length b → (z : ℤ) × (i32_at b at ≡ Ok z)
unfolding i32_at
i32_inside b at h =
    let t : leb (at + 4) (length b) ≡ true = le-leb (at + 4) (length b) h in (cast_signed w32 (from_le_bytes w32 (take 4 (drop at b))), rw t refl)

pub i64_inside : (b : List ℕ) (at : ℕ) → at + 8 ≤ length b → (z : ℤ) × (i64_at b at ≡ Ok z)
unfolding i64_at
i64_inside b at h =
    let t : leb (at + 8) (length b) ≡ true = le-leb (at + 8) (length b) h in (cast_signed w64 (from_le_bytes w64 (take 8 (drop at b))), rw t refl)

pub integer_there : (numbers : List ℕ) (count row : ℕ) → has_4s count numbers ≡ true → row < count → i32_at numbers (4 * row) ≡ Ok (unwrap_or (number_4 numbers row) (pos 0))
integer_there numbers count row h l =
    let long : 4 * count ≤ length numbers = leb-true (4 * count) (length numbers) h in
    let z = i32_inside numbers (4 * row) (omega arith) in
    z.1 ∙ ap (λ (r : Result ℤ FlatFault). let s : Result ℤ FlatFault = Ok (unwrap_or (result_ok r) (pos 0)) in s) (sym z.1)

pub long_there : (numbers : List ℕ) (count row : ℕ) → has_8s count numbers ≡ true → row < count → i64_at numbers (8 * row) ≡ Ok (unwrap_or (number_8 numbers row) (pos 0))
long_there numbers count row h l =
    let long : 8 * count ≤ length numbers = leb-true (8 * count) (length numbers) h in
    let z = i64_inside numbers (8 * row) (omega arith) in
    z.1 ∙ ap (λ (r : Result ℤ FlatFault). let s : Result ℤ FlatFault = Ok (unwrap_or (result_ok r) (pos 0)) in s) (sym z.1)

-- ---- texts

pub text_stands : (offsets texts : List ℕ) (row : ℕ) (text : List ℕ) → text_at offsets texts row ≡ Some text → TextStands offsets texts row text × ((to : ℕ) × (i32_at offsets (4 * (row + 1)) ≡ Ok (pos to)) × (to ≤ length texts))
unfolding text_at text_between
text_stands offsets texts row text h =
    let (first, ef, k1) = bind_some (number_4 offsets row) _ text h in
    let (second, es, k2) = bind_some (number_4 offsets (row + 1)) _ text k1 in
    let (from, ea, k3) = bind_some (not_negative first) _ text k2 in
    let (to, eb, k4) = bind_some (not_negative second) _ text k3 in
    let t = only_if (leb from to && leb to (length texts)) _ text k4 in
    let b = and_parts (leb from to) (leb to (length texts)) t.0 in
    let from_is : i32_at offsets (4 * row) ≡ Ok (pos from) = ok_of (i32_at offsets (4 * row)) first ef ∙ ap (λ z. Ok z) (not_negative_is first from ea) in
    let to_is : i32_at offsets (4 * (row + 1)) ≡ Ok (pos to) = ok_of (i32_at offsets (4 * (row + 1))) second es ∙ ap (λ z. Ok z) (not_negative_is second to eb) in (
      record {
        from = from;
        to = to;
        from_is = from_is;
        to_is = to_is;
        rises = leb-true from to b.0;
        bytes = same_Some (take (to - from) (drop from texts)) text t.1;
      },
      (to, to_is, leb-true to (length texts) b.1),
    )

pub text_made : (offsets texts : List ℕ) (row from to : ℕ) → i32_at offsets (4 * row) ≡ Ok (pos from) → i32_at offsets (4 * (row + 1)) ≡ Ok (pos to) → from ≤ to → to ≤ length texts
    → text_at offsets texts row ≡ Some (take (to - from) (drop from texts))
unfolding text_at text_between
text_made offsets texts row from to ef et l w =
    rw (ef, et) (rw (is_not_negative from, is_not_negative to, le-leb from to l, le-leb to (length texts) w) refl)

-- one of the two offsets of a text
one_offset : (r : Result ℤ FlatFault) (a b : ℕ) → r ≡ Ok (pos a) → r ≡ Ok (pos b) → a ≡ b
one_offset r a b e f = cc

-- where there is a row, the offsets of all rows rise
rise_of : (count row : ℕ) (offsets texts : List ℕ) → row < count → OffsetsStand count offsets texts → OffsetsRise count offsets texts
rise_of count row offsets texts l (inl h) = absurd (omega (arith, h.0))
rise_of count row offsets texts l (inr h) = h.1

-- a text that stands behind rising offsets
pub text_read : (offsets texts : List ℕ) (count row : ℕ) (text : List ℕ) → row < count → OffsetsStand count offsets texts → TextStands offsets texts row text → text_at offsets texts row ≡ Some text
text_read offsets texts count row text l stand s =
    let o = rise_of count row offsets texts l stand row l in
    let same : o.1 ≡ s.to = one_offset (i32_at offsets (4 * (row + 1))) o.1 s.to o.3 s.to_is in
    let within : s.to ≤ length texts = subst (λ (n : ℕ). n ≤ length texts) same o.5 in
    text_made offsets texts row s.from s.to s.from_is s.to_is s.rises within ∙ ap (λ z. Some z) s.bytes

offsets_rise : (count : ℕ) (offsets texts : List ℕ) → all_below count (is_text_place offsets texts) ≡ true → OffsetsRise count offsets texts
offsets_rise count offsets texts h row l = by_text (text_at offsets texts row) refl (all_below_at count (is_text_place offsets texts) h row l)
  where
    by_text : (o : Option (List ℕ)) → text_at offsets texts row ≡ o → is_some o ≡ true
        → (from : ℕ) × (to : ℕ) × (i32_at offsets (4 * row) ≡ Ok (pos from)) × (i32_at offsets (4 * (row + 1)) ≡ Ok (pos to)) × (from ≤ to) × (to ≤ length texts)
    by_text (Some text) e k =
        let s = text_stands offsets texts row text e in
        let same : s.1.0 ≡ s.0.to = one_offset (i32_at offsets (4 * (row + 1))) s.1.0 s.0.to s.1.1 s.0.to_is in
        (s.0.from, s.0.to, s.0.from_is, s.0.to_is, s.0.rises, subst (λ (n : ℕ). n ≤ length texts) same s.1.2)
    by_text None e k = absurd (cc)

rising_offsets : (count : ℕ) (offsets texts : List ℕ) → OffsetsRise count offsets texts → all_below count (is_text_place offsets texts) ≡ true
rising_offsets count offsets texts h =
    all_below_from count (is_text_place offsets texts) (λ row l. let o = h row l in ap is_some (text_made offsets texts row o.0 o.1 o.2 o.3 o.4 o.5))

-- the first offset
offsets_begin : (offsets texts : List ℕ) (from : ℕ) → first_offset offsets texts ≡ Some from → OffsetsBegin offsets texts
unfolding first_offset
offsets_begin offsets texts from h =
    let (number, en, k1) = bind_some (number_4 offsets 0) _ from h in
    let (found, ef, k2) = bind_some (not_negative number) _ from k1 in
    let t = only_if (leb found (length texts)) _ from k2 in
    (found, ok_of (i32_at offsets 0) number en ∙ ap (λ z. Ok z) (not_negative_is number found ef), leb-true found (length texts) t.0)

begun_offsets : (offsets texts : List ℕ) → OffsetsBegin offsets texts → is_some (first_offset offsets texts) ≡ true
unfolding first_offset
begun_offsets offsets texts h = rw h.1 (rw (is_not_negative h.0, le-leb h.0 (length texts) h.2) refl)

some_of : {A : Type 0} → (o : Option A) → is_some o ≡ true → (x : A) × (o ≡ Some x)
some_of (Some x) h = (x, refl)
some_of None h = absurd (cc)

no_byte : (bytes : List ℕ) → eqb (length bytes) 0 ≡ true → bytes ≡ []
no_byte [] h = refl
no_byte (byte ∷ bytes) h = let zero_is : suc (length bytes) ≡ 0 = eqb-true (suc (length bytes)) 0 h in absurd (omega arith)

-- all offsets
pub offsets_stand : (count : ℕ) (offsets texts : List ℕ) → has_offsets count offsets texts ≡ true → OffsetsStand count offsets texts
unfolding has_offsets
offsets_stand count offsets texts h = by_test (eqb count 0 && eqb (length offsets) 0) refl h
  where
    more : Bool
    more = is_some (first_offset offsets texts) && all_below count (is_text_place offsets texts)

    by_test : (b : Bool) → (eqb count 0 && eqb (length offsets) 0) ≡ b → (b || more) ≡ true → OffsetsStand count offsets texts
    by_test true e k = let p = and_parts (eqb count 0) (eqb (length offsets) 0) e in inl (eqb-true count 0 p.0, no_byte offsets p.1)
    by_test false e k =
        let p = and_parts (is_some (first_offset offsets texts)) (all_below count (is_text_place offsets texts)) k in
        let first = some_of (first_offset offsets texts) p.0 in
        inr (offsets_begin offsets texts first.0 first.1, offsets_rise count offsets texts p.1)

pub standing_offsets : (count : ℕ) (offsets texts : List ℕ) → OffsetsStand count offsets texts → has_offsets count offsets texts ≡ true
unfolding has_offsets
standing_offsets count offsets texts (inl h) = rw (h.0, h.1) refl
standing_offsets count offsets texts (inr h) =
    or_right (eqb count 0 && eqb (length offsets) 0) (is_some (first_offset offsets texts) && all_below count (is_text_place offsets texts))
    (rw (begun_offsets offsets texts h.0, rising_offsets count offsets texts h.1) refl)

-- a row has a text
pub text_place : (count row : ℕ) (offsets texts : List ℕ) → row < count → has_offsets count offsets texts ≡ true → is_text_place offsets texts row ≡ true
text_place count row offsets texts l h = all_below_at count (is_text_place offsets texts) (rising_offsets count offsets texts (rise_of count row offsets texts l (offsets_stand count offsets texts h))) row l

pub within_of : (b : List ℕ) (at : ℕ) (z : ℤ) → i32_at b at ≡ Ok z → at + 4 ≤ length b
unfolding i32_at
within_of b at z h = by_test (leb (at + 4) (length b)) refl h
  where
    by_test : (t : Bool) → leb (at + 4) (length b) ≡ t → (cond t (Ok (take 4 (drop at b))) (Err (OutOfRange at)) >>= λ bytes. Ok (cast_signed w32 (from_le_bytes w32 bytes))) ≡ Ok z → at + 4 ≤ length b
    by_test true e k = leb-true (at + 4) (length b) e
    by_test false e k = absurd (cc)
