-- The places of rows by their values.
use Rattle.std.proofs.Common.{◌≡◌, ◌<◌, ◌≤◌, ◌⊎◌, inl, inr, ℕ, zero, suc, ◌+◌, ◌-◌, Bool, true, false, cond, List, [], ◌∷◌, ◌++◌, map, length, take, drop, get_or, refl, sym, ap, ◌∙◌, subst, arith, ltb}
use Rattle.std.specs.Prelude.{filter, not, ◌&&◌, IsPermutation, unwrap_or, slice_get, min}
use Rattle.std.specs.declared.cmp.Ordering.{Ordering}
use Rattle.std.specs.declared.cmp.Ordering.TheVariants.{Less, Equal, Greater}
use Rattle.std.specs.Cmp.{IsStrictWeakOrder}
use Rattle.std.specs.List.Sorted.{IsSortedBy, IsStableBy, IsPartitionedBy, IsPartitionPoint, ties}
use Rattle.std.specs.Cmp.Lexicographic.{slice_cmp}
use Rattle.std.specs.Ordering.{is_lt, is_le, is_eq, ordering_index, ordering_reverse, ordering_then, nat_cmp}
use Rattle.std.proofs.lemmas.Bool.{cases_lt, false≢true}
use Rattle.std.proofs.lemmas.Bool.Decides.{nat_tests}
use Rattle.std.proofs.lemmas.List.{take-map, drop-map, map-append, take_more, at_drop_more, length-drop, length-map}
use Rattle.std.proofs.lemmas.List.Sorted.{ranks_by, searchable_from_sorted, IsPartitionedBy-ltb}
use Rattle.cn_types.specs.declared.row.Row.{Row}
use Rattle.cn_types.specs.declared.value.Value.{Value}
use Rattle.cn_types.specs.declared.value.Value.TheVariants.{Null}
use Rattle.cn_types.specs.Order.{value_cmp, row_cmp}
use Rattle.cn_types.proofs.OrderFacts.{rows_ordered, rows_exact}
use Rattle.relation_eval.specs.declared.buckets.Buckets.{Buckets}
use Rattle.relation_eval.specs.declared.buckets.Placed.{Placed}
use Rattle.relation_eval.specs.Grouped.{IsGrouped, key_before, key_of, row_of_placed, place_of, count_from, is_below, is_not_above, is_entry_of}
use Rattle.relation_eval.specs.Places.{Columns, has_key, places_from, places_of}
use Rattle.relation_eval.proofs.Windows.{window, first_passes, none_permuted, filter-alike}

-- one number more
count_from-add : (first n : ℕ) → count_from first (suc n) ≡ count_from first n ++ (first + n) ∷ []
count_from-add first zero = let e : first ≡ first + 0 = omega arith in ap (λ k. k ∷ []) e
count_from-add first (suc n) =
    let e : suc first + n ≡ first + suc n = omega arith in
    ap (λ (ks : List ℕ). first ∷ ks) (count_from-add (suc first) n ∙ ap (λ k. count_from (suc first) n ++ k ∷ []) e)

pub count_from_next : (n : ℕ) → count_from 0 (n + 1) ≡ count_from 0 n ++ n ∷ []
count_from_next n =
    let e : n + 1 ≡ suc n = omega arith in
    let z : 0 + n ≡ n = omega arith in
    ap (λ k. count_from 0 k) e ∙ count_from-add 0 n ∙ ap (λ k. count_from 0 n ++ k ∷ []) z

pub key_orders : (columns : Columns) → IsStrictWeakOrder (key_before columns)
key_orders columns = ranks_by rows_ordered (key_of columns)

-- ---- the entries of a key stand together

below-index : (o : Ordering) → is_lt o ≡ ltb (ordering_index o) 1
below-index Less = refl
below-index Equal = refl
below-index Greater = refl

not_above-index : (o : Ordering) → is_le o ≡ ltb (ordering_index o) 2
not_above-index Less = refl
not_above-index Equal = refl
not_above-index Greater = refl

module _ (columns : Columns) (key : Row) where
  order_to_key : Placed → Ordering
  order_to_key placed = row_cmp (key_of columns placed) key

  pub below_parted : (entries : List Placed) → IsSortedBy (key_before columns) entries → IsPartitionedBy (is_below columns key) entries
  below_parted entries up i j d ij jl h =
      below-index (row_cmp (key_of columns (get_or entries i d)) key)
      ∙ IsPartitionedBy-ltb (λ e. ordering_index (row_cmp (key_of columns e) key)) entries 1 (searchable_from_sorted rows_ordered (key_of columns) entries key up) i j d ij jl
      (sym (below-index (row_cmp (key_of columns (get_or entries j d)) key)) ∙ h)

  pub not_above_parted : (entries : List Placed) → IsSortedBy (key_before columns) entries → IsPartitionedBy (is_not_above columns key) entries
  not_above_parted entries up i j d ij jl h =
      not_above-index (row_cmp (key_of columns (get_or entries i d)) key)
      ∙ IsPartitionedBy-ltb (λ e. ordering_index (row_cmp (key_of columns e) key)) entries 2 (searchable_from_sorted rows_ordered (key_of columns) entries key up) i j d ij jl
      (sym (not_above-index (row_cmp (key_of columns (get_or entries j d)) key)) ∙ h)

lt_is_le : (o : Ordering) → is_lt o ≡ true → is_le o ≡ true
lt_is_le Less h = refl
lt_is_le Equal h = cc
lt_is_le Greater h = cc

low : (o : Ordering) → is_lt o ≡ true → is_eq (ordering_reverse o) ≡ false
low Less h = refl
low Equal h = cc
low Greater h = cc

mid : (o : Ordering) → is_lt o ≡ false → is_le o ≡ true → is_eq (ordering_reverse o) ≡ true
mid Less h k = cc
mid Equal h k = refl
mid Greater h k = cc

high : (o : Ordering) → is_le o ≡ false → is_eq (ordering_reverse o) ≡ false
high Less h = cc
high Equal h = cc
high Greater h = refl

module _ (columns : Columns) (key : Row) (entries : List Placed) (start end : ℕ)
    (start_within : start ≤ length entries) (end_within : end ≤ length entries)
    (below : IsPartitionPoint (λ e. is_below columns key e ≡ true) (λ e. is_below columns key e ≡ false) entries start)
    (above : IsPartitionPoint (λ e. is_not_above columns key e ≡ true) (λ e. is_not_above columns key e ≡ false) entries end) where
  reversed : (e : Placed) → is_entry_of columns key e ≡ is_eq (ordering_reverse (row_cmp (key_of columns e) key))
  reversed e = ap is_eq (rows_ordered.antisymm key (key_of columns e))

  crossed : (d : Placed) → end < start → ⊥
  crossed d h =
      let less = below.0 end d (omega arith) h in
      let more = above.1 end d (omega arith) (omega arith) in
      false≢true (sym more ∙ lt_is_le (row_cmp (key_of columns (get_or entries end d)) key) less)

  in_order : (es : List Placed) → entries ≡ es → start ≤ end
  in_order [] same = omega (arith, ap length same)
  in_order (e ∷ es) same = elim (cases_lt end start) [ inl h ↦ absurd (crossed e h) | inr h ↦ h ]

  pub start_end : start ≤ end
  start_end = in_order entries refl

  pub entries_together : filter (is_entry_of columns key) entries ≡ take (end - start) (drop start entries)
  entries_together =
      let ordered : start ≤ end = start_end in
      let sum : start + (end - start) ≡ end = omega arith in
      window (is_entry_of columns key) entries start (end - start) (omega arith)
      (λ k d l h. reversed (get_or entries k d) ∙ low (row_cmp (key_of columns (get_or entries k d)) key) (below.0 k d l h))
      (λ k d l h. reversed (get_or entries k d) ∙ mid (row_cmp (key_of columns (get_or entries k d)) key) (below.1 k d l (omega arith)) (above.0 k d (omega arith) (omega arith)))
      (λ k d l h. reversed (get_or entries k d) ∙ high (row_cmp (key_of columns (get_or entries k d)) key) (above.1 k d (omega arith) h))

-- the places between are those of the key
pub same_places : (b : Buckets) (key : Row) (start end : ℕ) → IsGrouped b → start ≤ length b.entries.items → end ≤ length b.entries.items
    → IsPartitionPoint (λ e. is_below b.columns key e ≡ true) (λ e. is_below b.columns key e ≡ false) b.entries.items start
    → IsPartitionPoint (λ e. is_not_above b.columns key e ≡ true) (λ e. is_not_above b.columns key e ≡ false) b.entries.items end
    → take (end - start) (drop start b.places.items) ≡ places_of b.columns key b.rows.now
same_places b key start end grouped s e below above =
    ap (λ (ps : List ℕ). take (end - start) (drop start ps)) grouped.placed
    ∙ ap (λ (ps : List ℕ). take (end - start) ps) (drop-map place_of start b.entries.items)
    ∙ take-map place_of (end - start) (drop start b.entries.items)
    ∙ ap (λ (es : List Placed). map place_of es) (sym (entries_together b.columns key b.entries.items start end s e below above))
    ∙ grouped.grouped key

-- ---- a stable sort keeps the places of each key in order

kept_where : (e : Placed) (kept : List Placed) (place : ℕ) (places : List ℕ) (b : Bool) → place_of e ≡ place → map place_of kept ≡ places → map place_of (cond b (e ∷ kept) kept) ≡ cond b (place ∷ places) places
kept_where e kept place places true h k = cc
kept_where e kept place places false h k = k

pub placed_places : (columns : Columns) (key : Row) (entries : List Placed) (rows : List Row) (place : ℕ) → map row_of_placed entries ≡ rows → map place_of entries ≡ count_from place (length rows)
    → map place_of (filter (is_entry_of columns key) entries) ≡ places_from (has_key columns key) place rows
placed_places columns key [] [] place rs ps = refl
placed_places columns key [] (row ∷ rows) place rs ps = cc
placed_places columns key (e ∷ entries) [] place rs ps = cc
placed_places columns key (e ∷ entries) (row ∷ rows) place rs ps =
    let one : row_of_placed e ≡ row = cc in
    let rest : map row_of_placed entries ≡ rows = cc in
    let here : place_of e ≡ place = cc in
    let later : map place_of entries ≡ count_from (suc place) (length rows) = cc in
    let kept = placed_places columns key entries rows (suc place) rest later in
    kept_where e (filter (is_entry_of columns key) entries) place (places_from (has_key columns key) (suc place) rows) (is_entry_of columns key e) here kept
    ∙ ap (λ r. cond (has_key columns key r) (place ∷ places_from (has_key columns key) (suc place) rows) (places_from (has_key columns key) (suc place) rows)) one

tied : (o : Ordering) → (not (is_lt o) && not (is_lt (ordering_reverse o))) ≡ is_eq o
tied Less = refl
tied Equal = refl
tied Greater = refl

ties-key : (columns : Columns) (x y : Placed) → ties (key_before columns) x y ≡ is_entry_of columns (key_of columns x) y
ties-key columns x y =
    ap (λ o. not (is_lt (row_cmp (key_of columns x) (key_of columns y))) && not (is_lt o)) (rows_ordered.antisymm (key_of columns y) (key_of columns x))
    ∙ tied (row_cmp (key_of columns x) (key_of columns y))

stable_where : (columns : Columns) (key : Row) (xs ys found : List Placed) → IsPermutation xs ys → IsStableBy (key_before columns) xs ys → filter (is_entry_of columns key) xs ≡ found
    → filter (is_entry_of columns key) ys ≡ filter (is_entry_of columns key) xs
stable_where columns key xs ys [] p stable e = none_permuted (is_entry_of columns key) xs ys p e ∙ sym e
stable_where columns key xs ys (x ∷ rest) p stable e =
    let is : key ≡ key_of columns x = (rows_exact key (key_of columns x)).0 (first_passes (is_entry_of columns key) xs rest x e) in
    let same : (y : Placed) → ties (key_before columns) x y ≡ is_entry_of columns key y = λ y. ties-key columns x y ∙ ap (λ k. is_entry_of columns k y) (sym is) in
    sym (filter-alike (ties (key_before columns) x) (is_entry_of columns key) same ys) ∙ stable x ∙ filter-alike (ties (key_before columns) x) (is_entry_of columns key) same xs

pub stable_places : (columns : Columns) (rows : List Row) (xs ys : List Placed) → map row_of_placed xs ≡ rows → map place_of xs ≡ count_from 0 (length rows) → IsPermutation xs ys
    → IsStableBy (key_before columns) xs ys → (key : Row) → map place_of (filter (is_entry_of columns key) ys) ≡ places_of columns key rows
stable_places columns rows xs ys rs ps p stable key =
    ap (λ (es : List Placed). map place_of es) (stable_where columns key xs ys (filter (is_entry_of columns key) xs) p stable refl)
    ∙ placed_places columns key xs rows 0 rs ps

-- ---- one entry more

pub placed_next : (done all : List Placed) (e : Placed) (rows : List Row) (i : ℕ) → all ≡ done ++ e ∷ [] → map row_of_placed done ≡ take i rows → map place_of done ≡ count_from 0 i
    → i < length rows → row_of_placed e ≡ get_or rows i (row_of_placed e) → place_of e ≡ i → (map row_of_placed all ≡ take (i + 1) rows) × (map place_of all ≡ count_from 0 (i + 1))
placed_next done all e rows i more rs ps h row place = (
  ap (λ (es : List Placed). map row_of_placed es) more ∙ map-append row_of_placed done (e ∷ []) ∙ ap (λ (xs : List Row). xs ++ row_of_placed e ∷ []) rs
      ∙ ap (λ r. take i rows ++ r ∷ []) row ∙ sym (take_more rows i (row_of_placed e) h),
  ap (λ (es : List Placed). map place_of es) more ∙ map-append place_of done (e ∷ []) ∙ ap (λ (xs : List ℕ). xs ++ place_of e ∷ []) ps
      ∙ ap (λ n. count_from 0 i ++ n ∷ []) place ∙ sym (count_from_next i),
)

-- ---- keys cell by cell

abbrev pub cell : List Value → ℕ → Value
cell xs place = unwrap_or (slice_get xs place) Null

get_or-cell : (xs : List Value) (i : ℕ) → get_or xs i Null ≡ cell xs i
get_or-cell [] i = refl
get_or-cell (x ∷ xs) zero = refl
get_or-cell (x ∷ xs) (suc i) = get_or-cell xs i

pub cells_next : (xs ys : List Value) (i : ℕ) → i < length xs → i < length ys
    → slice_cmp value_cmp (drop i xs) (drop i ys) ≡ ordering_then (value_cmp (cell xs i) (cell ys i)) (slice_cmp value_cmp (drop (i + 1) xs) (drop (i + 1) ys))
cells_next xs ys i h k =
    at_drop_more (λ vs. slice_cmp value_cmp vs (drop i ys)) xs i Null h
    ∙ at_drop_more (λ ws. slice_cmp value_cmp (get_or xs i Null ∷ drop (i + 1) xs) ws) ys i Null k
    ∙ ap (λ x. ordering_then (value_cmp x (get_or ys i Null)) (slice_cmp value_cmp (drop (i + 1) xs) (drop (i + 1) ys))) (get_or-cell xs i)
    ∙ ap (λ y. ordering_then (value_cmp (cell xs i) y) (slice_cmp value_cmp (drop (i + 1) xs) (drop (i + 1) ys))) (get_or-cell ys i)

nat_cmp-less : (m n : ℕ) → m < n → nat_cmp m n ≡ Less
nat_cmp-less m n h = grind (arith, nat_tests)

nat_cmp-greater : (m n : ℕ) → n < m → nat_cmp m n ≡ Greater
nat_cmp-greater m n h = grind (arith, nat_tests)

lengths_where : (xs ys : List Value) → (length xs ≡ 0) ⊎ (length ys ≡ 0) → slice_cmp value_cmp xs ys ≡ nat_cmp (length xs) (length ys)
lengths_where [] [] h = refl
lengths_where [] (y ∷ ys) h = sym (nat_cmp-less 0 (length (y ∷ ys)) (omega arith))
lengths_where (x ∷ xs) [] h = sym (nat_cmp-greater (length (x ∷ xs)) 0 (omega arith))
lengths_where (x ∷ xs) (y ∷ ys) (inl h) = absurd (omega arith)
lengths_where (x ∷ xs) (y ∷ ys) (inr h) = absurd (omega arith)

nat_cmp-sub : (m n i : ℕ) → i ≤ m → i ≤ n → nat_cmp (m - i) (n - i) ≡ nat_cmp m n
nat_cmp-sub m n i h k = grind (arith, nat_tests)

-- behind the shorter list the lengths decide
pub lengths_decide : (xs ys : List Value) (i : ℕ) → i ≡ min (length xs) (length ys) → slice_cmp value_cmp (drop i xs) (drop i ys) ≡ nat_cmp (length xs) (length ys)
lengths_decide xs ys i e =
    let none : (length (drop i xs) ≡ 0) ⊎ (length (drop i ys) ≡ 0) =
    elim (cases_lt (length ys) (length xs)) [ inl h ↦ inr (omega (arith, length-drop i ys)) | inr h ↦ inl (omega (arith, length-drop i xs)) ] in
    lengths_where (drop i xs) (drop i ys) none
    ∙ ap (λ n. nat_cmp n (length (drop i ys))) (length-drop i xs) ∙ ap (λ n. nat_cmp (length xs - i) n) (length-drop i ys)
    ∙ nat_cmp-sub (length xs) (length ys) i (omega arith) (omega arith)

pub cells_step : (xs ys : List Value) (i : ℕ) (o whole : Ordering) → i < length xs → i < length ys → whole ≡ slice_cmp value_cmp (drop i xs) (drop i ys) → o ≡ value_cmp (cell xs i) (cell ys i)
    → whole ≡ ordering_then o (slice_cmp value_cmp (drop (i + 1) xs) (drop (i + 1) ys))
cells_step xs ys i o whole h k so_far here =
    so_far ∙ cells_next xs ys i h k ∙ ap (λ p. ordering_then p (slice_cmp value_cmp (drop (i + 1) xs) (drop (i + 1) ys))) (sym here)

-- ---- what the search for a key finds

pub record FindsPlaces (b : Buckets) (key : Row) (start end : ℕ) (places : List ℕ) : Type 0 where
  pub ordered : start ≤ end
  pub within : end ≤ length places
  pub is : take (end - start) (drop start places) ≡ places_of b.columns key b.rows.now

pub finds_places : (b : Buckets) (key : Row) (start end : ℕ) (one two : List Placed) (places : List ℕ) → IsGrouped b → one ≡ b.entries.items → two ≡ b.entries.items → places ≡ b.places.items
    → start ≤ length one → end ≤ length two
    → IsPartitionPoint (λ e. is_below b.columns key e ≡ true) (λ e. is_below b.columns key e ≡ false) one start
    → IsPartitionPoint (λ e. is_not_above b.columns key e ≡ true) (λ e. is_not_above b.columns key e ≡ false) two end → FindsPlaces b key start end places
finds_places b key start end one two places grouped p q r s e below above =
    let s' = subst (λ (es : List Placed). start ≤ length es) p s in
    let e' = subst (λ (es : List Placed). end ≤ length es) q e in
    let below' = subst (λ (es : List Placed). IsPartitionPoint (λ x. is_below b.columns key x ≡ true) (λ x. is_below b.columns key x ≡ false) es start) p below in
    let above' = subst (λ (es : List Placed). IsPartitionPoint (λ x. is_not_above b.columns key x ≡ true) (λ x. is_not_above b.columns key x ≡ false) es end) q above in
    record {
      ordered = start_end b.columns key b.entries.items start end s' e' below' above';
      within = omega (arith, ap length r, ap length grouped.placed, length-map b.entries.items place_of);
      is = ap (λ (ps : List ℕ). take (end - start) (drop start ps)) r ∙ same_places b key start end grouped s' e' below' above';
    }
