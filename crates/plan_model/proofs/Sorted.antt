-- The order of rows by their keys, and an insertion sort.
use Rattle.std.proofs.Common.{◌≡◌, ◌<◌, ℕ, zero, suc, Bool, true, false, cond, List, [], ◌∷◌, length, get_or, ◌⊎◌, inl, inr, refl, sym, ap, ◌∙◌, arith}
use Rattle.std.specs.Prelude.{AllPairs}
use Rattle.std.specs.declared.cmp.Ordering.{Ordering}
use Rattle.std.specs.declared.cmp.Ordering.TheVariants.{Less, Equal, Greater}
use Rattle.std.specs.Cmp.{IsTotalOrder, bool_cmp_total}
use Rattle.std.specs.List.{AllByRecursion}
use Rattle.std.specs.Ordering.{is_lt, is_gt, ordering_reverse}
use Rattle.std.proofs.lemmas.List.{nil_from_length}
use Rattle.std.proofs.lemmas.List.Elements.{recursion_from_All}
use Rattle.std.proofs.lemmas.Cmp.{on_total, then_total, back_total, upto}
use Rattle.cn_types.specs.declared.row.Row.{Row}
use Rattle.cn_types.specs.Order.{count, row_eq}
use Rattle.cn_types.proofs.OrderFacts.{values_ordered}
use Rattle.plan_model.specs.declared.node.SortKey.{SortKey}
use Rattle.plan_model.specs.Chosen.{insert_in_order, in_order}
use Rattle.plan_model.specs.Counts.{SameCounts}
use Rattle.plan_model.specs.RelationLaws.{SortsWithoutTiesAreUnique}
use Rattle.plan_model.specs.Sorting.{nulls_order, values_order, key_order, rows_order, IsSort}
use Rattle.plan_model.specs.Truth.{is_present}
use Rattle.plan_model.specs.Val.{val}
use Rattle.plan_model.proofs.AggregateFacts.{is_gt-reverse}
use Rattle.plan_model.proofs.Multisets.{copies-cons, copies-here, count_of_rest}
use Rattle.plan_model.proofs.RowCounts.{row_exact, rows_permuted, SameCounts-sym, SameCounts-permutation, length-SameCounts, counts-from_All}

nulls_total : (nulls_last : Bool) → IsTotalOrder (nulls_order nulls_last)
nulls_total true = back_total (on_total is_present bool_cmp_total)
nulls_total false = on_total is_present bool_cmp_total

values_total : (descending : Bool) → IsTotalOrder (values_order descending)
values_total true = back_total values_ordered
values_total false = values_ordered

key_total : (key : SortKey) → IsTotalOrder (key_order key)
key_total key = on_total (val key.expr) (then_total (nulls_total key.nulls_last) (values_total key.descending))

-- the order of rows is total
pub rows_total : (keys : List SortKey) → IsTotalOrder (rows_order keys)
rows_total [] = record { antisymm = λ x y. refl; trans = λ x y z (p : Equal ≡ Less) q. cc; congr = λ x y z p. refl }
rows_total (key ∷ keys) = then_total (key_total key) (rows_total keys)

-- ---- lists in order

-- each element in relation to all behind it
abbrev pub Ordered : (Row → Row → Type 0) → List Row → Type 0
Ordered R [] = Unit {0}
Ordered R (x ∷ xs) = AllByRecursion (R x) xs × Ordered R xs

at_place : (P : Row → Type 0) (xs : List Row) (i : ℕ) (d : Row) → AllByRecursion P xs → i < length xs → P (get_or xs i d)
at_place P [] i d all h = absurd (omega arith)
at_place P (x ∷ xs) zero d all h = all.0
at_place P (x ∷ xs) (suc i) d all h = at_place P xs i d all.1 (omega arith)

pub pairs_ordered : (R : Row → Row → Type 0) (xs : List Row) → Ordered R xs → AllPairs R xs
pairs_ordered R [] h i j d before within = absurd (omega arith)
pairs_ordered R (x ∷ xs) h i zero d before within = absurd (omega arith)
pairs_ordered R (x ∷ xs) h zero (suc j) d before within = at_place (R x) xs j d h.0 (omega arith)
pairs_ordered R (x ∷ xs) h (suc i) (suc j) d before within = pairs_ordered R xs h.1 i j d (omega arith) (omega arith)

is_lt-reverse : (o : Ordering) → is_lt o ≡ true → is_lt (ordering_reverse o) ≡ false
is_lt-reverse Less e = refl
is_lt-reverse Equal e = cc
is_lt-reverse Greater e = cc

module _ (keys : List SortKey) where
  -- the later row is not smaller
  abbrev pub Keeps : Row → Row → Type 0
  Keeps earlier later = is_lt (rows_order keys later earlier) ≡ false

  not_above : (x y : Row) → is_gt (rows_order keys x y) ≡ is_lt (rows_order keys y x)
  not_above x y = ap is_gt ((rows_total keys).antisymm x y) ∙ is_gt-reverse (rows_order keys y x)

  keeps_trans : (x y z : Row) → Keeps x y → Keeps y z → Keeps x z
  keeps_trans x y z p q = sym (not_above x z) ∙ upto (rows_total keys) x y z (not_above x y ∙ p) (not_above y z ∙ q)

  keeps_smaller : (first row : Row) → is_lt (rows_order keys first row) ≡ true → Keeps first row
  keeps_smaller first row e = ap is_lt ((rows_total keys).antisymm row first) ∙ is_lt-reverse (rows_order keys first row) e

  all_behind : (row first : Row) (rows : List Row) → Keeps row first → AllByRecursion (Keeps first) rows → AllByRecursion (Keeps row) rows
  all_behind row first [] h all = tt
  all_behind row first (r ∷ rows) h all = (keeps_trans row first r h all.0, all_behind row first rows h all.1)

  insert_where : (P : Row → Type 0) (row first : Row) (rows inserted : List Row) (b : Bool) → P row → P first → AllByRecursion P rows → AllByRecursion P inserted
      → AllByRecursion P (cond b (first ∷ inserted) (row ∷ first ∷ rows))
  insert_where P row first rows inserted true here h all more = (h, more)
  insert_where P row first rows inserted false here h all more = (here, (h, all))

  all_inserted : (P : Row → Type 0) (row : Row) (rows : List Row) → P row → AllByRecursion P rows → AllByRecursion P (insert_in_order keys row rows)
  all_inserted P row [] here all = (here, tt)
  all_inserted P row (first ∷ rows) here all =
      insert_where P row first rows (insert_in_order keys row rows) (is_lt (rows_order keys first row)) here all.0 all.1 (all_inserted P row rows here all.1)

  ordered_where : (row first : Row) (rows : List Row) (b : Bool) → is_lt (rows_order keys first row) ≡ b → Ordered Keeps (first ∷ rows) → Ordered Keeps (insert_in_order keys row rows)
      → Ordered Keeps (cond b (first ∷ insert_in_order keys row rows) (row ∷ first ∷ rows))
  ordered_where row first rows true e h more = (all_inserted (Keeps first) row rows (keeps_smaller first row e) h.0, more)
  ordered_where row first rows false e h more = ((e, all_behind row first rows e h.0), h)

  insert_ordered : (row : Row) (rows : List Row) → Ordered Keeps rows → Ordered Keeps (insert_in_order keys row rows)
  insert_ordered row [] h = (tt, tt)
  insert_ordered row (first ∷ rows) h = ordered_where row first rows (is_lt (rows_order keys first row)) refl h (insert_ordered row rows h.1)

  sort_ordered : (rows : List Row) → Ordered Keeps (in_order keys rows)
  sort_ordered [] = tt
  sort_ordered (row ∷ rows) = insert_ordered row (in_order keys rows) (sort_ordered rows)

  inserted_where : (row first : Row) (rows inserted : List Row) (b : Bool) (r : Row) → count inserted r ≡ count (row ∷ rows) r → count (cond b (first ∷ inserted) (row ∷ first ∷ rows)) r ≡ count (row ∷ first ∷ rows) r
  inserted_where row first rows inserted true r h =
      omega (arith, copies-cons row_eq row_exact first inserted r, copies-cons row_eq row_exact row rows r, copies-cons row_eq row_exact row (first ∷ rows) r, copies-cons row_eq row_exact first rows r, h)
  inserted_where row first rows inserted false r h = refl

  count-insert : (row : Row) (rows : List Row) → SameCounts (insert_in_order keys row rows) (row ∷ rows)
  count-insert row [] r = refl
  count-insert row (first ∷ rows) r = inserted_where row first rows (insert_in_order keys row rows) (is_lt (rows_order keys first row)) r (count-insert row rows r)

  count-sort : (rows : List Row) → SameCounts (in_order keys rows) rows
  count-sort [] r = refl
  count-sort (row ∷ rows) r =
      count-insert row (in_order keys rows) r
      ∙ omega (arith, copies-cons row_eq row_exact row (in_order keys rows) r, copies-cons row_eq row_exact row rows r, count-sort rows r)

  -- the sorted list is a permutation in order
  pub sorts : (rows : List Row) → IsSort keys rows (in_order keys rows)
  sorts rows = record {
    permuted = rows_permuted rows (in_order keys rows) (SameCounts-sym (in_order keys rows) rows (count-sort rows));
    ordered = pairs_ordered Keeps (in_order keys rows) (sort_ordered rows);
  }

-- ---- sorts without ties

ordered_from : (R : Row → Row → Type 0) (xs : List Row) → AllPairs R xs → Ordered R xs
ordered_from R [] h = tt
ordered_from R (x ∷ xs) h =
    (recursion_from_All (R x) xs (λ k d within. h zero (suc k) d (omega arith) (omega arith)), ordered_from R xs (λ i j d before within. h (suc i) (suc j) d (omega arith) (omega arith)))

not_apart : (o : Ordering) → is_lt o ≡ false → is_gt o ≡ false → o ≡ Equal
not_apart Less e f = cc
not_apart Equal e f = refl
not_apart Greater e f = cc

-- the row stands first, or behind
abbrev FirstOr : Row → List Row → Row → Type 0
FirstOr first rows row = (row ≡ first) ⊎ (0 < count rows row)

first_or : (first : Row) (rows : List Row) (row : Row) (b : Bool) → row_eq row first ≡ b → 0 < count (first ∷ rows) row → FirstOr first rows row
first_or first rows row true e h = inl ((row_exact row first).0 e)
first_or first rows row false e h = inr (omega (arith, count_of_rest row_eq row_exact first rows row false e))

module _ (keys : List SortKey) where
  -- no two rows of the list tie
  abbrev HasNoTies : List Row → Type 0
  HasNoTies rows = (x y : Row) → 0 < count rows x → 0 < count rows y → rows_order keys x y ≡ Equal → x ≡ y

  heads_where : (x y : Row) (xs ys : List Row) → HasNoTies (x ∷ xs) → AllByRecursion (Keeps keys x) xs → AllByRecursion (Keeps keys y) ys → 0 < count (x ∷ xs) y → FirstOr y ys x → FirstOr x xs y → x ≡ y
  heads_where x y xs ys apart f g in_x (inl e) other = e
  heads_where x y xs ys apart f g in_x (inr h) (inl e) = sym e
  heads_where x y xs ys apart f g in_x (inr h) (inr k) =
      let below : is_lt (rows_order keys x y) ≡ false = counts-from_All (Keeps keys y) ys g x h in
      let above : is_lt (rows_order keys y x) ≡ false = counts-from_All (Keeps keys x) xs f y k in
      apart x y (omega (arith, copies-here row_eq row_exact x xs)) in_x (not_apart (rows_order keys x y) below (not_above keys x y ∙ above))

  one_order : (xs ys : List Row) → HasNoTies xs → Ordered (Keeps keys) xs → Ordered (Keeps keys) ys → SameCounts xs ys → xs ≡ ys
  one_order [] ys apart f g h = sym (nil_from_length ys (sym (length-SameCounts [] ys h)))
  one_order (x ∷ xs) [] apart f g h = absurd (omega (arith, h x, copies-here row_eq row_exact x xs))
  one_order (x ∷ xs) (y ∷ ys) apart f g h =
      let in_ys : 0 < count (y ∷ ys) x = omega (arith, h x, copies-here row_eq row_exact x xs) in
      let in_xs : 0 < count (x ∷ xs) y = omega (arith, h y, copies-here row_eq row_exact y ys) in
      let same = heads_where x y xs ys apart f.0 g.0 in_xs (first_or y ys x (row_eq x y) refl in_ys) (first_or x xs y (row_eq y x) refl in_xs) in
      let rest : SameCounts xs ys = λ row.
      omega (arith, h row, copies-cons row_eq row_exact x xs row, copies-cons row_eq row_exact y ys row, ap {B = ℕ} (λ (z : Row). cond (row_eq row z) 1 0) same) in
      let apart_later : HasNoTies xs = λ u v p q. apart u v (omega (arith, copies-cons row_eq row_exact x xs u)) (omega (arith, copies-cons row_eq row_exact x xs v)) in
      ap (λ (z : Row). z ∷ xs) same ∙ ap (λ rows. y ∷ rows) (one_order xs ys apart_later f.1 g.1 rest)

pub sorts_without_ties_are_unique : SortsWithoutTiesAreUnique
sorts_without_ties_are_unique keys rows xs ys apart f g =
    let to_xs = SameCounts-permutation rows xs f.permuted in
    let to_ys = SameCounts-permutation rows ys g.permuted in
    one_order keys xs ys (λ x y p q. apart x y (omega (arith, to_xs x)) (omega (arith, to_xs y)))
    (ordered_from (Keeps keys) xs f.ordered) (ordered_from (Keeps keys) ys g.ordered) (λ row. sym (to_xs row) ∙ to_ys row)
