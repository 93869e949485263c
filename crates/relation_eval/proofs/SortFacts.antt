-- Rows that are sorted by keys found once are sorted by their keys.
use Rattle.std.proofs.Common.{◌≡◌, ◌<◌, ℕ, zero, suc, Bool, true, false, List, [], ◌∷◌, ◌++◌, append_assoc, map, length, get_or, refl, sym, ap, ◌∙◌, subst, arith, length-append}
use Rattle.std.specs.Prelude.{All, IsPermutation}
use Rattle.std.specs.declared.cmp.Ordering.TheVariants.{Less, Equal}
use Rattle.std.specs.Cmp.{IsTotalOrder, IsStrictWeakOrder, bool_cmp_total}
use Rattle.std.specs.List.Sorted.{IsSortedBy}
use Rattle.std.specs.Ordering.{is_lt, ordering_then}
use Rattle.std.proofs.lemmas.Cmp.{on_total, then_total, back_total}
use Rattle.std.proofs.Math.ListN.{get_or-map}
use Rattle.std.proofs.lemmas.List.{length-map}
use Rattle.std.proofs.lemmas.List.Sorted.{ranks_by, sorted_far, IsPermutation-map, All-permutation}
use Rattle.cn_types.specs.Fit.{value_at}
use Rattle.cn_types.specs.declared.row.Row.{Row}
use Rattle.cn_types.specs.declared.value.Value.{Value}
use Rattle.cn_types.proofs.OrderFacts.{values_ordered}
use Rattle.plan_model.specs.declared.node.SortKey.{SortKey}
use Rattle.plan_model.specs.Sorting.{nulls_order, values_order, rows_order, IsSort}
use Rattle.plan_model.specs.Truth.{is_present}
use Rattle.plan_model.specs.Val.{val}
use Rattle.relation_eval.specs.declared.sorting.Keyed.{Keyed}
use Rattle.relation_eval.specs.SortKeys.{value_order, found_order, key_exprs}
use Rattle.relation_eval.specs.KeyedRows.{with_keys, row_of_keyed, is_before}

nulls_total : (nulls_last : Bool) → IsTotalOrder (nulls_order nulls_last)
nulls_total true = back_total (on_total is_present bool_cmp_total)
nulls_total false = on_total is_present bool_cmp_total

values_total : (descending : Bool) → IsTotalOrder (values_order descending)
values_total true = back_total values_ordered
values_total false = values_ordered

found_total : (keys : List SortKey) (place : ℕ) → IsTotalOrder (found_order keys place)
found_total [] place = record { antisymm = λ x y. refl; trans = λ x y z (p : Equal ≡ Less) q. cc; congr = λ x y z p. refl }
found_total (key ∷ keys) place =
    then_total (on_total (λ row. value_at place row) (then_total (nulls_total key.nulls_last) (values_total key.descending))) (found_total keys (suc place))

-- the order by found keys is a strict order with ties
pub before_orders : (keys : List SortKey) → IsStrictWeakOrder (is_before keys)
before_orders keys = ranks_by (found_total keys 0) (λ keyed. keyed.found)

-- ---- found keys against the keys themselves

abbrev row_with : List Value → Row
row_with values = record { 0 = values }

value_at-append : (front rest : List Value) (value : Value) (place : ℕ) → length front ≡ place → value_at place (row_with (front ++ (value ∷ rest))) ≡ value
value_at-append [] rest value zero e = refl
value_at-append [] rest value (suc place) e = absurd (omega arith)
value_at-append (first ∷ front) rest value zero e = absurd (omega arith)
value_at-append (first ∷ front) rest value (suc place) e = value_at-append front rest value place (omega arith)

abbrev key_values : List SortKey → Row → List Value
key_values keys row = map (λ expr. val expr row) (key_exprs keys)

order_of_found : (keys : List SortKey) (place : ℕ) (front_a front_b : List Value) (a b : Row) → length front_a ≡ place → length front_b ≡ place
    → found_order keys place (row_with (front_a ++ key_values keys a)) (row_with (front_b ++ key_values keys b)) ≡ rows_order keys a b
order_of_found [] place front_a front_b a b e f = refl
order_of_found (key ∷ keys) place front_a front_b a b e f =
    let va = val key.expr a in
    let vb = val key.expr b in
    let here : value_at place (row_with (front_a ++ (va ∷ key_values keys a))) ≡ va = value_at-append front_a (key_values keys a) va place e in
    let there : value_at place (row_with (front_b ++ (vb ∷ key_values keys b))) ≡ vb = value_at-append front_b (key_values keys b) vb place f in
    let more_a : length (front_a ++ va ∷ []) ≡ suc place = omega (arith, length-append front_a (va ∷ [])) in
    let more_b : length (front_b ++ vb ∷ []) ≡ suc place = omega (arith, length-append front_b (vb ∷ [])) in
    let later : found_order keys (suc place) (row_with ((front_a ++ va ∷ []) ++ key_values keys a)) (row_with ((front_b ++ vb ∷ []) ++ key_values keys b)) ≡ rows_order keys a b
    = order_of_found keys (suc place) (front_a ++ va ∷ []) (front_b ++ vb ∷ []) a b more_a more_b in
    let moved : found_order keys (suc place) (row_with (front_a ++ (va ∷ key_values keys a))) (row_with (front_b ++ (vb ∷ key_values keys b))) ≡ rows_order keys a b
    = ap (λ (xs : List Value). found_order keys (suc place) (row_with xs) (row_with (front_b ++ (vb ∷ key_values keys b)))) (sym (append_assoc front_a (va ∷ []) (key_values keys a)))
    ∙ ap (λ (ys : List Value). found_order keys (suc place) (row_with ((front_a ++ va ∷ []) ++ key_values keys a)) (row_with ys)) (sym (append_assoc front_b (vb ∷ []) (key_values keys b))) ∙ later in
    ap (λ x. ordering_then (value_order key x (value_at place (row_with (front_b ++ (vb ∷ key_values keys b))))) (found_order keys (suc place) (row_with (front_a ++ (va ∷ key_values keys a))) (row_with (front_b ++ (vb ∷ key_values keys b))))) here
    ∙ ap (λ y. ordering_then (value_order key va y) (found_order keys (suc place) (row_with (front_a ++ (va ∷ key_values keys a))) (row_with (front_b ++ (vb ∷ key_values keys b))))) there
    ∙ ap (λ o. ordering_then (value_order key va vb) o) moved

found-rows : (keys : List SortKey) (a b : Row) → is_before keys (with_keys keys a) (with_keys keys b) ≡ is_lt (rows_order keys a b)
found-rows keys a b = ap is_lt (order_of_found keys 0 [] [] a b refl refl)

-- ---- sorted rows

rows_of_keyed : (keys : List SortKey) (rows : List Row) → map row_of_keyed (map (with_keys keys) rows) ≡ rows
rows_of_keyed keys [] = refl
rows_of_keyed keys (row ∷ rows) = ap (λ (xs : List Row). row ∷ xs) (rows_of_keyed keys rows)

-- a row beside its own keys
pub record IsKeyed (keys : List SortKey) (keyed : Keyed) : Type 0 where
  pub is : keyed ≡ with_keys keys keyed.row

all_keyed : (keys : List SortKey) (rows : List Row) → All (IsKeyed keys) (map (with_keys keys) rows)
all_keyed keys [] k d h = absurd (omega arith)
all_keyed keys (row ∷ rows) zero d h = record { is = refl }
all_keyed keys (row ∷ rows) (suc k) d h = all_keyed keys rows k d (omega arith)

before_as_rows : (keys : List SortKey) (x y : Keyed) → IsKeyed keys x → IsKeyed keys y → is_before keys x y ≡ is_lt (rows_order keys x.row y.row)
before_as_rows keys x y h k = ap (λ z. is_before keys z y) h.is ∙ ap (λ z. is_before keys (with_keys keys x.row) z) k.is ∙ found-rows keys x.row y.row

pub sorted_is : (keys : List SortKey) (rows : List Row) (sorted : List Keyed) → IsPermutation (map (with_keys keys) rows) sorted → IsSortedBy (is_before keys) sorted → IsSort keys rows (map row_of_keyed sorted)
sorted_is keys rows sorted p up =
    let keyed = All-permutation (IsKeyed keys) (map (with_keys keys) rows) sorted p (all_keyed keys rows) in
    record {
      permuted = subst (λ (xs : List Row). IsPermutation xs (map row_of_keyed sorted)) (rows_of_keyed keys rows) (IsPermutation-map row_of_keyed (map (with_keys keys) rows) sorted p);
      ordered = λ i j d before within.
          let e = with_keys keys d in
          let inside : j < length sorted = omega (arith, length-map sorted row_of_keyed) in
          let far = sorted_far (is_before keys) (before_orders keys) sorted up i j e (omega arith) inside in
          let pair = sym (before_as_rows keys (get_or sorted j e) (get_or sorted i e) (keyed j e inside) (keyed i e (omega arith))) ∙ far in
          ap (λ x. is_lt (rows_order keys x (get_or (map row_of_keyed sorted) i d))) (get_or-map row_of_keyed sorted j e)
          ∙ ap (λ x. is_lt (rows_order keys (row_of_keyed (get_or sorted j e)) x)) (get_or-map row_of_keyed sorted i e) ∙ pair;
    }
