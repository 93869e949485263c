-- The outcomes of small plans with a range, groups, distinct rows, and a sort.
use Rattle.std.proofs.Common.{◌≡◌, ◌<◌, ◌+◌, min, ℤ, pos, negsuc, Bool, true, false, cond, Some, Ok, Err, List, [], ◌∷◌, map, length, filter, refl, sym, ap, ◌∙◌, subst, inl, inr, arith}
use Rattle.std.specs.declared.cmp.Ordering.{Ordering}
use Rattle.std.specs.declared.cmp.Ordering.TheVariants.{Less, Equal, Greater}
use Rattle.std.specs.Ordering.{is_lt, ordering_then}
use Rattle.std.proofs.lemmas.List.Sorted.{IsPermutation-trans}
use Rattle.cn_types.specs.declared.row.Row.{Row}
use Rattle.cn_types.specs.declared.value.DataType.{DataType}
use Rattle.cn_types.specs.declared.value.Value.{Value}
use Rattle.cn_types.specs.declared.value.Value.TheVariants.{Null, Long}
use Rattle.cn_types.specs.Order.{count, row_eq}
use Rattle.cn_types.proofs.OrderFacts.{values_exact}
use Rattle.plan_model.specs.declared.node.Node.{Node}
use Rattle.plan_model.specs.declared.node.Node.TheVariants as V
use Rattle.plan_model.specs.declared.node.SortKey.{SortKey}
use Rattle.plan_model.specs.Aggregates.{rows_aggregate_of, call_value}
use Rattle.plan_model.specs.Allows.{Allows}
use Rattle.plan_model.specs.Counts.{SameCounts, HasEachOnce}
use Rattle.plan_model.specs.Groups.{key_values, group, aggregated, columns_of, IsAggregate, IsDistinctOn}
use Rattle.plan_model.specs.OutcomeLaws.{IsNoChoice, IsDetermined}
use Rattle.plan_model.specs.Outcomes.{PlanError, Evaluated, Allowed, Bounded, After, limited, row_limit, weight_limit}
use Rattle.plan_model.specs.Ranges.{IsRange}
use Rattle.plan_model.specs.Selections.{image, sliced}
use Rattle.plan_model.specs.Sorting.{nulls_order, values_order, rows_order, IsSort}
use Rattle.plan_model.specs.Val.{val}
use Rattle.plan_model.specs.WorkedPlans.{row_with, row_of_two, given, one, two, null, first, second, grouped, count_call, falling, runner_up, InAnyOrder, InThisOrder, WorkedPlans}
use Rattle.plan_model.proofs.AllowsFacts.{Allows-Range, Allows-Aggregate, Allows-DistinctOn, Allows-Sort, Allows-Slice}
use Rattle.plan_model.proofs.ChosenFacts.{each_once_itself}
use Rattle.plan_model.proofs.Determined.{determined_outcomes_alike}
use Rattle.plan_model.proofs.NodeFacts.{made-Range, made-Aggregate, made-Sort}
use Rattle.plan_model.proofs.OutcomeFacts.{limited-SameCounts, bounded_rows, after_rows}
use Rattle.plan_model.proofs.RangeFacts.{made_range}
use Rattle.plan_model.proofs.RelationFacts.{allowed_as, distinct_rows_are_a_set}
use Rattle.plan_model.proofs.RowCounts.{map-order, rows_permuted, counts-from_All}
use Rattle.plan_model.proofs.Sorted.{Keeps, pairs_ordered, sorts_without_ties_are_unique}
use Rattle.plan_model.proofs.ValueFacts.{values_of_forms}
use Rattle.plan_model.proofs.WorkedPlanFacts.{given_allowed, given_determined, in_any_order, intersect_all, union_of_nulls, full_keys, wrapping_sum, distinct_count}

-- ---- a range

abbrev falling_rows : List Row
falling_rows = row_with (Long (pos 5)) ∷ row_with (Long (pos 3)) ∷ row_with (Long (pos 1)) ∷ []

-- the rows of a range in any order
IsRange-SameCounts : (start end step : ℤ) (xs ys : List Row) → SameCounts xs ys → IsRange start end step ys → IsRange start end step xs
IsRange-SameCounts start end step xs ys h f = record {
  each = λ number is. h (row_with (Long number)) ∙ f.each number is;
  no_other = λ row more. f.no_other row (subst (λ n. 0 < n) (h row) more);
}

range_allowed : (list : List Row) → SameCounts list falling_rows → Allows (V.Range (pos 5) (pos 0) (negsuc 1)) (Ok list)
unfolding row_limit weight_limit
range_allowed list h =
    let made : IsRange (pos 5) (pos 0) (negsuc 1) falling_rows = made_range (pos 5) (pos 0) (negsuc 1) (λ (e : negsuc 1 ≡ pos 0). cc) in
    subst (λ (Q : Allowed). Q (Ok list)) (sym (Allows-Range (pos 5) (pos 0) (negsuc 1)))
    (list, IsRange-SameCounts (pos 5) (pos 0) (negsuc 1) list falling_rows h made, sym (limited-SameCounts list falling_rows h refl))

range_down : InAnyOrder (V.Range (pos 5) (pos 0) (negsuc 1)) falling_rows
range_down = in_any_order (V.Range (pos 5) (pos 0) (negsuc 1)) falling_rows (made-Range IsNoChoice (pos 5) (pos 0) (negsuc 1) tt) range_allowed

-- ---- groups

image_first : (value : Value) → image (first ∷ []) (row_with value) ≡ row_with value
image_first value = ap row_with (values_of_forms.column 0 DataType.Long (row_with value))

images_first : (values : List Value) → map (image (first ∷ [])) (map row_with values) ≡ map row_with values
images_first [] = refl
images_first (value ∷ values) = ap (λ row. row ∷ map (image (first ∷ [])) (map row_with values)) (image_first value) ∙ ap (λ rows. row_with value ∷ rows) (images_first values)

filter_first : (key : Row) (values : List Value) → filter (λ row. row_eq key (image (first ∷ []) row)) (map row_with values) ≡ filter (row_eq key) (map row_with values)
filter_first key [] = refl
filter_first key (value ∷ values) =
    ap (λ (b : Bool). cond b (row_with value ∷ filter (λ row. row_eq key (image (first ∷ []) row)) (map row_with values)) (filter (λ row. row_eq key (image (first ∷ []) row)) (map row_with values))) (ap (row_eq key) (image_first value))
    ∙ ap (λ rows. cond (row_eq key (row_with value)) (row_with value ∷ rows) rows) (filter_first key values)

abbrev column : List Value
column = Long (pos 1) ∷ Null ∷ Long (pos 1) ∷ Null ∷ Null ∷ []

abbrev group_rows : List Row
group_rows = map row_with column

abbrev of_group : Row → Row
of_group key = aggregated (first ∷ []) (count_call ∷ []) (first ∷ second ∷ []) group_rows key

abbrev counted : List Row
counted = row_of_two (Long (pos 1)) (Long (pos 2)) ∷ row_of_two Null (Long (pos 3)) ∷ []

-- the row of a group: its key, and the length of the rows with the key
group_row : (value : Value) → of_group (row_with value) ≡ row_of_two value (Long (pos (length (filter (row_eq (row_with value)) group_rows))))
unfolding rows_aggregate_of
group_row value =
    let row = row_of_two value (call_value count_call (group (first ∷ []) group_rows (row_with value))) in
    ap (λ (v : Value). row_of_two v (val second row)) (values_of_forms.column 0 DataType.Long row)
    ∙ ap (λ (v : Value). row_of_two value v) (values_of_forms.column 1 DataType.Long row)
    ∙ ap (λ (rows : List Row). row_of_two value (Long (pos (length rows)))) (filter_first (row_with value) column)

groups_counted : map of_group (one ∷ null ∷ []) ≡ counted
groups_counted = λ i. group_row (Long (pos 1)) i ∷ group_row Null i ∷ []

keys_once : HasEachOnce (one ∷ null ∷ []) (key_values (first ∷ []) group_rows)
keys_once = subst (HasEachOnce (one ∷ null ∷ [])) (sym (images_first column)) (each_once_itself group_rows)

groups_allowed : (list : List Row) → SameCounts list counted → Allows (grouped group_rows) (Ok list)
unfolding row_limit weight_limit
groups_allowed list h =
    let order = map-order of_group (one ∷ null ∷ []) list (λ row. h row ∙ ap (λ (rows : List Row). count rows row) (sym groups_counted)) in
    let is : IsAggregate (first ∷ []) (count_call ∷ []) (first ∷ second ∷ []) group_rows list = record {
      different = order.0;
      each_once = λ key. order.1 key ∙ keys_once key;
      is = sym order.2;
    } in
    let all : After (Allows (given group_rows)) (λ a. Bounded (IsAggregate (first ∷ []) (count_call ∷ []) (first ∷ second ∷ []) a)) (Ok list) =
    inr (group_rows, given_allowed group_rows refl, (list, is, sym (limited-SameCounts list counted h refl))) in
    subst (λ (Q : Allowed). Q (Ok list)) (sym (Allows-Aggregate (given group_rows) (first ∷ []) (count_call ∷ []) (first ∷ second ∷ []))) all

groups : InAnyOrder (grouped group_rows) counted
groups =
    in_any_order (grouped group_rows) counted (made-Aggregate IsNoChoice (given group_rows) (first ∷ []) (count_call ∷ []) (first ∷ second ∷ []) tt (given_determined group_rows)) groups_allowed

-- ---- what follows from given rows, and from one list

-- a list that given rows allow has their counts
given_counts : (rows a : List Row) → limited rows ≡ Ok rows → Allows (given rows) (Ok a) → SameCounts a rows
given_counts rows a e h = determined_outcomes_alike (given rows) (given_determined rows) (Ok a) (Ok rows) h (given_allowed rows e)

-- a relation in which no choice is made, and which allows a list, allows no error
pub no_error : (node : Node) (rows : List Row) (error : PlanError) → IsDetermined node → Allows node (Ok rows) → Allows node (Err error) → ⊥
no_error node rows error fixed known h = determined_outcomes_alike node fixed (Err error) (Ok rows) h known

-- ---- distinct rows

abbrev twice : List Row
twice = one ∷ null ∷ one ∷ null ∷ []

abbrev each : List Row
each = one ∷ null ∷ []

columns_fixed : (row : Row) → 0 < count twice row → columns_of (0 ∷ []) row ≡ row
columns_fixed = counts-from_All (λ row. columns_of (0 ∷ []) row ≡ row) twice (refl, (refl, (refl, (refl, tt))))

each_of_twice : HasEachOnce each twice
each_of_twice = each_once_itself twice

distinct_of : (outcome : Evaluated) → After (Allows (given twice)) (λ a. Bounded (IsDistinctOn (0 ∷ []) a)) outcome → (list : List Row) × SameCounts list each × (outcome ≡ Ok list)
unfolding row_limit weight_limit
distinct_of outcome (inl h) = absurd (no_error (given twice) twice h.0 (given_determined twice) (given_allowed twice refl) h.1)
distinct_of outcome (inr h) =
    let same = given_counts twice h.0 refl h.1 in
    let once = (distinct_rows_are_a_set (0 ∷ []) h.0 h.2.0 (λ row more. columns_fixed row (subst (λ n. 0 < n) (same row) more))).0 h.2.1 in
    let counted_once : SameCounts h.2.0 each = λ row. once row ∙ ap (λ n. min n 1) (same row) ∙ sym (each_of_twice row) in
    (h.2.0, counted_once, h.2.2 ∙ limited-SameCounts h.2.0 each counted_once refl)

distinct_allowed : (list : List Row) → SameCounts list each → Allows (V.DistinctOn (given twice) (0 ∷ [])) (Ok list)
unfolding row_limit weight_limit
distinct_allowed list h =
    let is = (distinct_rows_are_a_set (0 ∷ []) twice list columns_fixed).1 (λ row. h row ∙ each_of_twice row) in
    let all : After (Allows (given twice)) (λ a. Bounded (IsDistinctOn (0 ∷ []) a)) (Ok list) = inr (twice, given_allowed twice refl, (list, is, sym (limited-SameCounts list each h refl))) in
    subst (λ (Q : Allowed). Q (Ok list)) (sym (Allows-DistinctOn (given twice) (0 ∷ []))) all

distinct_rows : InAnyOrder (V.DistinctOn (given twice) (0 ∷ [])) each
distinct_rows outcome = (
  (λ h. distinct_of outcome (allowed_as (V.DistinctOn (given twice) (0 ∷ [])) (After (Allows (given twice)) (λ a. Bounded (IsDistinctOn (0 ∷ []) a))) outcome (Allows-DistinctOn (given twice) (0 ∷ [])) h)),
  λ t. subst (Allows (V.DistinctOn (given twice) (0 ∷ []))) (sym t.2) (distinct_allowed t.0 t.1),
)

-- ---- a sort

abbrev pub mixed : List Row
mixed = null ∷ one ∷ two ∷ []

abbrev pub fallen : List Row
fallen = two ∷ one ∷ null ∷ []

abbrev keys : List SortKey
keys = falling ∷ []

abbrev value_order : Value → Value → Ordering
value_order a b = ordering_then (ordering_then (nulls_order true a b) (values_order true a b)) Equal

order_of : (a b : Value) → rows_order keys (row_with a) (row_with b) ≡ value_order a b
order_of a b =
    ap (λ (v : Value). value_order v (val first (row_with b))) (values_of_forms.column 0 DataType.Long (row_with a))
    ∙ ap (value_order a) (values_of_forms.column 0 DataType.Long (row_with b))

keeps : (a b : Value) → is_lt (value_order b a) ≡ false → Keeps keys (row_with a) (row_with b)
keeps a b e = ap is_lt (order_of b a) ∙ e

fallen_sort : IsSort keys mixed fallen
fallen_sort = record {
  permuted = rows_permuted mixed fallen (λ row. turned (row_eq row null) (row_eq row one) (row_eq row two));
  ordered = pairs_ordered (Keeps keys) fallen ((keeps (Long (pos 2)) (Long (pos 1)) refl, (keeps (Long (pos 2)) Null refl, tt)), ((keeps (Long (pos 1)) Null refl, tt), (tt, tt)));
} where
  turned : (a b c : Bool) → 0 + cond a 1 0 + cond b 1 0 + cond c 1 0 ≡ 0 + cond c 1 0 + cond b 1 0 + cond a 1 0
  turned a b c = omega arith

pub both_equal : (o p : Ordering) → ordering_then o p ≡ Equal → (o ≡ Equal) × (p ≡ Equal)
both_equal Less p e = cc
both_equal Equal p e = (refl, e)
both_equal Greater p e = cc

values_tie : (a b : Value) → value_order a b ≡ Equal → a ≡ b
values_tie a b e =
    let inner = both_equal (ordering_then (nulls_order true a b) (values_order true a b)) Equal e in
    sym ((values_exact b a).0 (both_equal (nulls_order true a b) (values_order true a b) inner.0).1)

abbrev IsOfOne : Row → Type 0
IsOfOne row = (value : Value) × (row ≡ row_with value)

of_one : (row : Row) → 0 < count mixed row → IsOfOne row
of_one = counts-from_All IsOfOne mixed ((Null, refl), ((Long (pos 1), refl), ((Long (pos 2), refl), tt)))

no_ties : (x y : Row) → 0 < count mixed x → 0 < count mixed y → rows_order keys x y ≡ Equal → x ≡ y
no_ties x y p q e =
    let v = of_one x p in
    let w = of_one y q in
    let tie : value_order v.0 w.0 ≡ Equal = sym (order_of v.0 w.0) ∙ ap (λ (row : Row). rows_order keys row (row_with w.0)) (sym v.1) ∙ ap (rows_order keys x) (sym w.1) ∙ e in
    v.1 ∙ ap row_with (values_tie v.0 w.0 tie) ∙ sym w.1

abbrev pub sort_node : Node
sort_node = V.Sort (given mixed) keys

pub sort_allowed : Allows sort_node (Ok fallen)
unfolding row_limit weight_limit
sort_allowed =
    let all : After (Allows (given mixed)) (λ a. Bounded (IsSort keys a)) (Ok fallen) = inr (mixed, given_allowed mixed refl, (fallen, fallen_sort, refl)) in
    subst (λ (Q : Allowed). Q (Ok fallen)) (sym (Allows-Sort (given mixed) keys)) all

-- a list that is sorted from rows with the same counts
sort_of_same : (a list : List Row) → SameCounts a mixed → IsSort keys a list → IsSort keys mixed list
sort_of_same a list h is = record { permuted = IsPermutation-trans mixed a list (rows_permuted mixed a (λ row. sym (h row))) is.permuted; ordered = is.ordered }

pub sort_only : (list : List Row) → Allows sort_node (Ok list) → list ≡ fallen
unfolding row_limit weight_limit
sort_only list h =
    let t = after_rows (Allows (given mixed)) (λ a. Bounded (IsSort keys a)) list (allowed_as sort_node (After (Allows (given mixed)) (λ a. Bounded (IsSort keys a))) (Ok list) (Allows-Sort (given mixed) keys) h) in
    let is = sort_of_same t.0 list (given_counts mixed t.0 refl t.1) (bounded_rows (IsSort keys t.0) list t.2) in
    sorts_without_ties_are_unique keys mixed list fallen no_ties is fallen_sort

pub sort_determined : IsDetermined sort_node
sort_determined = made-Sort IsNoChoice (given mixed) keys tt (given_determined mixed)

second_of : (outcome : Evaluated) → After (Allows sort_node) (λ a. Bounded (λ list. list ≡ sliced 1 (Some 1) a)) outcome → outcome ≡ Ok (one ∷ [])
unfolding row_limit weight_limit
second_of outcome (inl h) = absurd (no_error sort_node fallen h.0 sort_determined sort_allowed h.1)
second_of outcome (inr h) =
    let is : h.2.0 ≡ one ∷ [] = h.2.1 ∙ ap (sliced 1 (Some 1)) (sort_only h.0 h.1) in
    h.2.2 ∙ ap limited is

second_allowed : Allows (runner_up mixed) (Ok (one ∷ []))
unfolding row_limit weight_limit
second_allowed =
    let all : After (Allows sort_node) (λ a. Bounded (λ list. list ≡ sliced 1 (Some 1) a)) (Ok (one ∷ [])) = inr (fallen, sort_allowed, (one ∷ [], refl, refl)) in
    subst (λ (Q : Allowed). Q (Ok (one ∷ []))) (sym (Allows-Slice sort_node 1 (Some 1))) all

second_of_three : InThisOrder (runner_up mixed) (one ∷ [])
second_of_three outcome = (
  (λ h. second_of outcome (allowed_as (runner_up mixed) (After (Allows sort_node) (λ a. Bounded (λ list. list ≡ sliced 1 (Some 1) a))) outcome (Allows-Slice sort_node 1 (Some 1)) h)),
  λ e. subst (Allows (runner_up mixed)) (sym e) second_allowed,
)

pub worked_plans : WorkedPlans
worked_plans = record {
  range_down = range_down;
  intersect_all = intersect_all;
  union = union_of_nulls;
  full = full_keys;
  sum = wrapping_sum;
  distinct = distinct_count;
  groups = groups;
  distinct_rows = distinct_rows;
  second_of_three = second_of_three;
}
