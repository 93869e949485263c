-- The outcomes of small sorts and slices.
use Rattle.std.proofs.Common.{◌≡◌, ◌<◌, ◌+◌, ℕ, pos, Bool, true, false, cond, Option, None, Some, Ok, Err, List, [], ◌∷◌, refl, sym, ap, ◌∙◌, subst, inl, inr, arith}
use Rattle.std.specs.declared.cmp.Ordering.{Ordering}
use Rattle.std.specs.declared.cmp.Ordering.TheVariants.{Equal}
use Rattle.std.specs.Ordering.{is_lt, ordering_then}
use Rattle.std.proofs.lemmas.List.Sorted.{IsPermutation-trans}
use Rattle.cn_types.specs.declared.row.Row.{Row}
use Rattle.cn_types.specs.declared.schema.Schema.{Schema}
use Rattle.cn_types.specs.declared.value.DataType.{DataType}
use Rattle.cn_types.specs.declared.value.Value.{Value}
use Rattle.cn_types.specs.declared.value.Value.TheVariants.{Null, Long}
use Rattle.cn_types.specs.Order.{count, row_eq}
use Rattle.cn_types.proofs.OrderFacts.{values_exact}
use Rattle.plan_model.specs.declared.node.Node.{Node}
use Rattle.plan_model.specs.declared.node.Node.TheVariants as V
use Rattle.plan_model.specs.declared.node.SortKey.{SortKey}
use Rattle.plan_model.specs.Allows.{Allows}
use Rattle.plan_model.specs.Counts.{SameCounts}
use Rattle.plan_model.specs.OutcomeLaws.{IsNoChoice, IsDetermined}
use Rattle.plan_model.specs.Outcomes.{Evaluated, Allowed, Bounded, After, limited, row_limit, weight_limit}
use Rattle.plan_model.specs.Selections.{sliced}
use Rattle.plan_model.specs.Sorting.{nulls_order, values_order, rows_order, IsSort}
use Rattle.plan_model.specs.WorkedPlans.{one, two, null, row_of_two, InThisOrder}
use Rattle.plan_model.specs.WorkedRelations.{two_fields, one_two, two_one, one_one, null_five, unsorted, first_key, second_key, WorkedSorts, WorkedSlices}
use Rattle.plan_model.proofs.AllowsFacts.{Allows-Rows, Allows-Sort, Allows-Slice}
use Rattle.plan_model.proofs.Determined.{determined_outcomes_alike}
use Rattle.plan_model.proofs.NodeFacts.{made-Rows, made-Sort}
use Rattle.plan_model.proofs.OutcomeFacts.{bounded_rows, after_rows}
use Rattle.plan_model.proofs.RelationFacts.{allowed_as}
use Rattle.plan_model.proofs.RowCounts.{rows_permuted, counts-from_All}
use Rattle.plan_model.proofs.Sorted.{Keeps, pairs_ordered, sorts_without_ties_are_unique}
use Rattle.plan_model.proofs.ValueFacts.{values_of_forms}
use Rattle.plan_model.proofs.WorkedRelationFacts.{both_equal, no_error, fallen, sort_node, sort_only, sort_allowed, sort_determined}

-- ---- a sort of given rows that do not tie has one list

module _ (schema : Schema) (source sorted : List Row) (keys : List SortKey) (few : limited source ≡ Ok source) (few_sorted : limited sorted ≡ Ok sorted)
    (apart : (x y : Row) → 0 < count source x → 0 < count source y → rows_order keys x y ≡ Equal → x ≡ y) (sort : IsSort keys source sorted) where
  abbrev input : Node
  input = V.Rows schema source

  abbrev node : Node
  node = V.Sort (V.Rows schema source) keys

  input_allowed : Allows input (Ok source)
  input_allowed = subst (λ (Q : Allowed). Q (Ok source)) (sym (Allows-Rows schema source)) (source, (λ row. refl), sym few)

  input_determined : IsDetermined input
  input_determined = made-Rows IsNoChoice schema source tt

  node_allowed : Allows node (Ok sorted)
  node_allowed =
      let all : After (Allows input) (λ a. Bounded (IsSort keys a)) (Ok sorted) = inr (source, input_allowed, (sorted, sort, sym few_sorted)) in
      subst (λ (Q : Allowed). Q (Ok sorted)) (sym (Allows-Sort input keys)) all

  -- the rows that the input allows have the counts of the source
  input_counts : (a : List Row) → Allows input (Ok a) → SameCounts a source
  input_counts a h = determined_outcomes_alike input input_determined (Ok a) (Ok source) h input_allowed

  only_list : (list : List Row) → Allows node (Ok list) → list ≡ sorted
  only_list list h =
      let t = after_rows (Allows input) (λ a. Bounded (IsSort keys a)) list (allowed_as node (After (Allows input) (λ a. Bounded (IsSort keys a))) (Ok list) (Allows-Sort input keys) h) in
      let is = bounded_rows (IsSort keys t.0) list t.2 in
      let of_source : IsSort keys source list = record { permuted = IsPermutation-trans source t.0 list (rows_permuted source t.0 (λ row. sym (input_counts t.0 t.1 row))) is.permuted; ordered = is.ordered } in
      sorts_without_ties_are_unique keys source list sorted apart of_source sort

  only_outcome : (outcome : Evaluated) → Allows node outcome → outcome ≡ Ok sorted
  only_outcome (Ok list) h = ap (λ (rows : List Row). Ok rows) (only_list list h)
  only_outcome (Err error) h = absurd (determined_outcomes_alike node (made-Sort IsNoChoice input keys tt input_determined) (Err error) (Ok sorted) h node_allowed)

  only_sorted : InThisOrder node sorted
  only_sorted outcome = (only_outcome outcome, λ e. subst (Allows node) (sym e) node_allowed)

-- ---- rows of two values by two keys

abbrev keys_of : Bool → Bool → List SortKey
keys_of descending nulls_last = first_key descending nulls_last ∷ second_key ∷ []

abbrev column_order : Bool → Bool → Value → Value → Ordering
column_order descending nulls_last a b = ordering_then (nulls_order nulls_last a b) (values_order descending a b)

abbrev pair_order : Bool → Bool → Value → Value → Value → Value → Ordering
pair_order descending nulls_last a b c d = ordering_then (column_order descending nulls_last a c) (ordering_then (column_order false false b d) Equal)

order_of_two : (descending nulls_last : Bool) (a b c d : Value) → rows_order (keys_of descending nulls_last) (row_of_two a b) (row_of_two c d) ≡ pair_order descending nulls_last a b c d
order_of_two descending nulls_last a b c d = λ i.
    pair_order descending nulls_last (values_of_forms.column 0 DataType.Long (row_of_two a b) i) (values_of_forms.column 1 DataType.Long (row_of_two a b) i)
    (values_of_forms.column 0 DataType.Long (row_of_two c d) i) (values_of_forms.column 1 DataType.Long (row_of_two c d) i)

same_values : (descending : Bool) (a b : Value) → values_order descending a b ≡ Equal → a ≡ b
same_values true a b e = sym ((values_exact b a).0 e)
same_values false a b e = (values_exact a b).0 e

column_ties : (descending nulls_last : Bool) (a b : Value) → column_order descending nulls_last a b ≡ Equal → a ≡ b
column_ties descending nulls_last a b e = same_values descending a b (both_equal (nulls_order nulls_last a b) (values_order descending a b) e).1

pair_ties : (descending nulls_last : Bool) (a b c d : Value) → pair_order descending nulls_last a b c d ≡ Equal → row_of_two a b ≡ row_of_two c d
pair_ties descending nulls_last a b c d e =
    let outer = both_equal (column_order descending nulls_last a c) (ordering_then (column_order false false b d) Equal) e in
    let inner = both_equal (column_order false false b d) Equal outer.1 in
    λ i. row_of_two (column_ties descending nulls_last a c outer.0 i) (column_ties false false b d inner.0 i)

abbrev IsOfTwo : Row → Type 0
IsOfTwo row = (a : Value) × (b : Value) × (row ≡ row_of_two a b)

of_two : (row : Row) → 0 < count unsorted row → IsOfTwo row
of_two = counts-from_All IsOfTwo unsorted
    ((Long (pos 2), Long (pos 1), refl), ((Null, Long (pos 5), refl), ((Long (pos 1), Long (pos 2), refl), ((Long (pos 1), Long (pos 1), refl), tt))))

module _ (descending nulls_last : Bool) where
  none_tie : (x y : Row) → 0 < count unsorted x → 0 < count unsorted y → rows_order (keys_of descending nulls_last) x y ≡ Equal → x ≡ y
  none_tie x y p q e =
      let v = of_two x p in
      let w = of_two y q in
      let tie : pair_order descending nulls_last v.0 v.1 w.0 w.1 ≡ Equal =
      sym (order_of_two descending nulls_last v.0 v.1 w.0 w.1) ∙ (λ i. rows_order (keys_of descending nulls_last) (sym v.2 i) (sym w.2 i)) ∙ e in
      v.2 ∙ pair_ties descending nulls_last v.0 v.1 w.0 w.1 tie ∙ sym w.2

  -- the second row is not smaller
  stays : (a b c d : Value) → is_lt (pair_order descending nulls_last c d a b) ≡ false → Keeps (keys_of descending nulls_last) (row_of_two a b) (row_of_two c d)
  stays a b c d e = ap is_lt (order_of_two descending nulls_last c d a b) ∙ e

turned : (a b c d : ℕ) → (0 + a + b + c + d ≡ 0 + b + d + c + a) × (0 + a + b + c + d ≡ 0 + d + c + a + b) × (0 + a + b + c + d ≡ 0 + b + a + d + c) × (0 + a + b + c + d ≡ 0 + a + d + c + b)
turned a b c d = (omega arith, omega arith, omega arith, omega arith)

v1 : Value
v1 = Long (pos 1)

v2 : Value
v2 = Long (pos 2)

v5 : Value
v5 = Long (pos 5)

pub worked_sorts : WorkedSorts
unfolding row_limit weight_limit v1 v2 v5
worked_sorts = record {
  ascending_nulls_first = only_sorted two_fields unsorted (null_five ∷ one_one ∷ one_two ∷ two_one ∷ []) (keys_of false false) refl refl (none_tie false false) (record {
    permuted = rows_permuted unsorted (null_five ∷ one_one ∷ one_two ∷ two_one ∷ [])
        (λ row. (turned (cond (row_eq row two_one) 1 0) (cond (row_eq row null_five) 1 0) (cond (row_eq row one_two) 1 0) (cond (row_eq row one_one) 1 0)).0);
    ordered = pairs_ordered (Keeps (keys_of false false)) (null_five ∷ one_one ∷ one_two ∷ two_one ∷ []) (
      (stays false false Null v5 v1 v1 refl, (stays false false Null v5 v1 v2 refl, (stays false false Null v5 v2 v1 refl, tt))),
      ((stays false false v1 v1 v1 v2 refl, (stays false false v1 v1 v2 v1 refl, tt)), ((stays false false v1 v2 v2 v1 refl, tt), (tt, tt))),
    );
  });
  ascending_nulls_last = only_sorted two_fields unsorted (one_one ∷ one_two ∷ two_one ∷ null_five ∷ []) (keys_of false true) refl refl (none_tie false true) (record {
    permuted = rows_permuted unsorted (one_one ∷ one_two ∷ two_one ∷ null_five ∷ [])
        (λ row. (turned (cond (row_eq row two_one) 1 0) (cond (row_eq row null_five) 1 0) (cond (row_eq row one_two) 1 0) (cond (row_eq row one_one) 1 0)).1);
    ordered = pairs_ordered (Keeps (keys_of false true)) (one_one ∷ one_two ∷ two_one ∷ null_five ∷ []) (
      (stays false true v1 v1 v1 v2 refl, (stays false true v1 v1 v2 v1 refl, (stays false true v1 v1 Null v5 refl, tt))),
      ((stays false true v1 v2 v2 v1 refl, (stays false true v1 v2 Null v5 refl, tt)), ((stays false true v2 v1 Null v5 refl, tt), (tt, tt))),
    );
  });
  descending_nulls_first = only_sorted two_fields unsorted (null_five ∷ two_one ∷ one_one ∷ one_two ∷ []) (keys_of true false) refl refl (none_tie true false) (record {
    permuted = rows_permuted unsorted (null_five ∷ two_one ∷ one_one ∷ one_two ∷ [])
        (λ row. (turned (cond (row_eq row two_one) 1 0) (cond (row_eq row null_five) 1 0) (cond (row_eq row one_two) 1 0) (cond (row_eq row one_one) 1 0)).2);
    ordered = pairs_ordered (Keeps (keys_of true false)) (null_five ∷ two_one ∷ one_one ∷ one_two ∷ []) (
      (stays true false Null v5 v2 v1 refl, (stays true false Null v5 v1 v1 refl, (stays true false Null v5 v1 v2 refl, tt))),
      ((stays true false v2 v1 v1 v1 refl, (stays true false v2 v1 v1 v2 refl, tt)), ((stays true false v1 v1 v1 v2 refl, tt), (tt, tt))),
    );
  });
  descending_nulls_last = only_sorted two_fields unsorted (two_one ∷ one_one ∷ one_two ∷ null_five ∷ []) (keys_of true true) refl refl (none_tie true true) (record {
    permuted = rows_permuted unsorted (two_one ∷ one_one ∷ one_two ∷ null_five ∷ [])
        (λ row. (turned (cond (row_eq row two_one) 1 0) (cond (row_eq row null_five) 1 0) (cond (row_eq row one_two) 1 0) (cond (row_eq row one_one) 1 0)).3);
    ordered = pairs_ordered (Keeps (keys_of true true)) (two_one ∷ one_one ∷ one_two ∷ null_five ∷ []) (
      (stays true true v2 v1 v1 v1 refl, (stays true true v2 v1 v1 v2 refl, (stays true true v2 v1 Null v5 refl, tt))),
      ((stays true true v1 v1 v1 v2 refl, (stays true true v1 v1 Null v5 refl, tt)), ((stays true true v1 v2 Null v5 refl, tt), (tt, tt))),
    );
  });
}

-- ---- slices of a sort that has one list

module _ (skip : ℕ) (most : Option ℕ) (rows : List Row) (is : sliced skip most fallen ≡ rows) (few : limited rows ≡ Ok rows) where
  slice_of : (outcome : Evaluated) → After (Allows sort_node) (λ a. Bounded (λ list. list ≡ sliced skip most a)) outcome → outcome ≡ Ok rows
  slice_of outcome (inl h) = absurd (no_error sort_node fallen h.0 sort_determined sort_allowed h.1)
  slice_of outcome (inr h) =
      let same : h.2.0 ≡ rows = h.2.1 ∙ ap (sliced skip most) (sort_only h.0 h.1) ∙ is in
      h.2.2 ∙ ap limited same ∙ few

  slice_allowed : Allows (V.Slice sort_node skip most) (Ok rows)
  slice_allowed =
      let all : After (Allows sort_node) (λ a. Bounded (λ list. list ≡ sliced skip most a)) (Ok rows) = inr (fallen, sort_allowed, (rows, sym is, sym few)) in
      subst (λ (Q : Allowed). Q (Ok rows)) (sym (Allows-Slice sort_node skip most)) all

  only_slice : InThisOrder (V.Slice sort_node skip most) rows
  only_slice outcome = (
    (λ h. slice_of outcome (allowed_as (V.Slice sort_node skip most) (After (Allows sort_node) (λ a. Bounded (λ list. list ≡ sliced skip most a))) outcome (Allows-Slice sort_node skip most) h)),
    λ e. subst (Allows (V.Slice sort_node skip most)) (sym e) slice_allowed,
  )

pub worked_slices : WorkedSlices
unfolding row_limit weight_limit
worked_slices = record {
  without_the_first = only_slice 1 None (one ∷ null ∷ []) refl refl;
  all_of_them = only_slice 0 None (two ∷ one ∷ null ∷ []) refl refl;
  none_behind_the_last = only_slice 3 None [] refl refl;
  the_first_two = only_slice 0 (Some 2) (two ∷ one ∷ []) refl refl;
}
