-- Aggregates do not depend on the order of their rows.
use Rattle.std.proofs.Common.{◌≡◌, ◌≢◌, ◌<◌, pos, ◌+ℤ◌, Bool, true, false, cond, Option, None, Some, List, [], ◌∷◌, map, min, length, filter, unwrap_or, refl, sym, ap, ◌∙◌, subst, inl, inr, arith}
use mathlib.Core.Path.{subst₂}
use Rattle.std.specs.List.{AllByRecursion, reduce}
use Rattle.std.specs.Ordering.{is_gt, ordering_reverse, ord_min, ord_max}
use Rattle.std.specs.declared.cmp.Ordering.{Ordering}
use Rattle.std.specs.declared.cmp.Ordering.TheVariants.{Less, Equal, Greater}
use Rattle.std.proofs.lemmas.Int.{ints}
use Rattle.std.proofs.lemmas.List.{map-id}
use Rattle.std.proofs.lemmas.List.Sorted.{IsPermutation-map, length_permutation}
use Rattle.cn_types.specs.declared.row.Row.{Row}
use Rattle.cn_types.specs.declared.value.Value.{Value}
use Rattle.cn_types.specs.declared.value.Value.TheVariants.{Null, Long}
use Rattle.cn_types.specs.Order.{value_cmp, value_eq}
use Rattle.cn_types.proofs.OrderFacts.{values_ordered, values_exact}
use Rattle.plan_model.specs.declared.expression.TypedExpr.{TypedExpr}
use Rattle.plan_model.specs.declared.function.Function.{Function}
use Rattle.plan_model.specs.declared.node.AggregateCall.{AggregateCall}
use Rattle.plan_model.specs.Aggregates.{present, different, total, unless_empty, count_of, sum_of, least, greatest, aggregate_of, rows_aggregate_of, called_over, call_value}
use Rattle.plan_model.specs.AggregateLaws.{IsOneOf, IsAtMost, CallsIgnoreOrder, AreDifferent, DistinctValuesAreCounted}
use Rattle.plan_model.specs.Arithmetic.{number, wrapped_long}
use Rattle.plan_model.specs.Counts.{SameCounts}
use Rattle.plan_model.specs.Truth.{is_present}
use Rattle.plan_model.specs.Val.{val}
use Rattle.plan_model.proofs.AggregateFacts.{total-append, extremes}
use Rattle.plan_model.proofs.Multisets.{Same, copies, permuted, same_from_permutation, kept, copies-cons, copies-here, copies-filter, copies-from_All, keys_once}
use Rattle.plan_model.proofs.RowCounts.{value_exact, rows_permuted, length-SameCounts}

-- the values have each value equally often
abbrev pub SameValues : List Value → List Value → Type 0
SameValues = Same value_eq value_exact

pub SameValues-map : (f : Row → Value) (xs ys : List Row) → SameCounts xs ys → SameValues (map f xs) (map f ys)
SameValues-map f xs ys h = same_from_permutation value_eq value_exact (map f xs) (map f ys) (IsPermutation-map f xs ys (rows_permuted xs ys h))

SameValues-filter : (p : Value → Bool) (xs ys : List Value) → SameValues xs ys → SameValues (filter p xs) (filter p ys)
SameValues-filter p xs ys h v = copies-filter value_eq value_exact p xs v ∙ ap (λ n. cond (p v) n 0) (h v) ∙ sym (copies-filter value_eq value_exact p ys v)

same_length : (xs ys : List Value) → SameValues xs ys → length xs ≡ length ys
same_length xs ys h = sym (length_permutation xs ys (permuted value_eq value_exact xs ys h))

-- each value once
pub different-once : (xs : List Value) (v : Value) → copies value_eq value_exact (different xs) v ≡ min (copies value_eq value_exact xs v) 1
different-once xs v =
    ap (λ (ys : List Value). copies value_eq value_exact ys v) (sym (map-id (different xs)))
    ∙ keys_once value_eq value_exact (λ (w : Value). w) different refl (λ x ys. refl) xs v
    ∙ ap (λ (ys : List Value). min (copies value_eq value_exact ys v) 1) (map-id xs)

same_different : (xs ys : List Value) → SameValues xs ys → SameValues (different xs) (different ys)
same_different xs ys h v = different-once xs v ∙ ap (λ n. min n 1) (h v) ∙ sym (different-once ys v)

same_total : (xs ys : List Value) → SameValues xs ys → total xs ≡ total ys
same_total = kept value_eq value_exact total (λ v sum. unwrap_or (number v) (pos 0) +ℤ sum) (λ v p q. omega (arith, ints, total-append p (v ∷ q), total-append p q))

same_unless_empty : (xs ys : List Value) (v : Value) → length xs ≡ length ys → unless_empty xs v ≡ unless_empty ys v
same_unless_empty [] [] v h = refl
same_unless_empty [] (y ∷ ys) v h = absurd (omega arith)
same_unless_empty (x ∷ xs) [] v h = absurd (omega arith)
same_unless_empty (x ∷ xs) (y ∷ ys) v h = refl

same_present : (xs ys : List Value) → SameValues xs ys → SameValues (present xs) (present ys)
same_present xs ys h = SameValues-filter is_present xs ys h

same_sum : (xs ys : List Value) → SameValues xs ys → sum_of xs ≡ sum_of ys
same_sum xs ys h =
    let here = same_present xs ys h in
    same_unless_empty (present xs) (present ys) (wrapped_long (total (present xs))) (same_length (present xs) (present ys) here)
    ∙ ap (λ n. unless_empty (present ys) (wrapped_long n)) (same_total (present xs) (present ys) here)

same_count : (distinct : Bool) (xs ys : List Value) → SameValues xs ys → count_of distinct xs ≡ count_of distinct ys
same_count true xs ys h =
    let here = same_different (present xs) (present ys) (same_present xs ys h) in
    ap (λ n. Long (pos n)) (same_length (different (present xs)) (different (present ys)) here)
same_count false xs ys h = ap (λ n. Long (pos n)) (same_length (present xs) (present ys) (same_present xs ys h))

-- ---- least and greatest values

stands : (v : Value) (xs : List Value) → IsOneOf v xs → 0 < copies value_eq value_exact xs v
stands v [] one = absurd one
stands v (x ∷ xs) (inl e) = subst (λ (w : Value). 0 < copies value_eq value_exact (x ∷ xs) w) (sym e) (omega (arith, copies-here value_eq value_exact x xs))
stands v (x ∷ xs) (inr one) = omega (arith, copies-cons value_eq value_exact x xs v, stands v xs one)

not_apart : (o : Ordering) → is_gt o ≡ false → is_gt (ordering_reverse o) ≡ false → o ≡ Equal
not_apart Less g h = cc
not_apart Equal g h = refl
not_apart Greater g h = cc

-- two values that bound each other are the same
between : (a b : Value) → IsAtMost a b → IsAtMost b a → a ≡ b
between a b g h = (values_exact a b).0 (not_apart (value_cmp a b) g (ap is_gt (sym (values_ordered.antisymm b a)) ∙ h))

-- a value among the first list is at least one that bounds the second
bounds : (low v : Value) (xs ys : List Value) → SameValues xs ys → AllByRecursion (IsAtMost low) ys → IsOneOf v xs → IsAtMost low v
bounds low v xs ys h all one =
    copies-from_All value_eq value_exact (IsAtMost low) ys all v (subst (λ n. 0 < n) (h v) (stands v xs one))

bounds_above : (high v : Value) (xs ys : List Value) → SameValues xs ys → AllByRecursion (λ w. IsAtMost w high) ys → IsOneOf v xs → IsAtMost v high
bounds_above high v xs ys h all one =
    copies-from_All value_eq value_exact (λ w. IsAtMost w high) ys all v (subst (λ n. 0 < n) (h v) (stands v xs one))

same-sym : (xs ys : List Value) → SameValues xs ys → SameValues ys xs
same-sym xs ys h v = sym (h v)

some-cons : (x : Value) (xs : List Value) → (x ∷ xs) ≢ []
some-cons x xs e = cc

-- the present values are given as lists of their own, so that a least value of none is null
same_least_of : (xs ys us vs : List Value) → present xs ≡ us → present ys ≡ vs → SameValues us vs → least xs ≡ least ys
same_least_of xs ys [] [] d e h = ap (λ (ws : List Value). unwrap_or (reduce (ord_min value_cmp) ws) Null) (d ∙ sym e)
same_least_of xs ys [] (v ∷ vs) d e h = absurd (omega (arith, same_length [] (v ∷ vs) h))
same_least_of xs ys (u ∷ us) [] d e h = absurd (omega (arith, same_length (u ∷ us) [] h))
same_least_of xs ys (u ∷ us) (v ∷ vs) d e h =
    let both : SameValues (present xs) (present ys) = subst₂ SameValues (sym d) (sym e) h in
    between (least xs) (least ys)
    (bounds (least xs) (least ys) (present ys) (present xs) (same-sym (present xs) (present ys) both) (extremes.least_bounds xs) (extremes.least_reached ys (λ f. some-cons v vs (sym e ∙ f))))
    (bounds (least ys) (least xs) (present xs) (present ys) both (extremes.least_bounds ys) (extremes.least_reached xs (λ f. some-cons u us (sym d ∙ f))))

same_greatest_of : (xs ys us vs : List Value) → present xs ≡ us → present ys ≡ vs → SameValues us vs → greatest xs ≡ greatest ys
same_greatest_of xs ys [] [] d e h = ap (λ (ws : List Value). unwrap_or (reduce (ord_max value_cmp) ws) Null) (d ∙ sym e)
same_greatest_of xs ys [] (v ∷ vs) d e h = absurd (omega (arith, same_length [] (v ∷ vs) h))
same_greatest_of xs ys (u ∷ us) [] d e h = absurd (omega (arith, same_length (u ∷ us) [] h))
same_greatest_of xs ys (u ∷ us) (v ∷ vs) d e h =
    let both : SameValues (present xs) (present ys) = subst₂ SameValues (sym d) (sym e) h in
    between (greatest xs) (greatest ys)
    (bounds_above (greatest ys) (greatest xs) (present xs) (present ys) both (extremes.greatest_bounds ys) (extremes.greatest_reached xs (λ f. some-cons u us (sym d ∙ f))))
    (bounds_above (greatest xs) (greatest ys) (present ys) (present xs) (same-sym (present xs) (present ys) both) (extremes.greatest_bounds xs) (extremes.greatest_reached ys (λ f. some-cons v vs (sym e ∙ f))))

same_least : (xs ys : List Value) → SameValues xs ys → least xs ≡ least ys
same_least xs ys h = same_least_of xs ys (present xs) (present ys) refl refl (same_present xs ys h)

same_greatest : (xs ys : List Value) → SameValues xs ys → greatest xs ≡ greatest ys
same_greatest xs ys h = same_greatest_of xs ys (present xs) (present ys) refl refl (same_present xs ys h)

-- ---- calls

same_aggregate : (function : Function) (distinct : Bool) (xs ys : List Value) → SameValues xs ys → aggregate_of function distinct xs ≡ aggregate_of function distinct ys
unfolding aggregate_of
same_aggregate Function.Count distinct xs ys h = same_count distinct xs ys h
same_aggregate Function.Sum distinct xs ys h = same_sum xs ys h
same_aggregate Function.Min distinct xs ys h = same_least xs ys h
same_aggregate Function.Max distinct xs ys h = same_greatest xs ys h
same_aggregate other distinct xs ys h = refl

same_rows_aggregate : (function : Function) (xs ys : List Row) → length xs ≡ length ys → rows_aggregate_of function xs ≡ rows_aggregate_of function ys
unfolding rows_aggregate_of
same_rows_aggregate Function.Count xs ys h = ap (λ n. Long (pos n)) h
same_rows_aggregate other xs ys h = refl

same_called : (function : Function) (distinct : Bool) (argument : Option TypedExpr) (xs ys : List Row) → SameCounts xs ys
    → called_over function distinct argument xs ≡ called_over function distinct argument ys
same_called function distinct None xs ys h = same_rows_aggregate function xs ys (length-SameCounts xs ys h)
same_called function distinct (Some argument) xs ys h =
    same_aggregate function distinct (map (λ row. val argument row) xs) (map (λ row. val argument row) ys) (SameValues-map (val argument) xs ys h)

-- the value of a call is that over the same rows in another order
pub call_value-SameCounts : (call : AggregateCall) (xs ys : List Row) → SameCounts xs ys → call_value call xs ≡ call_value call ys
call_value-SameCounts call xs ys h = same_called call.function call.distinct call.argument xs ys h

pub calls_ignore_order : CallsIgnoreOrder
calls_ignore_order = call_value-SameCounts

-- ---- distinct counts

different_counted : (values different : List Value) → AreDifferent different values → count_of true values ≡ Long (pos (length different))
different_counted values others h =
    ap (λ n. Long (pos n)) (same_length (different (present values)) others (λ v. different-once (present values) v ∙ sym (h v)))

pub distinct_values_counted : DistinctValuesAreCounted
distinct_values_counted = record { counted = different_counted; there_are = λ values. (different (present values), different-once (present values)) }
