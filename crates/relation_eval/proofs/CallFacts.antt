-- Aggregates over values that come one by one.
use Rattle.std.proofs.Common.{◌≡◌, ◌≢◌, ◌<◌, ◌≤◌, ℕ, ◌+◌, ◌-◌, ℤ, pos, ◌+ℤ◌, Bool, true, false, cond, List, [], ◌∷◌, ◌++◌, append-nil, map, length, take, drop, get_or, refl, sym, ap, ◌∙◌, arith}
use Rattle.std.specs.Prelude.{◌||◌, Option, Some, fold, unwrap_or, IsPermutation, min}
use Rattle.std.specs.Int.{w64, int_wrap}
use Rattle.std.specs.List.{AllByRecursion, list_any, reduce}
use Rattle.std.specs.List.Sorted.{IsSortedBy}
use Rattle.std.specs.Cmp.{IsStrictWeakOrder}
use Rattle.std.specs.declared.cmp.Ordering.{Ordering}
use Rattle.std.specs.declared.cmp.Ordering.TheVariants.{Less, Equal, Greater}
use Rattle.std.specs.Ordering.{is_lt, is_eq, ordering_reverse}
use Rattle.std.proofs.lemmas.Bool.{false≢true}
use Rattle.std.proofs.lemmas.Int.{ints, int_wrap-add_left}
use Rattle.std.proofs.lemmas.List.{map-append, take_more, at_drop_more, drop_all, get_or-map, get_or_default, get_or_read, get_or-drop, length-drop, length-map}
use Rattle.std.proofs.lemmas.List.Elements.{filter-append, recursion_from_All}
use Rattle.std.proofs.lemmas.List.Sorted.{ranks_by, sorted_far, length_permutation}
use Rattle.cn_types.specs.declared.row.Row.{Row}
use Rattle.cn_types.specs.declared.value.Value.{Value}
use Rattle.cn_types.specs.declared.value.Value.TheVariants.{Null, Boolean, Integer, Long, Text, Date}
use Rattle.cn_types.specs.Order.{value_cmp, value_eq}
use Rattle.cn_types.proofs.OrderFacts.{values_ordered}
use Rattle.plan_model.specs.declared.expression.TypedExpr.{TypedExpr}
use Rattle.plan_model.specs.declared.function.Function.{Function}
use Rattle.plan_model.specs.Aggregates.{present, different, total, unless_empty, sum_of, aggregate_of, rows_aggregate_of}
use Rattle.plan_model.specs.Arithmetic.{number, wrapped_long}
use Rattle.plan_model.specs.Truth.{is_present}
use Rattle.plan_model.specs.Val.{val}
use Rattle.plan_model.proofs.AggregateFacts.{total-append}
use Rattle.plan_model.proofs.AggregateOrder.{different-once}
use Rattle.plan_model.proofs.Multisets.{permuted, same_from_permutation}
use Rattle.plan_model.proofs.RowCounts.{value_exact}
use Rattle.expr_eval.specs.Operands.{operand_value}
use Rattle.expr_eval.specs.declared.operand.Operand.{Operand}
use Rattle.relation_eval.specs.Calls.{term_of, sum_with, some_unless_empty, sum_there, long_of, better, best_with, best_there, operand_before}
use Rattle.relation_eval.specs.Members.{empty_row, row_at, rows_at, values_at}

-- ---- one value more

pub values_next : (argument : TypedExpr) (rows : List Row) (places : List ℕ) (i : ℕ) (row : Row) → i < length places → get_or places i 0 < length rows → row ≡ get_or rows (get_or places i 0) row
    → values_at argument rows (take (i + 1) places) ≡ values_at argument rows (take i places) ++ val argument row ∷ []
values_next argument rows places i row h within r =
    let here : row_at rows (get_or places i 0) ≡ row = sym (get_or_read rows (get_or places i 0) row within r empty_row) in
    ap (λ (ps : List ℕ). values_at argument rows ps) (take_more places i 0 h)
    ∙ ap (λ (rs : List Row). map (λ x. val argument x) rs) (map-append (row_at rows) (take i places) (get_or places i 0 ∷ []))
    ∙ map-append (λ x. val argument x) (rows_at rows (take i places)) (row_at rows (get_or places i 0) ∷ [])
    ∙ ap (λ x. values_at argument rows (take i places) ++ val argument x ∷ []) here

pub present-some : (xs : List Value) (v : Value) → is_present v ≡ true → present (xs ++ v ∷ []) ≡ present xs ++ v ∷ []
present-some xs v h = filter-append is_present xs (v ∷ []) ∙ ap (λ (b : Bool). present xs ++ cond b (v ∷ []) []) h

pub present-none : (xs : List Value) (v : Value) → is_present v ≡ false → present (xs ++ v ∷ []) ≡ present xs
present-none xs v h = filter-append is_present xs (v ∷ []) ∙ ap (λ (b : Bool). present xs ++ cond b (v ∷ []) []) h ∙ append-nil (present xs)

-- ---- sums

total-one : (xs : List Value) (v : Value) → total (xs ++ v ∷ []) ≡ (total xs +ℤ unwrap_or (number v) (pos 0))
total-one xs v = omega (arith, ints, total-append xs (v ∷ []))

some-more : (xs : List Value) (v : Value) (n : ℤ) → some_unless_empty (xs ++ v ∷ []) n ≡ Some n
some-more [] v n = refl
some-more (x ∷ xs) v n = refl

none_first : (n : ℤ) → (pos 0 +ℤ n) ≡ n
none_first n = omega (arith, ints)

wrapped-more : (ys : List Value) (n : ℤ) → int_wrap w64 (total ys +ℤ n) ≡ int_wrap w64 (unwrap_or (some_unless_empty ys (int_wrap w64 (total ys))) (pos 0) +ℤ n)
wrapped-more [] n = refl
wrapped-more (y ∷ ys) n = sym (int_wrap-add_left w64 (total (y ∷ ys)) n)

sum_present : (ys : List Value) (v : Value) → some_unless_empty (ys ++ v ∷ []) (int_wrap w64 (total (ys ++ v ∷ []))) ≡ sum_with (some_unless_empty ys (int_wrap w64 (total ys))) (Some (unwrap_or (number v) (pos 0)))
sum_present ys v =
    some-more ys v (int_wrap w64 (total (ys ++ v ∷ [])))
    ∙ ap (λ (n : ℤ). Some (int_wrap w64 n)) (total-one ys v)
    ∙ ap (λ (n : ℤ). Some n) (wrapped-more ys (unwrap_or (number v) (pos 0)))

sum_of_present : (xs : List Value) (v : Value) → is_present v ≡ true → sum_there (xs ++ v ∷ []) ≡ sum_with (sum_there xs) (Some (unwrap_or (number v) (pos 0)))
sum_of_present xs v h = ap (λ (ys : List Value). some_unless_empty ys (int_wrap w64 (total ys))) (present-some xs v h) ∙ sum_present (present xs) v

sum-next : (xs : List Value) (v : Value) → sum_there (xs ++ v ∷ []) ≡ sum_with (sum_there xs) (term_of v)
sum-next xs Null = ap (λ (ys : List Value). some_unless_empty ys (int_wrap w64 (total ys))) (present-none xs Null refl)
sum-next xs (Boolean b) = sum_of_present xs (Boolean b) refl
sum-next xs (Integer n) = sum_of_present xs (Integer n) refl
sum-next xs (Long n) = sum_of_present xs (Long n) refl
sum-next xs (Text t) = sum_of_present xs (Text t) refl
sum-next xs (Date d) = sum_of_present xs (Date d) refl

pub sum_step : (xs ys : List Value) (v : Value) (sum more term : Option ℤ) → ys ≡ xs ++ v ∷ [] → sum ≡ sum_there xs → term ≡ term_of v → more ≡ sum_with sum term → more ≡ sum_there ys
sum_step xs ys v sum more term e s t m = m ∙ ap (λ o. sum_with o term) s ∙ ap (λ o. sum_with (sum_there xs) o) t ∙ sym (sum-next xs v) ∙ ap (λ (vs : List Value). sum_there vs) (sym e)

long_unless : (ys : List Value) (n : ℤ) → long_of (some_unless_empty ys (int_wrap w64 n)) ≡ unless_empty ys (wrapped_long n)
long_unless [] n = refl
long_unless (y ∷ ys) n = refl

pub sum_is : (values : List Value) → long_of (sum_there values) ≡ sum_of values
sum_is values = long_unless (present values) (total (present values))

-- ---- greatest and least values

fold-more : (f : Value → Value → Value) (a : Value) (xs : List Value) (v : Value) → fold f a (xs ++ v ∷ []) ≡ f (fold f a xs) v
fold-more f a [] v = refl
fold-more f a (x ∷ xs) v = fold-more f (f a x) xs v

best_present : (greatest : Bool) (ys : List Value) (v : Value) → is_present v ≡ true → reduce (better greatest) (ys ++ v ∷ []) ≡ best_with greatest (reduce (better greatest) ys) v
best_present greatest [] Null h = cc
best_present greatest [] v h = refl
best_present greatest (y ∷ ys) Null h = cc
best_present greatest (y ∷ ys) v h = ap (λ w. Some w) (fold-more (better greatest) y ys v)

best_of_present : (greatest : Bool) (xs : List Value) (v : Value) → is_present v ≡ true → best_there greatest (xs ++ v ∷ []) ≡ best_with greatest (best_there greatest xs) v
best_of_present greatest xs v h = ap (λ (ys : List Value). reduce (better greatest) ys) (present-some xs v h) ∙ best_present greatest (present xs) v h

best-next : (greatest : Bool) (xs : List Value) (v : Value) → best_there greatest (xs ++ v ∷ []) ≡ best_with greatest (best_there greatest xs) v
best-next greatest xs Null = ap (λ (ys : List Value). reduce (better greatest) ys) (present-none xs Null refl)
best-next greatest xs (Boolean b) = best_of_present greatest xs (Boolean b) refl
best-next greatest xs (Integer n) = best_of_present greatest xs (Integer n) refl
best-next greatest xs (Long n) = best_of_present greatest xs (Long n) refl
best-next greatest xs (Text t) = best_of_present greatest xs (Text t) refl
best-next greatest xs (Date d) = best_of_present greatest xs (Date d) refl

pub best_step : (greatest : Bool) (xs ys : List Value) (v w : Value) (best more : Option Value) → ys ≡ xs ++ v ∷ [] → best ≡ best_there greatest xs → w ≡ v → more ≡ best_with greatest best w → more ≡ best_there greatest ys
best_step greatest xs ys v w best more e b f m =
    m ∙ ap (λ o. best_with greatest o w) b ∙ ap (λ x. best_with greatest (best_there greatest xs) x) f ∙ sym (best-next greatest xs v) ∙ ap (λ (vs : List Value). best_there greatest vs) (sym e)

-- ---- different values in order

pub operands_ordered : IsStrictWeakOrder operand_before
operands_ordered = ranks_by values_ordered operand_value

is_lt_reverse : (o : Ordering) → is_lt o ≡ false → is_lt (ordering_reverse o) ≡ false → is_eq o ≡ true
is_lt_reverse Less g h = cc
is_lt_reverse Equal g h = refl
is_lt_reverse Greater g h = cc

-- a value between two that are the same
between : (v w x : Value) → value_eq v x ≡ true → is_lt (value_cmp w v) ≡ false → is_lt (value_cmp x w) ≡ false → value_eq v w ≡ true
between v w x e low high =
    let same : v ≡ x = (value_exact v x).0 e in
    is_lt_reverse (value_cmp v w) (ap (λ y. is_lt (value_cmp y w)) same ∙ high) (ap is_lt (sym (values_ordered.antisymm w v)) ∙ low)

any_where : (v w : Value) (rest : List Value) (b : Bool) → value_eq v w ≡ b → is_lt (value_cmp w v) ≡ false → AllByRecursion (λ x. is_lt (value_cmp x w) ≡ false) rest → list_any (value_eq v) (w ∷ rest) ≡ b
any_where v w rest true e low all = ap (λ (c : Bool). c || list_any (value_eq v) rest) e
any_where v w rest false e low all = ap (λ (c : Bool). c || list_any (value_eq v) rest) e ∙ none rest all
  where
    none_here : (x : Value) (c : Bool) → value_eq v x ≡ c → is_lt (value_cmp x w) ≡ false → c ≡ false
    none_here x true f high = absurd (false≢true (sym e ∙ between v w x f low high))
    none_here x false f high = refl

    none : (xs : List Value) → AllByRecursion (λ x. is_lt (value_cmp x w) ≡ false) xs → list_any (value_eq v) xs ≡ false
    none [] later = refl
    none (x ∷ xs) later = ap (λ (c : Bool). c || list_any (value_eq v) xs) (none_here x (value_eq v x) refl later.0) ∙ none xs later.1

-- in order, a value that stands again stands at the next place
module _ (operands : List Operand) (up : IsSortedBy operand_before operands) where
  abbrev values : List Value
  values = map operand_value operands

  value_of : (k : ℕ) (d : Operand) → k < length operands → get_or values k Null ≡ operand_value (get_or operands k d)
  value_of k d h = get_or-map operand_value operands k d Null h

  not_before : (i j : ℕ) (d : Operand) → i ≤ j → j < length operands → is_lt (value_cmp (get_or values j Null) (get_or values i Null)) ≡ false
  not_before i j d h k =
      ap (λ x. is_lt (value_cmp x (get_or values i Null))) (value_of j d k)
      ∙ ap (λ x. is_lt (value_cmp (operand_value (get_or operands j d)) x)) (value_of i d (omega arith))
      ∙ sorted_far operand_before operands_ordered operands up i j d h k

  later_not_before : (i : ℕ) (d : Operand) → AllByRecursion (λ x. is_lt (value_cmp x (get_or values i Null)) ≡ false) (drop (i + 1) values)
  later_not_before i d =
      recursion_from_All (λ x. is_lt (value_cmp x (get_or values i Null)) ≡ false) (drop (i + 1) values)
      (λ k e h.
      let long : length (drop (i + 1) values) ≡ length operands - (i + 1) = length-drop (i + 1) values ∙ ap (λ n. n - (i + 1)) (length-map operands operand_value) in
      let within : (i + 1) + k < length operands = omega arith in
      let there : get_or (drop (i + 1) values) k e ≡ get_or values ((i + 1) + k) Null =
      get_or-drop (i + 1) values k e ∙ get_or_default values ((i + 1) + k) e Null (omega (arith, length-map operands operand_value)) in
      ap (λ x. is_lt (value_cmp x (get_or values i Null))) there ∙ not_before i ((i + 1) + k) d (omega arith) within)

  pub again_next : (place : ℕ) (d : Operand) → place + 1 < length operands
      → list_any (value_eq (get_or values place Null)) (drop (place + 1) values) ≡ value_eq (get_or values place Null) (get_or values (place + 1) Null)
  again_next place d h =
      at_drop_more (λ vs. list_any (value_eq (get_or values place Null)) vs) values (place + 1) Null (omega (arith, length-map operands operand_value))
      ∙ any_where (get_or values place Null) (get_or values (place + 1) Null) (drop ((place + 1) + 1) values) _ refl (not_before place (place + 1) d (omega arith) h) (later_not_before (place + 1) d)

pub again_last : (operands : List Operand) (place : ℕ) → length operands ≤ place + 1
    → list_any (value_eq (get_or (map operand_value operands) place Null)) (drop (place + 1) (map operand_value operands)) ≡ false
again_last operands place h = ap (λ (vs : List Value). list_any (value_eq (get_or (map operand_value operands) place Null)) vs) (drop_all (place + 1) (map operand_value operands) (omega (arith, length-map operands operand_value)))

different_where : (v : Value) (rest : List Value) (b : Bool) → length (cond b (different rest) (v ∷ different rest)) ≡ cond b 0 1 + length (different rest)
different_where v rest true = omega arith
different_where v rest false = omega arith

again_count : (n m rest : ℕ) (again : Bool) → m ≡ cond again 0 1 + rest → cond again n (n + 1) + rest ≡ n + m
again_count n m rest true e = omega arith
again_count n m rest false e = omega arith

-- one place more of the values
pub different_next : (values : List Value) (place : ℕ) (again : Bool) → place < length values → again ≡ list_any (value_eq (get_or values place Null)) (drop (place + 1) values)
    → length (different (drop place values)) ≡ cond again 0 1 + length (different (drop (place + 1) values))
different_next values place again h e =
    let rest = drop (place + 1) values in
    at_drop_more (λ vs. length (different vs)) values place Null h
    ∙ ap (λ (b : Bool). length (cond b (different rest) (get_or values place Null ∷ different rest))) (sym e)
    ∙ different_where (get_or values place Null) rest again

-- the different values of a list in another order
pub different_permuted : (xs ys : List Value) → IsPermutation xs ys → length (different ys) ≡ length (different xs)
different_permuted xs ys p =
    length_permutation (different xs) (different ys)
    (permuted value_eq value_exact (different xs) (different ys) (λ v. different-once xs v ∙ ap (λ n. min n 1) (same_from_permutation value_eq value_exact xs ys p v) ∙ sym (different-once ys v)))

-- ---- functions that are no aggregates

pub no_aggregate : (function : Function) (distinct : Bool) (xs : List Value) → function ≢ Function.Count → function ≢ Function.Sum → function ≢ Function.Min → function ≢ Function.Max → aggregate_of function distinct xs ≡ Null
unfolding aggregate_of
no_aggregate Function.Count distinct xs c s l g = absurd (c refl)
no_aggregate Function.Sum distinct xs c s l g = absurd (s refl)
no_aggregate Function.Min distinct xs c s l g = absurd (l refl)
no_aggregate Function.Max distinct xs c s l g = absurd (g refl)
no_aggregate other distinct xs c s l g = refl

pub no_rows_aggregate : (function : Function) (rows : List Row) → function ≢ Function.Count → rows_aggregate_of function rows ≡ Null
unfolding rows_aggregate_of
no_rows_aggregate Function.Count rows c = absurd (c refl)
no_rows_aggregate other rows c = refl
