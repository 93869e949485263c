-- The rows that a well-formed relation allows are in range.
use Rattle.std.proofs.Common.{◌≡◌, ◌<◌, ◌≤◌, ◌^◌, ℕ, zero, suc, ℤ, pos, negsuc, ◌<ℤ◌, Bool, not, Option, None, Some, Ok, List, [], ◌∷◌, ◌++◌, map, length, filter, replicate, take, drop, ◌⊎◌, sym, subst, inl, inr, lit<, arith}
use Rattle.std.specs.Prelude.{IfSome, ◌≤ℤ◌}
use Rattle.std.specs.List.{AllByRecursion, AllZip, flat_map}
use Rattle.std.proofs.lemmas.Int.{ints}
use Rattle.std.proofs.lemmas.List.Elements.{All-from_recursion, recursion_from_All, All-take, All-drop}
use Rattle.cn_types.specs.declared.row.Row.{Row}
use Rattle.cn_types.specs.declared.value.DataType.{DataType}
use Rattle.cn_types.specs.declared.value.Value.{Value}
use Rattle.cn_types.specs.declared.value.Value.TheVariants.{Null}
use Rattle.cn_types.specs.Fit.{FitsTypes, IsLong, IsValue}
use Rattle.cn_types.specs.Order.{count, row_eq}
use Rattle.plan_model.specs.declared.expression.TypedExpr.{TypedExpr}
use Rattle.plan_model.specs.declared.node.AggregateCall.{AggregateCall}
use Rattle.plan_model.specs.declared.node.JoinKind.{JoinKind}
use Rattle.plan_model.specs.declared.node.Node.{Node}
use Rattle.plan_model.specs.declared.node.Node.TheOpen as O
use Rattle.plan_model.specs.declared.node.Node.TheVariants as V
use Rattle.plan_model.specs.declared.node.SetKind.{SetKind}
use Rattle.plan_model.specs.Aggregates.{call_value}
use Rattle.plan_model.specs.Allows.{Allows, joining_of}
use Rattle.plan_model.specs.Counts.{SameCounts}
use Rattle.plan_model.specs.Groups.{key_values, group, key_and_calls, aggregated, IsAggregate, IsDistinctOn}
use Rattle.plan_model.specs.Joins.{Joining, beside, pairs, has_right, has_left, left_alone, right_alone, joined, IsJoin}
use Rattle.plan_model.specs.NodeTypes.{kinds_of, types}
use Rattle.plan_model.specs.Outcomes.{Allowed, Bounded, After, row_limit}
use Rattle.plan_model.specs.Ranges.{IsNumberOf, IsRange}
use Rattle.plan_model.specs.Selections.{image, projected, selected, sliced}
use Rattle.plan_model.specs.SetOperations.{IsSetOperation}
use Rattle.plan_model.specs.Sorting.{IsSort}
use Rattle.plan_model.specs.Truth.{is_true}
use Rattle.plan_model.specs.Val.{val}
use Rattle.plan_model.specs.ValueRanges.{HasValuesInRange, HasLiteralsInRange, IsNodeInRange, HasContentInRange, RowsAreInRange}
use Rattle.plan_model.specs.WellFormed.{IsOver, IsCallOver, IsAggregation, IsSound, IsWellFormed}
use Rattle.plan_model.proofs.AllowsFacts.{Allows-Rows, Allows-Range, Allows-Project, Allows-Filter, Allows-Join, Allows-SetOp, Allows-Aggregate, Allows-DistinctOn, Allows-Sort, Allows-Slice}
use Rattle.plan_model.proofs.Fitting.{both_have, keys_fit, calls_fit, in_one, rows_have_the_types}
use Rattle.plan_model.proofs.Multisets.{AllByRecursion-filter}
use Rattle.plan_model.proofs.NodeFacts.{Cases, induct, every_here, every_input}
use Rattle.plan_model.proofs.OutcomeFacts.{bounded_rows, after_rows}
use Rattle.plan_model.proofs.RangeFacts.{goes, Goes, number_at-up, number_at-down}
use Rattle.plan_model.proofs.RelationFacts.{rows_within_limits}
use Rattle.plan_model.proofs.RowCounts.{SameCounts-permutation, SameCounts-sym, All-from_counts, counts-from_All}
use Rattle.plan_model.proofs.ValueRangeFacts.{value_in_range, called_in_range, filter-le}

-- the values of a row, and of rows, are in range
abbrev Ranged : Row → Type 0
Ranged row = AllByRecursion IsValue row.0

abbrev AllRanged : List Row → Type 0
AllRanged rows = AllByRecursion Ranged rows

abbrev AllFit : List DataType → List Row → Type 0
AllFit kinds rows = AllByRecursion (FitsTypes kinds) rows

same_ranged : (xs ys : List Row) → SameCounts xs ys → AllRanged ys → AllRanged xs
same_ranged xs ys h all = All-from_counts Ranged xs (λ row more. counts-from_All Ranged ys all row (subst (λ n. 0 < n) (h row) more))

pub both_all : (P : Value → Type 0) (xs ys : List Value) → AllByRecursion P xs → AllByRecursion P ys → AllByRecursion P (xs ++ ys)
both_all P [] ys f g = g
both_all P (x ∷ xs) ys f g = (f.0, both_all P xs ys f.1 g)

both_ranged : (xs ys : List Row) → AllRanged xs → AllRanged ys → AllRanged (xs ++ ys)
both_ranged [] ys f g = g
both_ranged (x ∷ xs) ys f g = (f.0, both_ranged xs ys f.1 g)

map_ranged : (f : Row → Row) (rows : List Row) → ((row : Row) → Ranged row → Ranged (f row)) → AllRanged rows → AllRanged (map f rows)
map_ranged f [] h all = tt
map_ranged f (row ∷ rows) h all = (h row all.0, map_ranged f rows h all.1)

flat_map_ranged : (f : Row → List Row) (rows : List Row) → ((row : Row) → Ranged row → AllRanged (f row)) → AllRanged rows → AllRanged (flat_map f rows)
flat_map_ranged f [] h all = tt
flat_map_ranged f (row ∷ rows) h all = both_ranged (f row) (flat_map f rows) (h row all.0) (flat_map_ranged f rows h all.1)

-- ---- images

image_ranged : (columns : List DataType) (items : List TypedExpr) (row : Row) → AllByRecursion (IsOver columns) items → AllByRecursion HasLiteralsInRange items → FitsTypes columns row → Ranged row → Ranged (image items row)
image_ranged columns [] row over literals fits values = tt
image_ranged columns (item ∷ items) row over literals fits values =
    (value_in_range columns item row over.0 literals.0 fits values, image_ranged columns items row over.1 literals.1 fits values)

images_ranged : (columns : List DataType) (items : List TypedExpr) (rows : List Row) → AllByRecursion (IsOver columns) items → AllByRecursion HasLiteralsInRange items → AllFit columns rows → AllRanged rows
    → AllRanged (map (image items) rows)
images_ranged columns items [] over literals fits values = tt
images_ranged columns items (row ∷ rows) over literals fits values =
    (image_ranged columns items row over literals fits.0 values.0, images_ranged columns items rows over literals fits.1 values.1)

-- ---- joins

nulls_ranged : (n : ℕ) → AllByRecursion IsValue (replicate n Null)
nulls_ranged zero = tt
nulls_ranged (suc n) = (tt, nulls_ranged n)

module _ (joining : Joining) (left_nulls : Ranged joining.left_nulls) (right_nulls : Ranged joining.right_nulls) (a b : List Row) (f : AllRanged a) (g : AllRanged b) where
  beside_ranged : (left right : Row) → Ranged left → Ranged right → Ranged (beside left right)
  beside_ranged left right p q = both_all IsValue left.0 right.0 p q

  pairs_ranged : AllRanged (pairs joining a b)
  pairs_ranged =
      flat_map_ranged (λ left. map (beside left) (filter (joining.matching left) b)) a
      (λ left p. map_ranged (beside left) (filter (joining.matching left) b) (λ right q. beside_ranged left right p q) (AllByRecursion-filter Ranged (joining.matching left) b g)) f

  left_alone_ranged : AllRanged (left_alone joining a b)
  left_alone_ranged =
      map_ranged (λ left. beside left joining.right_nulls) (filter (λ left. not (has_right joining b left)) a) (λ left p. beside_ranged left joining.right_nulls p right_nulls)
      (AllByRecursion-filter Ranged (λ left. not (has_right joining b left)) a f)

  right_alone_ranged : AllRanged (right_alone joining a b)
  right_alone_ranged =
      map_ranged (λ right. beside joining.left_nulls right) (filter (λ right. not (has_left joining a right)) b) (λ right q. beside_ranged joining.left_nulls right left_nulls q)
      (AllByRecursion-filter Ranged (λ right. not (has_left joining a right)) b g)

  joined_ranged : (kind : JoinKind) → AllRanged (joined kind joining a b)
  joined_ranged JoinKind.Inner = pairs_ranged
  joined_ranged JoinKind.Cross = pairs_ranged
  joined_ranged JoinKind.Left = both_ranged (pairs joining a b) (left_alone joining a b) pairs_ranged left_alone_ranged
  joined_ranged JoinKind.Right = both_ranged (pairs joining a b) (right_alone joining a b) pairs_ranged right_alone_ranged
  joined_ranged JoinKind.Full =
      both_ranged (pairs joining a b ++ left_alone joining a b) (right_alone joining a b) (both_ranged (pairs joining a b) (left_alone joining a b) pairs_ranged left_alone_ranged) right_alone_ranged
  joined_ranged JoinKind.Semi = AllByRecursion-filter Ranged (has_right joining b) a f
  joined_ranged JoinKind.Anti = AllByRecursion-filter Ranged (λ left. not (has_right joining b left)) a f

-- ---- set operations and slices

from_one : (a b : List Row) (row : Row) → AllRanged a → AllRanged b → (0 < count a row) ⊎ (0 < count b row) → Ranged row
from_one a b row f g (inl h) = counts-from_All Ranged a f row h
from_one a b row f g (inr h) = counts-from_All Ranged b g row h

set_operation_ranged : (kind : SetKind) (all : Bool) (a b rows : List Row) → AllRanged a → AllRanged b → IsSetOperation kind all a b rows → AllRanged rows
set_operation_ranged kind all a b rows f g h =
    All-from_counts Ranged rows (λ row more. from_one a b row f g (in_one kind all (count a row) (count b row) (subst (λ n. 0 < n) (h row) more)))

sliced_ranged : (skip : ℕ) (most : Option ℕ) (a : List Row) → AllRanged a → AllRanged (sliced skip most a)
sliced_ranged skip None a all = recursion_from_All Ranged (drop skip a) (All-drop Ranged skip a (All-from_recursion Ranged a all))
sliced_ranged skip (Some most) a all =
    recursion_from_All Ranged (take most (drop skip a)) (All-take Ranged most (drop skip a) (All-drop Ranged skip a (All-from_recursion Ranged a all)))

-- ---- ranges

below : (m n : ℕ) → m ≤ n → n < 2 ^ 63 → m < 2 ^ 63
below m n p q = omega arith

between_longs : (low high number : ℤ) → IsLong low → IsLong high → low ≤ℤ number → number ≤ℤ high → IsLong number
between_longs low (pos m) (pos n) l h p q = let bound : n ≤ m = omega (arith, ints) in record { sfits = below n m bound h.sfits }
between_longs low (negsuc m) (pos n) l h p q = absurd q.le
between_longs (pos m) high (negsuc n) l h p q = absurd p.le
between_longs (negsuc m) high (negsuc n) l h p q = let bound : n ≤ m = omega (arith, ints) in record { sfits = below n m bound l.sfits }

number_ranged : (start end step number : ℤ) → Goes step → IsLong start → IsLong end → IsNumberOf start end step number → IsLong number
number_ranged start end step number (inl up) l h is =
    between_longs start end number l h (subst (λ z. start ≤ℤ z) is.is (number_at-up start step is.place up)) (let below : number <ℤ end = is.before.rising up in omega (arith, ints))
number_ranged start end step number (inr down) l h is =
    between_longs end start number h l (let above : end <ℤ number = is.before.falling down in omega (arith, ints)) (subst (λ z. z ≤ℤ start) is.is (number_at-down start step is.place down))

range_ranged : (start end step : ℤ) (rows : List Row) → Goes step → IsLong start → IsLong end → IsRange start end step rows → AllRanged rows
range_ranged start end step rows way l h is =
    All-from_counts Ranged rows (λ row more. let n = is.no_other row more in subst Ranged (sym n.2) (number_ranged start end step n.0 way l h n.1, tt))

-- ---- aggregates

calls_ranged : (columns kinds : List DataType) (calls : List AggregateCall) (rows : List Row) → AllZip (IsCallOver columns) calls kinds → AllByRecursion (λ call. IfSome call.argument HasLiteralsInRange) calls
    → AllFit columns rows → AllRanged rows → length rows < 2 ^ 63 → AllByRecursion IsValue (map (λ c. call_value c rows) calls)
calls_ranged columns kinds [] rows over literals fits values few = tt
calls_ranged columns [] (call ∷ calls) rows over literals fits values few = absurd over
calls_ranged columns (kind ∷ kinds) (call ∷ calls) rows over literals fits values few =
    (called_in_range columns call.function call.distinct call.argument rows over.0.argument literals.0 fits values few, calls_ranged columns kinds calls rows over.1 literals.1 fits values few)

keys_ranged : (columns : List DataType) (keys : List TypedExpr) (a : List Row) → AllByRecursion (IsOver columns) keys → AllByRecursion HasLiteralsInRange keys → AllFit columns a → AllRanged a → AllRanged (key_values keys a)
keys_ranged columns [] a over literals fits values = (tt, tt)
keys_ranged columns (key ∷ keys) a over literals fits values = images_ranged columns (key ∷ keys) a over literals fits values

module _ (columns : List DataType) (keys : List TypedExpr) (calls : List AggregateCall) (items : List TypedExpr) (a : List Row) (h : IsAggregation columns keys calls items)
    (key_literals : AllByRecursion HasLiteralsInRange keys) (call_literals : AllByRecursion (λ call. IfSome call.argument HasLiteralsInRange) calls) (item_literals : AllByRecursion HasLiteralsInRange items)
    (fits : AllFit columns a) (values : AllRanged a) (few : length a < 2 ^ 63) where
  -- the rows of a group
  in_group : (P : Row → Type 0) (key : Row) → AllByRecursion P a → AllByRecursion P (group keys a key)
  in_group P key all = AllByRecursion-filter P (λ row. row_eq key (image keys row)) a all

  few_in_group : (key : Row) → length (group keys a key) < 2 ^ 63
  few_in_group key = below (length (group keys a key)) (length a) (filter-le (λ row. row_eq key (image keys row)) a) few

  aggregated_ranged : (key : Row) → FitsTypes (kinds_of keys) key → Ranged key → Ranged (aggregated keys calls items a key)
  aggregated_ranged key key_fits key_values =
      image_ranged (kinds_of keys ++ h.call_types) items (key_and_calls keys calls a key) (recursion_from_All (IsOver (kinds_of keys ++ h.call_types)) items h.items_over) item_literals
      (both_have (kinds_of keys) h.call_types key.0 (map (λ c. call_value c (group keys a key)) calls) key_fits (calls_fit columns h.call_types calls (group keys a key) h.calls_over (in_group (FitsTypes columns) key fits)))
      (both_all IsValue key.0 (map (λ c. call_value c (group keys a key)) calls) key_values
      (calls_ranged columns h.call_types calls (group keys a key) h.calls_over call_literals (in_group (FitsTypes columns) key fits) (in_group Ranged key values) (few_in_group key)))

  each_aggregated : (different : List Row) → AllFit (kinds_of keys) different → AllRanged different → AllRanged (map (aggregated keys calls items a) different)
  each_aggregated [] f g = tt
  each_aggregated (key ∷ different) f g = (aggregated_ranged key f.0 g.0, each_aggregated different f.1 g.1)

  aggregate_ranged : (rows : List Row) → IsAggregate keys calls items a rows → AllRanged rows
  aggregate_ranged rows is =
      let over = recursion_from_All (IsOver columns) keys h.keys_over in
      let among : (key : Row) → 0 < count is.different key → 0 < count (key_values keys a) key = λ key more. omega (arith, is.each_once key) in
      subst AllRanged (sym is.is)
      (each_aggregated is.different
      (All-from_counts (FitsTypes (kinds_of keys)) is.different (λ key more. counts-from_All (FitsTypes (kinds_of keys)) (key_values keys a) (keys_fit columns keys a over fits) key (among key more)))
      (All-from_counts Ranged is.different (λ key more. counts-from_All Ranged (key_values keys a) (keys_ranged columns keys a over key_literals fits values) key (among key more))))

-- ---- relations

abbrev StaysInRange : Node → Type 0
StaysInRange node = IsWellFormed node → HasContentInRange node → (rows : List Row) → Allows node (Ok rows) → AllRanged rows

ranged_at : (node : Node) (P : Allowed) → Allows node ≡ P → ((rows : List Row) → P (Ok rows) → AllRanged rows) → (rows : List Row) → Allows node (Ok rows) → AllRanged rows
ranged_at node P e h rows allowed = h rows (subst (λ (Q : Allowed). Q (Ok rows)) e allowed)

-- a list of the input fits, is in range and is within the limits
record IsInput (node : Node) (a : List Row) : Type 0 where
  fits : AllFit (types node) a
  values : AllRanged a
  few : length a < 2 ^ 63

input_of : (node : Node) → StaysInRange node → IsWellFormed node → HasContentInRange node → (a : List Row) → Allows node (Ok a) → IsInput node a
unfolding row_limit
input_of node stays formed content a allowed = record {
  fits = recursion_from_All (FitsTypes (types node)) a (rows_have_the_types node formed a allowed);
  values = stays formed content a allowed;
  few = below (length a) 4194304 (rows_within_limits node a allowed).0 (lit< tt);
}

ranged_after : (input : Node) (Is : List Row → List Row → Type 0) → StaysInRange input → IsWellFormed input → HasContentInRange input → ((a rows : List Row) → IsInput input a → Is a rows → AllRanged rows)
    → (rows : List Row) → After (Allows input) (λ a. Bounded (Is a)) (Ok rows) → AllRanged rows
ranged_after input Is stays formed content h rows allowed =
    let t = after_rows (Allows input) (λ a. Bounded (Is a)) rows allowed in
    h t.0 rows (input_of input stays formed content t.0 t.1) (bounded_rows (Is t.0) rows t.2)

ranged_after_two : (left right : Node) (Is : List Row → List Row → List Row → Type 0) → StaysInRange left → StaysInRange right → IsWellFormed left → IsWellFormed right → HasContentInRange left → HasContentInRange right
    → ((a b rows : List Row) → AllRanged a → AllRanged b → Is a b rows → AllRanged rows)
    → (rows : List Row) → After (Allows left) (λ a. After (Allows right) (λ b. Bounded (Is a b))) (Ok rows) → AllRanged rows
ranged_after_two left right Is stays_left stays_right formed_left formed_right content_left content_right h rows allowed =
    let s = after_rows (Allows left) (λ a. After (Allows right) (λ b. Bounded (Is a b))) rows allowed in
    let t = after_rows (Allows right) (λ b. Bounded (Is s.0 b)) rows s.2 in
    h s.0 t.0 rows (stays_left formed_left content_left s.0 s.1) (stays_right formed_right content_right t.0 t.1) (bounded_rows (Is s.0 t.0) rows t.2)

each_ranged : (rows : List Row) → AllByRecursion HasValuesInRange rows → AllRanged rows
each_ranged [] all = tt
each_ranged (row ∷ rows) all = (recursion_from_All IsValue row.0 all.0, each_ranged rows all.1)

each_in_range : (rows : List Row) → AllRanged rows → AllByRecursion HasValuesInRange rows
each_in_range [] all = tt
each_in_range (row ∷ rows) all = (All-from_recursion IsValue row.0 all.0, each_in_range rows all.1)

cases : Cases StaysInRange
cases = record {
  rows = λ schema source formed content. ranged_at (V.Rows schema source) (Bounded (λ list. SameCounts list source)) (Allows-Rows schema source)
      (λ rows h. same_ranged rows source (bounded_rows (λ list. SameCounts list source) rows h)
      (each_ranged source (recursion_from_All HasValuesInRange source (every_here IsNodeInRange (V.Rows schema source) (O.Rows schema source) (V.outs-Rows schema source) content))));
  range = λ start end step formed content. ranged_at (V.Range start end step) (Bounded (IsRange start end step)) (Allows-Range start end step)
      (λ rows h.
      let longs = every_here IsNodeInRange (V.Range start end step) (O.Range start end step) (V.outs-Range start end step) content in
      range_ranged start end step rows (goes step (every_here IsSound (V.Range start end step) (O.Range start end step) (V.outs-Range start end step) formed)) longs.0 longs.1
      (bounded_rows (IsRange start end step) rows h));
  project = λ input items stays formed content.
      let below = every_input IsSound (V.Project input items) (O.Project input items) (V.outs-Project input items) formed in
      let inside = every_input IsNodeInRange (V.Project input items) (O.Project input items) (V.outs-Project input items) content in
      let over = recursion_from_All (IsOver (types input)) items (every_here IsSound (V.Project input items) (O.Project input items) (V.outs-Project input items) formed) in
      let literals = recursion_from_All HasLiteralsInRange items (every_here IsNodeInRange (V.Project input items) (O.Project input items) (V.outs-Project input items) content) in
      ranged_at (V.Project input items) (After (Allows input) (λ a. Bounded (λ list. list ≡ projected items a))) (Allows-Project input items)
      (ranged_after input (λ a list. list ≡ projected items a) stays below.0 inside.0
      (λ a rows is e. subst AllRanged (sym e) (images_ranged (types input) items a over literals is.fits is.values)));
  filter = λ input condition stays formed content.
      let below = every_input IsSound (V.Filter input condition) (O.Filter input condition) (V.outs-Filter input condition) formed in
      let inside = every_input IsNodeInRange (V.Filter input condition) (O.Filter input condition) (V.outs-Filter input condition) content in
      ranged_at (V.Filter input condition) (After (Allows input) (λ a. Bounded (λ list. list ≡ selected condition a))) (Allows-Filter input condition)
      (ranged_after input (λ a list. list ≡ selected condition a) stays below.0 inside.0
      (λ a rows is e. subst AllRanged (sym e) (AllByRecursion-filter Ranged (λ row. is_true (val condition row)) a is.values)));
  join = λ left right kind condition stays_left stays_right formed content.
      let below = every_input IsSound (V.Join left right kind condition) (O.Join left right kind condition) (V.outs-Join left right kind condition) formed in
      let inside = every_input IsNodeInRange (V.Join left right kind condition) (O.Join left right kind condition) (V.outs-Join left right kind condition) content in
      let joining = joining_of condition left right in
      ranged_at (V.Join left right kind condition) (After (Allows left) (λ a. After (Allows right) (λ b. Bounded (IsJoin kind joining a b)))) (Allows-Join left right kind condition)
      (ranged_after_two left right (IsJoin kind joining) stays_left stays_right below.0 below.1.0 inside.0 inside.1.0
      (λ a b rows f g is. same_ranged rows (joined kind joining a b) is
      (joined_ranged joining (nulls_ranged (length (types left))) (nulls_ranged (length (types right))) a b f g kind)));
  set_op = λ left right kind all stays_left stays_right formed content.
      let below = every_input IsSound (V.SetOp left right kind all) (O.SetOp left right kind all) (V.outs-SetOp left right kind all) formed in
      let inside = every_input IsNodeInRange (V.SetOp left right kind all) (O.SetOp left right kind all) (V.outs-SetOp left right kind all) content in
      ranged_at (V.SetOp left right kind all) (After (Allows left) (λ a. After (Allows right) (λ b. Bounded (IsSetOperation kind all a b)))) (Allows-SetOp left right kind all)
      (ranged_after_two left right (IsSetOperation kind all) stays_left stays_right below.0 below.1.0 inside.0 inside.1.0 (λ a b rows f g is. set_operation_ranged kind all a b rows f g is));
  aggregate = λ input keys calls items stays formed content.
      let below = every_input IsSound (V.Aggregate input keys calls items) (O.Aggregate input keys calls items) (V.outs-Aggregate input keys calls items) formed in
      let inside = every_input IsNodeInRange (V.Aggregate input keys calls items) (O.Aggregate input keys calls items) (V.outs-Aggregate input keys calls items) content in
      let here = every_here IsSound (V.Aggregate input keys calls items) (O.Aggregate input keys calls items) (V.outs-Aggregate input keys calls items) formed in
      let literals = every_here IsNodeInRange (V.Aggregate input keys calls items) (O.Aggregate input keys calls items) (V.outs-Aggregate input keys calls items) content in
      ranged_at (V.Aggregate input keys calls items) (After (Allows input) (λ a. Bounded (IsAggregate keys calls items a))) (Allows-Aggregate input keys calls items)
      (ranged_after input (IsAggregate keys calls items) stays below.0 inside.0
      (λ a rows is. aggregate_ranged (types input) keys calls items a here (recursion_from_All HasLiteralsInRange keys literals.0)
      (recursion_from_All (λ call. IfSome call.argument HasLiteralsInRange) calls literals.1) (recursion_from_All HasLiteralsInRange items literals.2) is.fits is.values is.few rows));
  distinct_on = λ input columns stays formed content.
      let below = every_input IsSound (V.DistinctOn input columns) (O.DistinctOn input columns) (V.outs-DistinctOn input columns) formed in
      let inside = every_input IsNodeInRange (V.DistinctOn input columns) (O.DistinctOn input columns) (V.outs-DistinctOn input columns) content in
      ranged_at (V.DistinctOn input columns) (After (Allows input) (λ a. Bounded (IsDistinctOn columns a))) (Allows-DistinctOn input columns)
      (ranged_after input (IsDistinctOn columns) stays below.0 inside.0
      (λ a rows is e. All-from_counts Ranged rows (λ row more. counts-from_All Ranged a is.values row (e.among row more))));
  sort = λ input keys stays formed content.
      let below = every_input IsSound (V.Sort input keys) (O.Sort input keys) (V.outs-Sort input keys) formed in
      let inside = every_input IsNodeInRange (V.Sort input keys) (O.Sort input keys) (V.outs-Sort input keys) content in
      ranged_at (V.Sort input keys) (After (Allows input) (λ a. Bounded (IsSort keys a))) (Allows-Sort input keys)
      (ranged_after input (IsSort keys) stays below.0 inside.0
      (λ a rows is e. same_ranged rows a (SameCounts-sym a rows (SameCounts-permutation a rows e.permuted)) is.values));
  slice = λ input skip most stays formed content.
      let below = every_input IsSound (V.Slice input skip most) (O.Slice input skip most) (V.outs-Slice input skip most) formed in
      let inside = every_input IsNodeInRange (V.Slice input skip most) (O.Slice input skip most) (V.outs-Slice input skip most) content in
      ranged_at (V.Slice input skip most) (After (Allows input) (λ a. Bounded (λ list. list ≡ sliced skip most a))) (Allows-Slice input skip most)
      (ranged_after input (λ a list. list ≡ sliced skip most a) stays below.0 inside.0
      (λ a rows is e. subst AllRanged (sym e) (sliced_ranged skip most a is.values)));
}

pub rows_are_in_range : RowsAreInRange
rows_are_in_range node formed content rows allowed = All-from_recursion HasValuesInRange rows (each_in_range rows (induct StaysInRange cases node formed content rows allowed))
