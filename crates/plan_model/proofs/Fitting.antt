-- The rows that a well-formed relation allows have its types.
use Rattle.std.proofs.Common.{◌≡◌, ◌<◌, ℕ, zero, suc, ℤ, Bool, true, false, not, Option, None, Some, Ok, List, [], ◌∷◌, ◌++◌, map, length, filter, replicate, take, drop, ◌⊎◌, refl, sym, ap, ◌∙◌, subst, inl, inr, arith}
use Rattle.std.specs.List.{AllByRecursion, AllZip, flat_map}
use Rattle.std.proofs.lemmas.List.Elements.{All-from_recursion, recursion_from_All, All-take, All-drop}
use Rattle.cn_types.specs.declared.row.Row.{Row}
use Rattle.cn_types.specs.declared.value.DataType.{DataType}
use Rattle.cn_types.specs.declared.value.Value.{Value}
use Rattle.cn_types.specs.declared.value.Value.TheVariants.{Null}
use Rattle.cn_types.specs.Fit.{HaveTypes, FitsTypes, Fits}
use Rattle.cn_types.specs.Order.{count, row_eq}
use Rattle.plan_model.specs.declared.expression.TypedExpr.{TypedExpr}
use Rattle.plan_model.specs.declared.node.AggregateCall.{AggregateCall}
use Rattle.plan_model.specs.declared.node.JoinKind.{JoinKind}
use Rattle.plan_model.specs.declared.node.Node.{Node}
use Rattle.plan_model.specs.declared.node.Node.TheOpen as O
use Rattle.plan_model.specs.declared.node.Node.TheVariants as V
use Rattle.plan_model.specs.declared.node.SetKind.{SetKind}
use Rattle.plan_model.specs.Aggregates.{call_value}
use Rattle.plan_model.specs.Allows.{Allows, joining_of}
use Rattle.plan_model.specs.Counts.{SameCounts}
use Rattle.plan_model.specs.Groups.{key_values, group, key_and_calls, aggregated, IsAggregate, IsDistinctOn}
use Rattle.plan_model.specs.Joins.{Joining, beside, pairs, has_right, has_left, left_alone, right_alone, joined, IsJoin}
use Rattle.plan_model.specs.NodeTypes.{kinds_of, schema_types, join_types, types}
use Rattle.plan_model.specs.OutcomeLaws.{RowsHaveTheTypes, RowsFitTheSchema}
use Rattle.plan_model.specs.Outcomes.{Allowed, Bounded, After}
use Rattle.plan_model.specs.Ranges.{IsRange}
use Rattle.plan_model.specs.Selections.{image, projected, selected, sliced}
use Rattle.plan_model.specs.SetOperations.{copies, IsSetOperation}
use Rattle.plan_model.specs.Sorting.{IsSort}
use Rattle.plan_model.specs.Truth.{is_true}
use Rattle.plan_model.specs.Val.{val}
use Rattle.plan_model.specs.WellFormed.{IsOver, IsCallOver, IsAggregation, IsSound, IsWellFormed}
use Rattle.plan_model.proofs.AllowsFacts.{Allows-Rows, Allows-Range, Allows-Project, Allows-Filter, Allows-Join, Allows-SetOp, Allows-Aggregate, Allows-DistinctOn, Allows-Sort, Allows-Slice}
use Rattle.plan_model.proofs.CallTypes.{HasType-Null}
use Rattle.plan_model.proofs.Multisets.{AllByRecursion-filter}
use Rattle.plan_model.proofs.NodeFacts.{Cases, induct, every_here, every_input}
use Rattle.plan_model.proofs.OutcomeFacts.{bounded_rows, after_rows}
use Rattle.plan_model.proofs.RowCounts.{SameCounts-permutation, SameCounts-sym, All-from_counts, counts-from_All}
use Rattle.plan_model.proofs.TypedValues.{values_typed, calls_typed}
use Rattle.plan_model.proofs.TypesFacts.{types-Rows, types-Range, types-Project, types-Filter, types-Join, types-SetOp, types-Aggregate, types-DistinctOn, types-Sort, types-Slice}

-- the rows have these types
abbrev Fit : List DataType → List Row → Type 0
Fit kinds rows = AllByRecursion (FitsTypes kinds) rows

same_fit : (kinds : List DataType) (xs ys : List Row) → SameCounts xs ys → Fit kinds ys → Fit kinds xs
same_fit kinds xs ys h fit = All-from_counts (FitsTypes kinds) xs (λ row more. counts-from_All (FitsTypes kinds) ys fit row (subst (λ n. 0 < n) (h row) more))

-- ---- rows that are made of others

pub images_typed : (columns : List DataType) (items : List TypedExpr) (row : Row) → AllByRecursion (IsOver columns) items → FitsTypes columns row → HaveTypes (kinds_of items) (map (λ item. val item row) items)
images_typed columns [] row over fits = tt
images_typed columns (item ∷ items) row over fits = (values_typed columns item row over.0 fits, images_typed columns items row over.1 fits)

image_fits : (columns : List DataType) (items : List TypedExpr) (row : Row) → AllByRecursion (IsOver columns) items → FitsTypes columns row → FitsTypes (kinds_of items) (image items row)
image_fits columns items row over fits = images_typed columns items row over fits

map_fit : (columns kinds : List DataType) (f : Row → Row) (rows : List Row) → ((row : Row) → FitsTypes columns row → FitsTypes kinds (f row)) → Fit columns rows → Fit kinds (map f rows)
map_fit columns kinds f [] h fit = tt
map_fit columns kinds f (row ∷ rows) h fit = (h row fit.0, map_fit columns kinds f rows h fit.1)

append_fit : (kinds : List DataType) (xs ys : List Row) → Fit kinds xs → Fit kinds ys → Fit kinds (xs ++ ys)
append_fit kinds [] ys f g = g
append_fit kinds (x ∷ xs) ys f g = (f.0, append_fit kinds xs ys f.1 g)

flat_map_fit : (columns kinds : List DataType) (f : Row → List Row) (rows : List Row) → ((row : Row) → FitsTypes columns row → Fit kinds (f row)) → Fit columns rows → Fit kinds (flat_map f rows)
flat_map_fit columns kinds f [] h fit = tt
flat_map_fit columns kinds f (row ∷ rows) h fit = append_fit kinds (f row) (flat_map f rows) (h row fit.0) (flat_map_fit columns kinds f rows h fit.1)

-- ---- joins

pub both_have : (ks ls : List DataType) (vs ws : List Value) → HaveTypes ks vs → HaveTypes ls ws → HaveTypes (ks ++ ls) (vs ++ ws)
both_have [] ls [] ws f g = g
both_have [] ls (v ∷ vs) ws f g = absurd f
both_have (k ∷ ks) ls [] ws f g = absurd f
both_have (k ∷ ks) ls (v ∷ vs) ws f g = (f.0, both_have ks ls vs ws f.1 g)

nulls_fit : (kinds : List DataType) → HaveTypes kinds (replicate (length kinds) Null)
nulls_fit [] = tt
nulls_fit (kind ∷ kinds) = (HasType-Null kind, nulls_fit kinds)

module _ (joining : Joining) (ks ls : List DataType) (left_nulls : FitsTypes ks joining.left_nulls) (right_nulls : FitsTypes ls joining.right_nulls) (a b : List Row) (f : Fit ks a) (g : Fit ls b) where
  beside_fits : (left right : Row) → FitsTypes ks left → FitsTypes ls right → FitsTypes (ks ++ ls) (beside left right)
  beside_fits left right p q = both_have ks ls left.0 right.0 p q

  pairs_fit : Fit (ks ++ ls) (pairs joining a b)
  pairs_fit =
      flat_map_fit ks (ks ++ ls) (λ left. map (beside left) (filter (joining.matching left) b)) a
      (λ left p. map_fit ls (ks ++ ls) (beside left) (filter (joining.matching left) b) (λ right q. beside_fits left right p q) (AllByRecursion-filter (FitsTypes ls) (joining.matching left) b g)) f

  left_alone_fit : Fit (ks ++ ls) (left_alone joining a b)
  left_alone_fit =
      map_fit ks (ks ++ ls) (λ left. beside left joining.right_nulls) (filter (λ left. not (has_right joining b left)) a) (λ left p. beside_fits left joining.right_nulls p right_nulls)
      (AllByRecursion-filter (FitsTypes ks) (λ left. not (has_right joining b left)) a f)

  right_alone_fit : Fit (ks ++ ls) (right_alone joining a b)
  right_alone_fit =
      map_fit ls (ks ++ ls) (λ right. beside joining.left_nulls right) (filter (λ right. not (has_left joining a right)) b) (λ right q. beside_fits joining.left_nulls right left_nulls q)
      (AllByRecursion-filter (FitsTypes ls) (λ right. not (has_left joining a right)) b g)

  joined_fit : (kind : JoinKind) → Fit (join_types kind ks ls) (joined kind joining a b)
  joined_fit JoinKind.Inner = pairs_fit
  joined_fit JoinKind.Cross = pairs_fit
  joined_fit JoinKind.Left = append_fit (ks ++ ls) (pairs joining a b) (left_alone joining a b) pairs_fit left_alone_fit
  joined_fit JoinKind.Right = append_fit (ks ++ ls) (pairs joining a b) (right_alone joining a b) pairs_fit right_alone_fit
  joined_fit JoinKind.Full =
      append_fit (ks ++ ls) (pairs joining a b ++ left_alone joining a b) (right_alone joining a b) (append_fit (ks ++ ls) (pairs joining a b) (left_alone joining a b) pairs_fit left_alone_fit) right_alone_fit
  joined_fit JoinKind.Semi = AllByRecursion-filter (FitsTypes ks) (has_right joining b) a f
  joined_fit JoinKind.Anti = AllByRecursion-filter (FitsTypes ks) (λ left. not (has_right joining b left)) a f

-- ---- set operations

pub none_of_none : (kind : SetKind) (all : Bool) → copies kind all 0 0 ≡ 0
none_of_none SetKind.Union true = refl
none_of_none SetKind.Union false = refl
none_of_none SetKind.Intersect true = refl
none_of_none SetKind.Intersect false = refl
none_of_none SetKind.Except true = refl
none_of_none SetKind.Except false = refl

pub in_one : (kind : SetKind) (all : Bool) (m n : ℕ) → 0 < copies kind all m n → (0 < m) ⊎ (0 < n)
in_one kind all zero zero h = absurd (omega (arith, none_of_none kind all))
in_one kind all (suc m) n h = inl (omega arith)
in_one kind all zero (suc n) h = inr (omega arith)

from_one : (kinds : List DataType) (a b : List Row) (row : Row) → Fit kinds a → Fit kinds b → (0 < count a row) ⊎ (0 < count b row) → FitsTypes kinds row
from_one kinds a b row f g (inl h) = counts-from_All (FitsTypes kinds) a f row h
from_one kinds a b row f g (inr h) = counts-from_All (FitsTypes kinds) b g row h

set_operation_fit : (kinds : List DataType) (kind : SetKind) (all : Bool) (a b rows : List Row) → Fit kinds a → Fit kinds b → IsSetOperation kind all a b rows → Fit kinds rows
set_operation_fit kinds kind all a b rows f g h =
    All-from_counts (FitsTypes kinds) rows (λ row more. from_one kinds a b row f g (in_one kind all (count a row) (count b row) (subst (λ n. 0 < n) (h row) more)))

-- ---- aggregates

pub keys_fit : (columns : List DataType) (keys : List TypedExpr) (a : List Row) → AllByRecursion (IsOver columns) keys → Fit columns a → Fit (kinds_of keys) (key_values keys a)
keys_fit columns [] a over fit = (tt, tt)
keys_fit columns (key ∷ keys) a over fit = map_fit columns (kinds_of (key ∷ keys)) (image (key ∷ keys)) a (λ row p. image_fits columns (key ∷ keys) row over p) fit

pub calls_fit : (columns kinds : List DataType) (calls : List AggregateCall) (rows : List Row) → AllZip (IsCallOver columns) calls kinds → Fit columns rows → HaveTypes kinds (map (λ c. call_value c rows) calls)
calls_fit columns [] [] rows over fit = tt
calls_fit columns [] (call ∷ calls) rows over fit = absurd over
calls_fit columns (kind ∷ kinds) [] rows over fit = absurd over
calls_fit columns (kind ∷ kinds) (call ∷ calls) rows over fit = (calls_typed columns call kind rows over.0 (All-from_recursion (FitsTypes columns) rows fit), calls_fit columns kinds calls rows over.1 fit)

aggregated_fits : (columns : List DataType) (keys : List TypedExpr) (calls : List AggregateCall) (items : List TypedExpr) (a : List Row) (key : Row) (h : IsAggregation columns keys calls items)
    → Fit columns a → FitsTypes (kinds_of keys) key → FitsTypes (kinds_of items) (aggregated keys calls items a key)
aggregated_fits columns keys calls items a key h fit key_fits =
    image_fits (kinds_of keys ++ h.call_types) items (key_and_calls keys calls a key) (recursion_from_All (IsOver (kinds_of keys ++ h.call_types)) items h.items_over)
    (both_have (kinds_of keys) h.call_types key.0 (map (λ c. call_value c (group keys a key)) calls) key_fits
    (calls_fit columns h.call_types calls (group keys a key) h.calls_over (AllByRecursion-filter (FitsTypes columns) (λ row. row_eq key (image keys row)) a fit)))

aggregate_fit : (columns : List DataType) (keys : List TypedExpr) (calls : List AggregateCall) (items : List TypedExpr) (a rows : List Row) → IsAggregation columns keys calls items
    → Fit columns a → IsAggregate keys calls items a rows → Fit (kinds_of items) rows
aggregate_fit columns keys calls items a rows h fit is =
    let among = keys_fit columns keys a (recursion_from_All (IsOver columns) keys h.keys_over) fit in
    let different : Fit (kinds_of keys) is.different = All-from_counts (FitsTypes (kinds_of keys)) is.different (λ key more.
    counts-from_All (FitsTypes (kinds_of keys)) (key_values keys a) among key (omega (arith, is.each_once key))) in
    subst (Fit (kinds_of items)) (sym is.is)
    (map_fit (kinds_of keys) (kinds_of items) (aggregated keys calls items a) is.different (λ key p. aggregated_fits columns keys calls items a key h fit p) different)

-- ---- relations

abbrev HasFit : Node → Type 0
HasFit node = IsWellFormed node → (rows : List Row) → Allows node (Ok rows) → Fit (types node) rows

-- from what a relation's kind allows, and its types
fit_at : (node : Node) (kinds : List DataType) (P : Allowed) → types node ≡ kinds → Allows node ≡ P → ((rows : List Row) → P (Ok rows) → Fit kinds rows) → (rows : List Row) → Allows node (Ok rows) → Fit (types node) rows
fit_at node kinds P e f h rows allowed =
    subst (λ (ks : List DataType). Fit ks rows) (sym e) (h rows (subst (λ (Q : Allowed). Q (Ok rows)) f allowed))

fit_after : (input : Node) (kinds : List DataType) (Is : List Row → List Row → Type 0) → HasFit input → IsWellFormed input → ((a rows : List Row) → Fit (types input) a → Is a rows → Fit kinds rows)
    → (rows : List Row) → After (Allows input) (λ a. Bounded (Is a)) (Ok rows) → Fit kinds rows
fit_after input kinds Is fit formed h rows allowed =
    let t = after_rows (Allows input) (λ a. Bounded (Is a)) rows allowed in
    h t.0 rows (fit formed t.0 t.1) (bounded_rows (Is t.0) rows t.2)

fit_after_two : (left right : Node) (kinds : List DataType) (Is : List Row → List Row → List Row → Type 0) → HasFit left → HasFit right → IsWellFormed left → IsWellFormed right
    → ((a b rows : List Row) → Fit (types left) a → Fit (types right) b → Is a b rows → Fit kinds rows)
    → (rows : List Row) → After (Allows left) (λ a. After (Allows right) (λ b. Bounded (Is a b))) (Ok rows) → Fit kinds rows
fit_after_two left right kinds Is fit_left fit_right formed_left formed_right h rows allowed =
    let s = after_rows (Allows left) (λ a. After (Allows right) (λ b. Bounded (Is a b))) rows allowed in
    let t = after_rows (Allows right) (λ b. Bounded (Is s.0 b)) rows s.2 in
    h s.0 t.0 rows (fit_left formed_left s.0 s.1) (fit_right formed_right t.0 t.1) (bounded_rows (Is s.0 t.0) rows t.2)

range_fit : (start end step : ℤ) (rows : List Row) → IsRange start end step rows → Fit (DataType.Long ∷ []) rows
range_fit start end step rows h =
    All-from_counts (FitsTypes (DataType.Long ∷ [])) rows (λ row more. subst (FitsTypes (DataType.Long ∷ [])) (sym (h.no_other row more).2) (tt, tt))

sliced_fit : (kinds : List DataType) (skip : ℕ) (most : Option ℕ) (a : List Row) → Fit kinds a → Fit kinds (sliced skip most a)
sliced_fit kinds skip None a fit =
    recursion_from_All (FitsTypes kinds) (drop skip a) (All-drop (FitsTypes kinds) skip a (All-from_recursion (FitsTypes kinds) a fit))
sliced_fit kinds skip (Some most) a fit =
    recursion_from_All (FitsTypes kinds) (take most (drop skip a))
    (All-take (FitsTypes kinds) most (drop skip a) (All-drop (FitsTypes kinds) skip a (All-from_recursion (FitsTypes kinds) a fit)))

cases : Cases HasFit
cases = record {
  rows = λ schema source formed. fit_at (V.Rows schema source) (schema_types schema) (Bounded (λ list. SameCounts list source)) (types-Rows schema source) (Allows-Rows schema source)
      (λ rows h. same_fit (schema_types schema) rows source (bounded_rows (λ list. SameCounts list source) rows h)
      (recursion_from_All (Fits schema) source (every_here IsSound (V.Rows schema source) (O.Rows schema source) (V.outs-Rows schema source) formed)));
  range = λ start end step formed. fit_at (V.Range start end step) (DataType.Long ∷ []) (Bounded (IsRange start end step)) (types-Range start end step) (Allows-Range start end step)
      (λ rows h. range_fit start end step rows (bounded_rows (IsRange start end step) rows h));
  project = λ input items fit formed.
      let below = every_input IsSound (V.Project input items) (O.Project input items) (V.outs-Project input items) formed in
      let over = recursion_from_All (IsOver (types input)) items (every_here IsSound (V.Project input items) (O.Project input items) (V.outs-Project input items) formed) in
      fit_at (V.Project input items) (kinds_of items) (After (Allows input) (λ a. Bounded (λ list. list ≡ projected items a))) (types-Project input items) (Allows-Project input items)
      (fit_after input (kinds_of items) (λ a list. list ≡ projected items a) fit below.0
      (λ a rows f is. subst (Fit (kinds_of items)) (sym is) (map_fit (types input) (kinds_of items) (image items) a (λ row p. image_fits (types input) items row over p) f)));
  filter = λ input condition fit formed.
      let below = every_input IsSound (V.Filter input condition) (O.Filter input condition) (V.outs-Filter input condition) formed in
      fit_at (V.Filter input condition) (types input) (After (Allows input) (λ a. Bounded (λ list. list ≡ selected condition a))) (types-Filter input condition) (Allows-Filter input condition)
      (fit_after input (types input) (λ a list. list ≡ selected condition a) fit below.0
      (λ a rows f is. subst (Fit (types input)) (sym is) (AllByRecursion-filter (FitsTypes (types input)) (λ row. is_true (val condition row)) a f)));
  join = λ left right kind condition fit_left fit_right formed.
      let below = every_input IsSound (V.Join left right kind condition) (O.Join left right kind condition) (V.outs-Join left right kind condition) formed in
      let joining = joining_of condition left right in
      fit_at (V.Join left right kind condition) (join_types kind (types left) (types right)) (After (Allows left) (λ a. After (Allows right) (λ b. Bounded (IsJoin kind joining a b))))
      (types-Join left right kind condition) (Allows-Join left right kind condition)
      (fit_after_two left right (join_types kind (types left) (types right)) (IsJoin kind joining) fit_left fit_right below.0 below.1.0
      (λ a b rows f g is. same_fit (join_types kind (types left) (types right)) rows (joined kind joining a b) is
      (joined_fit joining (types left) (types right) (nulls_fit (types left)) (nulls_fit (types right)) a b f g kind)));
  set_op = λ left right kind all fit_left fit_right formed.
      let below = every_input IsSound (V.SetOp left right kind all) (O.SetOp left right kind all) (V.outs-SetOp left right kind all) formed in
      let same = every_here IsSound (V.SetOp left right kind all) (O.SetOp left right kind all) (V.outs-SetOp left right kind all) formed in
      fit_at (V.SetOp left right kind all) (types left) (After (Allows left) (λ a. After (Allows right) (λ b. Bounded (IsSetOperation kind all a b)))) (types-SetOp left right kind all) (Allows-SetOp left right kind all)
      (fit_after_two left right (types left) (IsSetOperation kind all) fit_left fit_right below.0 below.1.0
      (λ a b rows f g is. set_operation_fit (types left) kind all a b rows f (subst (λ (ks : List DataType). Fit ks b) (sym same) g) is));
  aggregate = λ input keys calls items fit formed.
      let below = every_input IsSound (V.Aggregate input keys calls items) (O.Aggregate input keys calls items) (V.outs-Aggregate input keys calls items) formed in
      let here = every_here IsSound (V.Aggregate input keys calls items) (O.Aggregate input keys calls items) (V.outs-Aggregate input keys calls items) formed in
      fit_at (V.Aggregate input keys calls items) (kinds_of items) (After (Allows input) (λ a. Bounded (IsAggregate keys calls items a))) (types-Aggregate input keys calls items) (Allows-Aggregate input keys calls items)
      (fit_after input (kinds_of items) (IsAggregate keys calls items) fit below.0 (λ a rows f is. aggregate_fit (types input) keys calls items a rows here f is));
  distinct_on = λ input columns fit formed.
      let below = every_input IsSound (V.DistinctOn input columns) (O.DistinctOn input columns) (V.outs-DistinctOn input columns) formed in
      fit_at (V.DistinctOn input columns) (types input) (After (Allows input) (λ a. Bounded (IsDistinctOn columns a))) (types-DistinctOn input columns) (Allows-DistinctOn input columns)
      (fit_after input (types input) (IsDistinctOn columns) fit below.0
      (λ a rows f is. All-from_counts (FitsTypes (types input)) rows (λ row more. counts-from_All (FitsTypes (types input)) a f row (is.among row more))));
  sort = λ input keys fit formed.
      let below = every_input IsSound (V.Sort input keys) (O.Sort input keys) (V.outs-Sort input keys) formed in
      fit_at (V.Sort input keys) (types input) (After (Allows input) (λ a. Bounded (IsSort keys a))) (types-Sort input keys) (Allows-Sort input keys)
      (fit_after input (types input) (IsSort keys) fit below.0
      (λ a rows f is. same_fit (types input) rows a (SameCounts-sym a rows (SameCounts-permutation a rows is.permuted)) f));
  slice = λ input skip most fit formed.
      let below = every_input IsSound (V.Slice input skip most) (O.Slice input skip most) (V.outs-Slice input skip most) formed in
      fit_at (V.Slice input skip most) (types input) (After (Allows input) (λ a. Bounded (λ list. list ≡ sliced skip most a))) (types-Slice input skip most) (Allows-Slice input skip most)
      (fit_after input (types input) (λ a list. list ≡ sliced skip most a) fit below.0
      (λ a rows f is. subst (Fit (types input)) (sym is) (sliced_fit (types input) skip most a f)));
}

pub rows_have_the_types : RowsHaveTheTypes
rows_have_the_types node formed rows allowed = All-from_recursion (FitsTypes (types node)) rows (induct HasFit cases node formed rows allowed)

pub rows_fit_the_schema : RowsFitTheSchema
rows_fit_the_schema plan formed schema rows allowed =
    let fit : Fit (types plan.node) rows = induct HasFit cases plan.node formed.node rows allowed.1 in
    let typed : Fit (schema_types schema) rows = subst (λ (ks : List DataType). Fit ks rows) (formed.columns ∙ ap schema_types (sym allowed.0)) fit in
    All-from_recursion (Fits schema) rows typed
