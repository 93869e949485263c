-- What holds of each row that a relation allows, by what holds of each row of its inputs.
use Rattle.std.proofs.Common.{◌≡◌, ◌<◌, ℕ, ℤ, Bool, Option, None, Some, List, [], ◌∷◌, ◌++◌, map, take, drop, sym, subst, arith, ◌⊎◌, inl, inr}
use Rattle.std.specs.Prelude.{Ok}
use Rattle.std.specs.List.{AllByRecursion, flat_map}
use Rattle.std.proofs.lemmas.List.Elements.{All-drop, All-from_recursion, All-take, recursion_from_All}
use Rattle.cn_types.specs.declared.row.Row.{Row}
use Rattle.cn_types.specs.declared.schema.Schema.{Schema}
use Rattle.cn_types.specs.Order.{count}
use Rattle.plan_model.specs.declared.expression.TypedExpr.{TypedExpr}
use Rattle.plan_model.specs.declared.node.AggregateCall.{AggregateCall}
use Rattle.plan_model.specs.declared.node.JoinKind.{JoinKind}
use Rattle.plan_model.specs.declared.node.Node.{Node}
use Rattle.plan_model.specs.declared.node.Node.TheVariants as V
use Rattle.plan_model.specs.declared.node.SetKind.{SetKind}
use Rattle.plan_model.specs.declared.node.SortKey.{SortKey}
use Rattle.plan_model.specs.Allows.{Allows, joining_of}
use Rattle.plan_model.specs.Counts.{SameCounts, once}
use Rattle.plan_model.specs.Groups.{IsAggregate, IsDistinctOn, aggregated, key_values}
use Rattle.plan_model.specs.Joins.{IsJoin, joined}
use Rattle.plan_model.specs.Outcomes.{After, Bounded}
use Rattle.plan_model.specs.Ranges.{IsRange, row_of}
use Rattle.plan_model.specs.Selections.{image, projected, selected, sliced}
use Rattle.plan_model.specs.SetOperations.{IsSetOperation}
use Rattle.plan_model.specs.Sorting.{IsSort}
use Rattle.plan_model.specs.Truth.{is_true}
use Rattle.plan_model.specs.Val.{val}
use Rattle.plan_model.proofs.AllowsFacts.{Allows-Aggregate, Allows-DistinctOn, Allows-Filter, Allows-Join, Allows-Project, Allows-Range, Allows-Rows, Allows-SetOp, Allows-Slice, Allows-Sort}
use Rattle.plan_model.proofs.Fitting.{in_one}
use Rattle.plan_model.proofs.Multisets.{AllByRecursion-filter}
use Rattle.plan_model.proofs.OutcomeFacts.{after_rows, bounded_rows}
use Rattle.plan_model.proofs.RelationFacts.{allowed_as}
use Rattle.plan_model.proofs.RowCounts.{All-from_counts, SameCounts-permutation, SameCounts-sym, counts-from_All}

abbrev pub Each : Node → (Row → Type 0) → Type 0
Each node P = (rows : List Row) → Allows node (Ok rows) → AllByRecursion P rows

pub all_mapped : (P Q : Row → Type 0) (f : Row → Row) → ((row : Row) → P row → Q (f row)) → (rows : List Row) → AllByRecursion P rows →
    AllByRecursion Q (map f rows)
all_mapped P Q f h [] all = tt
all_mapped P Q f h (row ∷ rows) all = (h row all.0, all_mapped P Q f h rows all.1)

pub all_joined : (P : Row → Type 0) (xs ys : List Row) → AllByRecursion P xs → AllByRecursion P ys → AllByRecursion P (xs ++ ys)
all_joined P [] ys f g = g
all_joined P (x ∷ xs) ys f g = (f.0, all_joined P xs ys f.1 g)

pub all_flat : (P Q : Row → Type 0) (f : Row → List Row) → ((row : Row) → P row → AllByRecursion Q (f row)) → (rows : List Row) →
    AllByRecursion P rows → AllByRecursion Q (flat_map f rows)
all_flat P Q f h [] all = tt
all_flat P Q f h (row ∷ rows) all = all_joined Q (f row) (flat_map f rows) (h row all.0) (all_flat P Q f h rows all.1)

pub all_counted : (P : Row → Type 0) (xs ys : List Row) → ((row : Row) → 0 < count xs row → 0 < count ys row) → AllByRecursion P ys →
    AllByRecursion P xs
all_counted P xs ys among all = All-from_counts P xs (λ row more. counts-from_All P ys all row (among row more))

all_alike : (P : Row → Type 0) (xs ys : List Row) → SameCounts xs ys → AllByRecursion P ys → AllByRecursion P xs
all_alike P xs ys same = all_counted P xs ys (λ row more. subst (λ (n : ℕ). 0 < n) (same row) more)

-- ---- leaves

module _ (P : Row → Type 0) where
  pub each_row : (schema : Schema) (source : List Row) → AllByRecursion P source → Each (V.Rows schema source) P
  each_row schema source all rows allowed =
      all_alike P rows source
      (bounded_rows (λ list. SameCounts list source) rows
      (allowed_as (V.Rows schema source) (Bounded (λ list. SameCounts list source)) (Ok rows) (Allows-Rows schema source) allowed)) all

  pub each_number : (start end step : ℤ) → ((number : ℤ) → P (row_of number)) → Each (V.Range start end step) P
  each_number start end step h rows allowed =
      let is = bounded_rows (IsRange start end step) rows
      (allowed_as (V.Range start end step) (Bounded (IsRange start end step)) (Ok rows) (Allows-Range start end step) allowed) in
      All-from_counts P rows (λ row more. let one = is.no_other row more in subst P (sym one.2) (h one.0))

-- ---- over one input

once_there : (n : ℕ) → 0 < once n → 0 < n
once_there n more = omega arith

module _ (P Q : Row → Type 0) (input : Node) (each : Each input P) where
  after : (node : Node) (Is : List Row → List Row → Type 0) → Allows node ≡ After (Allows input) (λ a. Bounded (Is a)) →
      ((a rows : List Row) → AllByRecursion P a → Is a rows → AllByRecursion Q rows) → Each node Q
  after node Is e h rows allowed =
      let t = after_rows (Allows input) (λ a. Bounded (Is a)) rows
      (allowed_as node (After (Allows input) (λ a. Bounded (Is a))) (Ok rows) e allowed) in
      h t.0 rows (each t.0 t.1) (bounded_rows (Is t.0) rows t.2)

  pub each_image : (items : List TypedExpr) → ((row : Row) → P row → Q (image items row)) → Each (V.Project input items) Q
  each_image items h = after (V.Project input items) (λ a list. list ≡ projected items a) (Allows-Project input items)
      (λ a rows all is. subst (AllByRecursion Q) (sym is) (all_mapped P Q (image items) h a all))

  pub each_group : (keys : List TypedExpr) (calls : List AggregateCall) (items : List TypedExpr) →
      ((a : List Row) → AllByRecursion P a → AllByRecursion (λ key. Q (aggregated keys calls items a key)) (key_values keys a)) →
      Each (V.Aggregate input keys calls items) Q
  each_group keys calls items h = after (V.Aggregate input keys calls items) (IsAggregate keys calls items)
      (Allows-Aggregate input keys calls items)
      (λ a rows all is. subst (AllByRecursion Q) (sym is.is)
      (all_mapped (λ key. Q (aggregated keys calls items a key)) Q (aggregated keys calls items a) (λ key q. q) is.different
      (all_counted (λ key. Q (aggregated keys calls items a key)) is.different (key_values keys a)
      (λ key more. once_there (count (key_values keys a) key) (subst (λ (n : ℕ). 0 < n) (is.each_once key) more)) (h a all))))

-- ---- over an input whose rows it keeps

module _ (P : Row → Type 0) (input : Node) (each : Each input P) where
  pub each_selected : (condition : TypedExpr) → Each (V.Filter input condition) P
  each_selected condition = after P P input each (V.Filter input condition) (λ a list. list ≡ selected condition a)
      (Allows-Filter input condition)
      (λ a rows all is. subst (AllByRecursion P) (sym is) (AllByRecursion-filter P (λ row. is_true (val condition row)) a all))

  some_of : (skip : ℕ) (most : Option ℕ) (a : List Row) → AllByRecursion P a → AllByRecursion P (sliced skip most a)
  some_of skip None a all = recursion_from_All P (drop skip a) (All-drop P skip a (All-from_recursion P a all))
  some_of skip (Some most) a all = recursion_from_All P (take most (drop skip a))
      (All-take P most (drop skip a) (All-drop P skip a (All-from_recursion P a all)))

  pub each_sliced : (skip : ℕ) (most : Option ℕ) → Each (V.Slice input skip most) P
  each_sliced skip most = after P P input each (V.Slice input skip most) (λ a list. list ≡ sliced skip most a)
      (Allows-Slice input skip most)
      (λ a rows all is. subst (AllByRecursion P) (sym is) (some_of skip most a all))

  pub each_sorted : (keys : List SortKey) → Each (V.Sort input keys) P
  each_sorted keys = after P P input each (V.Sort input keys) (IsSort keys) (Allows-Sort input keys)
      (λ a rows all is. all_alike P rows a (SameCounts-sym a rows (SameCounts-permutation a rows is.permuted)) all)

  pub each_distinct : (columns : List ℕ) → Each (V.DistinctOn input columns) P
  each_distinct columns = after P P input each (V.DistinctOn input columns) (IsDistinctOn columns) (Allows-DistinctOn input columns)
      (λ a rows all is. all_counted P rows a is.among all)

-- ---- over two inputs

module _ (P Q R : Row → Type 0) (left right : Node) (on_left : Each left P) (on_right : Each right Q) where
  after_two : (node : Node) (Is : List Row → List Row → List Row → Type 0) →
      Allows node ≡ After (Allows left) (λ a. After (Allows right) (λ b. Bounded (Is a b))) →
      ((a b rows : List Row) → AllByRecursion P a → AllByRecursion Q b → Is a b rows → AllByRecursion R rows) → Each node R
  after_two node Is e h rows allowed =
      let s = after_rows (Allows left) (λ a. After (Allows right) (λ b. Bounded (Is a b))) rows
      (allowed_as node (After (Allows left) (λ a. After (Allows right) (λ b. Bounded (Is a b)))) (Ok rows) e allowed) in
      let t = after_rows (Allows right) (λ b. Bounded (Is s.0 b)) rows s.2 in
      h s.0 t.0 rows (on_left s.0 s.1) (on_right t.0 t.1) (bounded_rows (Is s.0 t.0) rows t.2)

  pub each_pair : (kind : JoinKind) (condition : Option TypedExpr) →
      ((a b : List Row) → AllByRecursion P a → AllByRecursion Q b → AllByRecursion R (joined kind (joining_of condition left right) a b)) →
      Each (V.Join left right kind condition) R
  each_pair kind condition h = after_two (V.Join left right kind condition) (IsJoin kind (joining_of condition left right))
      (Allows-Join left right kind condition)
      (λ a b rows f g is. all_alike R rows (joined kind (joining_of condition left right) a b) is (h a b f g))

  from_one : (a b : List Row) (row : Row) → AllByRecursion R a → AllByRecursion R b → (0 < count a row) ⊎ (0 < count b row) → R row
  from_one a b row f g (inl h) = counts-from_All R a f row h
  from_one a b row f g (inr h) = counts-from_All R b g row h

  pub each_of_both : (kind : SetKind) (all : Bool) → ((row : Row) → P row → R row) → ((row : Row) → Q row → R row) →
      Each (V.SetOp left right kind all) R
  each_of_both kind all from_left from_right = after_two (V.SetOp left right kind all) (IsSetOperation kind all)
      (Allows-SetOp left right kind all)
      (λ a b rows f g is. All-from_counts R rows (λ row more.
      from_one a b row (weaker P from_left a f) (weaker Q from_right b g)
      (in_one kind all (count a row) (count b row) (subst (λ (n : ℕ). 0 < n) (is row) more))))
    where
      weaker : (S : Row → Type 0) → ((row : Row) → S row → R row) → (rows : List Row) → AllByRecursion S rows → AllByRecursion R rows
      weaker S h [] all = tt
      weaker S h (row ∷ rows) all = (h row all.0, weaker S h rows all.1)
