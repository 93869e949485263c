-- The outcomes of a relation in which no choice is made are alike.
use Rattle.std.proofs.Common.{◌≡◌, ℕ, zero, suc, ℤ, ◌<◌, Bool, true, false, not, Ok, Err, List, [], ◌∷◌, ◌++◌, map, length, filter, nat_lt, if◌then◌else◌, refl, sym, ap, ◌∙◌, subst, inl, inr, arith}
use mathlib.Core.Path.{subst₂}
use Rattle.std.specs.List.{list_any}
use Rattle.std.proofs.lemmas.List.Elements.{filter_agree}
use Rattle.cn_types.specs.declared.row.Row.{Row}
use Rattle.cn_types.specs.Order.{count, row_eq}
use Rattle.plan_model.specs.declared.expression.TypedExpr.{TypedExpr}
use Rattle.plan_model.specs.declared.node.AggregateCall.{AggregateCall}
use Rattle.plan_model.specs.declared.node.JoinKind.{JoinKind}
use Rattle.plan_model.specs.declared.node.Node.{Node}
use Rattle.plan_model.specs.declared.node.Node.TheOpen as O
use Rattle.plan_model.specs.declared.node.Node.TheVariants as V
use Rattle.plan_model.specs.declared.node.SortKey.{SortKey}
use Rattle.plan_model.specs.Aggregates.{call_value}
use Rattle.plan_model.specs.Allows.{Allows, joining_of}
use Rattle.plan_model.specs.Counts.{SameCounts, once}
use Rattle.plan_model.specs.Groups.{key_values, group, aggregated, IsAggregate}
use Rattle.plan_model.specs.Joins.{Joining, beside, pairs, has_right, has_left, left_alone, right_alone, joined, IsJoin}
use Rattle.plan_model.specs.OutcomeLaws.{AreAlike, IsNoChoice, IsDetermined, DeterminedOutcomesAreAlike}
use Rattle.plan_model.specs.Outcomes.{PlanError, Evaluated, Allowed, Bounded, After, limited, is_too_large, row_limit}
use Rattle.plan_model.specs.Ranges.{IsRange}
use Rattle.plan_model.specs.Selections.{image, projected, selected}
use Rattle.plan_model.specs.SetOperations.{copies, IsSetOperation}
use Rattle.plan_model.specs.Sorting.{IsSort}
use Rattle.plan_model.specs.Truth.{is_true}
use Rattle.plan_model.specs.Val.{val}
use Rattle.plan_model.proofs.AggregateOrder.{call_value-SameCounts}
use Rattle.plan_model.proofs.AllowsFacts.{Allows-Rows, Allows-Range, Allows-Project, Allows-Filter, Allows-Join, Allows-SetOp, Allows-Aggregate, Allows-Sort}
use Rattle.plan_model.proofs.NodeFacts.{Cases, induct, every_here, every_input}
use Rattle.plan_model.proofs.RowCounts.{SameCounts-map, SameCounts-filter, SameCounts-append, SameCounts-flat_map, SameCounts-permutation, SameCounts-sym, length-SameCounts, list_any-SameCounts}

-- ---- limits and inputs

both_limited : (many large : Bool) (xs ys : List Row) → SameCounts xs ys
    → AreAlike (if many then Err PlanError.TooManyRows else if large then Err PlanError.RowTooLarge else Ok xs) (if many then Err PlanError.TooManyRows else if large then Err PlanError.RowTooLarge else Ok ys)
both_limited true large xs ys h = refl
both_limited false true xs ys h = refl
both_limited false false xs ys h = h

limited_alike : (xs ys : List Row) → SameCounts xs ys → AreAlike (limited xs) (limited ys)
limited_alike xs ys h =
    let P : ℕ → Bool → Type 0 = λ n b. AreAlike (limited xs) (if nat_lt row_limit n then Err PlanError.TooManyRows else if b then Err PlanError.RowTooLarge else Ok ys) in
    subst₂ P (length-SameCounts xs ys h) (list_any-SameCounts is_too_large xs ys h) (both_limited (nat_lt row_limit (length xs)) (list_any is_too_large xs) xs ys h)

-- which of two outcomes are alike
abbrev Alike : Allowed → Allowed → Type 0
Alike P Q = (x y : Evaluated) → P x → Q y → AreAlike x y

bounded_alike : (IsX IsY : List Row → Type 0) → ((xs ys : List Row) → IsX xs → IsY ys → SameCounts xs ys) → Alike (Bounded IsX) (Bounded IsY)
bounded_alike IsX IsY same x y p q = subst₂ AreAlike (sym p.2) (sym q.2) (limited_alike p.0 q.0 (same p.0 q.0 p.1 q.1))

after_alike : (input : Allowed) (NextX NextY : List Row → Allowed) → Alike input input → ((a b : List Row) → SameCounts a b → Alike (NextX a) (NextY b)) → Alike (After input NextX) (After input NextY)
after_alike input NextX NextY fixed next x y (inl p) (inl q) = subst₂ AreAlike (sym p.2) (sym q.2) (fixed (Err p.0) (Err q.0) p.1 q.1)
after_alike input NextX NextY fixed next x y (inl p) (inr q) = absurd (fixed (Err p.0) (Ok q.0) p.1 q.1)
after_alike input NextX NextY fixed next x y (inr p) (inl q) = absurd (fixed (Ok p.0) (Err q.0) p.1 q.1)
after_alike input NextX NextY fixed next x y (inr p) (inr q) = next p.0 q.0 (fixed (Ok p.0) (Ok q.0) p.1 q.1) x y p.2 q.2

-- ---- the lists of each kind of relation

-- two lists with the counts of alike lists
through : (xs ys us vs : List Row) → SameCounts xs us → SameCounts us vs → SameCounts ys vs → SameCounts xs ys
through xs ys us vs f g h row = f row ∙ g row ∙ sym (h row)

-- two lists that are alike lists
along : (xs ys us vs : List Row) → xs ≡ us → SameCounts us vs → ys ≡ vs → SameCounts xs ys
along xs ys us vs f g h = subst₂ SameCounts (sym f) (sym h) g

range_at : (start end step : ℤ) (xs ys : List Row) → IsRange start end step xs → IsRange start end step ys → (row : Row) → 0 < count xs row → count xs row ≡ count ys row
range_at start end step xs ys f g row h =
    let n = f.no_other row h in
    ap (count xs) n.2 ∙ f.each n.0 n.1 ∙ sym (g.each n.0 n.1) ∙ ap (count ys) (sym n.2)

range_where : (start end step : ℤ) (xs ys : List Row) → IsRange start end step xs → IsRange start end step ys → (row : Row) (m n : ℕ) → count xs row ≡ m → count ys row ≡ n → count xs row ≡ count ys row
range_where start end step xs ys f g row zero zero d e = d ∙ sym e
range_where start end step xs ys f g row (suc m) n d e = range_at start end step xs ys f g row (omega (arith, d))
range_where start end step xs ys f g row zero (suc n) d e = sym (range_at start end step ys xs g f row (omega (arith, e)))

same_range : (start end step : ℤ) (xs ys : List Row) → IsRange start end step xs → IsRange start end step ys → SameCounts xs ys
same_range start end step xs ys f g row = range_where start end step xs ys f g row (count xs row) (count ys row) refl refl

module _ (joining : Joining) (a c b d : List Row) (left : SameCounts a c) (right : SameCounts b d) where
  same_pairs : SameCounts (pairs joining a b) (pairs joining c d)
  same_pairs =
      SameCounts-flat_map (λ row. map (beside row) (filter (joining.matching row) b)) (λ row. map (beside row) (filter (joining.matching row) d)) a c
      (λ row. SameCounts-map (beside row) (filter (joining.matching row) b) (filter (joining.matching row) d) (SameCounts-filter (joining.matching row) b d right))
      left

  same_has_right : (row : Row) → has_right joining b row ≡ has_right joining d row
  same_has_right row = list_any-SameCounts (joining.matching row) b d right

  same_has_left : (row : Row) → has_left joining a row ≡ has_left joining c row
  same_has_left row = list_any-SameCounts (λ other. joining.matching other row) a c left

  -- rows that pass tests that agree
  same_passing : (p q : Row → Bool) (us vs : List Row) → ((row : Row) → p row ≡ q row) → SameCounts us vs → SameCounts (filter p us) (filter q vs)
  same_passing p q us vs agree h = subst (SameCounts (filter p us)) (filter_agree p q agree vs) (SameCounts-filter p us vs h)

  same_semi : SameCounts (filter (has_right joining b) a) (filter (has_right joining d) c)
  same_semi = same_passing (has_right joining b) (has_right joining d) a c same_has_right left

  same_anti : SameCounts (filter (λ row. not (has_right joining b row)) a) (filter (λ row. not (has_right joining d row)) c)
  same_anti = same_passing (λ row. not (has_right joining b row)) (λ row. not (has_right joining d row)) a c (λ row. ap not (same_has_right row)) left

  same_left_alone : SameCounts (left_alone joining a b) (left_alone joining c d)
  same_left_alone =
      SameCounts-map (λ row. beside row joining.right_nulls) (filter (λ row. not (has_right joining b row)) a) (filter (λ row. not (has_right joining d row)) c) same_anti

  same_right_alone : SameCounts (right_alone joining a b) (right_alone joining c d)
  same_right_alone =
      SameCounts-map (λ row. beside joining.left_nulls row) (filter (λ row. not (has_left joining a row)) b) (filter (λ row. not (has_left joining c row)) d)
      (same_passing (λ row. not (has_left joining a row)) (λ row. not (has_left joining c row)) b d (λ row. ap not (same_has_left row)) right)

  same_joined : (kind : JoinKind) → SameCounts (joined kind joining a b) (joined kind joining c d)
  same_joined JoinKind.Inner = same_pairs
  same_joined JoinKind.Cross = same_pairs
  same_joined JoinKind.Left = SameCounts-append (pairs joining a b) (pairs joining c d) (left_alone joining a b) (left_alone joining c d) same_pairs same_left_alone
  same_joined JoinKind.Right = SameCounts-append (pairs joining a b) (pairs joining c d) (right_alone joining a b) (right_alone joining c d) same_pairs same_right_alone
  same_joined JoinKind.Full =
      SameCounts-append (pairs joining a b ++ left_alone joining a b) (pairs joining c d ++ left_alone joining c d) (right_alone joining a b) (right_alone joining c d)
      (SameCounts-append (pairs joining a b) (pairs joining c d) (left_alone joining a b) (left_alone joining c d) same_pairs same_left_alone) same_right_alone
  same_joined JoinKind.Semi = same_semi
  same_joined JoinKind.Anti = same_anti

-- ---- aggregates

same_key_values : (keys : List TypedExpr) (a b : List Row) → SameCounts a b → SameCounts (key_values keys a) (key_values keys b)
same_key_values [] a b h = λ row. refl
same_key_values (key ∷ keys) a b h = SameCounts-map (image (key ∷ keys)) a b h

same_calls : (keys : List TypedExpr) (a b : List Row) → SameCounts a b → (key : Row) (calls : List AggregateCall)
    → map (λ c. call_value c (group keys a key)) calls ≡ map (λ c. call_value c (group keys b key)) calls
same_calls keys a b h key [] = refl
same_calls keys a b h key (call ∷ calls) =
    ap (λ v. v ∷ map (λ c. call_value c (group keys a key)) calls)
    (call_value-SameCounts call (group keys a key) (group keys b key) (SameCounts-filter (λ row. row_eq key (image keys row)) a b h))
    ∙ ap (λ vs. call_value call (group keys b key) ∷ vs) (same_calls keys a b h key calls)

same_aggregated : (keys : List TypedExpr) (calls : List AggregateCall) (items : List TypedExpr) (a b : List Row) → SameCounts a b → (key : Row)
    → aggregated keys calls items a key ≡ aggregated keys calls items b key
same_aggregated keys calls items a b h key =
    ap (λ values. image items (let row : Row = record { 0 = key.0 ++ values } in row)) (same_calls keys a b h key calls)

map-agree : (f g : Row → Row) → ((row : Row) → f row ≡ g row) → (rows : List Row) → map f rows ≡ map g rows
map-agree f g agree [] = refl
map-agree f g agree (row ∷ rows) = ap (λ r. r ∷ map f rows) (agree row) ∙ ap (λ rs. g row ∷ rs) (map-agree f g agree rows)

same_aggregate : (keys : List TypedExpr) (calls : List AggregateCall) (items : List TypedExpr) (a b : List Row) → SameCounts a b
    → (xs ys : List Row) → IsAggregate keys calls items a xs → IsAggregate keys calls items b ys → SameCounts xs ys
same_aggregate keys calls items a b h xs ys f g =
    along xs ys (map (aggregated keys calls items a) f.different) (map (aggregated keys calls items a) g.different) f.is
    (SameCounts-map (aggregated keys calls items a) f.different g.different
    (λ key. f.each_once key ∙ ap once (same_key_values keys a b h key) ∙ sym (g.each_once key)))
    (g.is ∙ sym (map-agree (aggregated keys calls items a) (aggregated keys calls items b) (same_aggregated keys calls items a b h) g.different))

same_sort : (keys : List SortKey) (a b : List Row) → SameCounts a b → (xs ys : List Row) → IsSort keys a xs → IsSort keys b ys → SameCounts xs ys
same_sort keys a b h xs ys f g =
    through xs ys a b (SameCounts-sym a xs (SameCounts-permutation a xs f.permuted)) h (SameCounts-sym b ys (SameCounts-permutation b ys g.permuted))

-- ---- relations

abbrev HasAlike : Node → Type 0
HasAlike node = IsDetermined node → Alike (Allows node) (Allows node)

-- from what a relation's kind allows
alike_at : (node : Node) (P : Allowed) → Allows node ≡ P → Alike P P → Alike (Allows node) (Allows node)
alike_at node P e h = subst (λ (Q : Allowed). Alike Q Q) (sym e) h

-- of one input, of which a list gives lists
alike_after : (input : Node) (Is : List Row → List Row → Type 0) → HasAlike input → IsDetermined input
    → ((a b : List Row) → SameCounts a b → (xs ys : List Row) → Is a xs → Is b ys → SameCounts xs ys)
    → Alike (After (Allows input) (λ a. Bounded (Is a))) (After (Allows input) (λ a. Bounded (Is a)))
alike_after input Is fixed h same =
    after_alike (Allows input) (λ a. Bounded (Is a)) (λ a. Bounded (Is a)) (fixed h) (λ a b e. bounded_alike (Is a) (Is b) (same a b e))

-- of two
alike_after_two : (left right : Node) (Is : List Row → List Row → List Row → Type 0) → HasAlike left → HasAlike right → IsDetermined left → IsDetermined right
    → ((a b c d : List Row) → SameCounts a c → SameCounts b d → (xs ys : List Row) → Is a b xs → Is c d ys → SameCounts xs ys)
    → Alike (After (Allows left) (λ a. After (Allows right) (λ b. Bounded (Is a b)))) (After (Allows left) (λ a. After (Allows right) (λ b. Bounded (Is a b))))
alike_after_two left right Is fixed_left fixed_right g h same =
    after_alike (Allows left) (λ a. After (Allows right) (λ b. Bounded (Is a b))) (λ a. After (Allows right) (λ b. Bounded (Is a b))) (fixed_left g) (λ a c e.
    after_alike (Allows right) (λ b. Bounded (Is a b)) (λ b. Bounded (Is c b)) (fixed_right h) (λ b d f.
    bounded_alike (Is a b) (Is c d) (same a b c d e f)))

cases : Cases HasAlike
cases = record {
  rows = λ schema rows h. alike_at (V.Rows schema rows) (Bounded (λ list. SameCounts list rows)) (Allows-Rows schema rows)
      (bounded_alike (λ list. SameCounts list rows) (λ list. SameCounts list rows) (λ xs ys f g. through xs ys rows rows f (λ row. refl) g));
  range = λ start end step h. alike_at (V.Range start end step) (Bounded (IsRange start end step)) (Allows-Range start end step)
      (bounded_alike (IsRange start end step) (IsRange start end step) (same_range start end step));
  project = λ input items fixed h. alike_at (V.Project input items) (After (Allows input) (λ a. Bounded (λ list. list ≡ projected items a))) (Allows-Project input items)
      (alike_after input (λ a list. list ≡ projected items a) fixed (every_input IsNoChoice (V.Project input items) (O.Project input items) (V.outs-Project input items) h).0
      (λ a b e xs ys f g. along xs ys (projected items a) (projected items b) f (SameCounts-map (image items) a b e) g));
  filter = λ input condition fixed h. alike_at (V.Filter input condition) (After (Allows input) (λ a. Bounded (λ list. list ≡ selected condition a))) (Allows-Filter input condition)
      (alike_after input (λ a list. list ≡ selected condition a) fixed (every_input IsNoChoice (V.Filter input condition) (O.Filter input condition) (V.outs-Filter input condition) h).0
      (λ a b e xs ys f g. along xs ys (selected condition a) (selected condition b) f (SameCounts-filter (λ row. is_true (val condition row)) a b e) g));
  join = λ left right kind condition fixed_left fixed_right h.
      let inputs = every_input IsNoChoice (V.Join left right kind condition) (O.Join left right kind condition) (V.outs-Join left right kind condition) h in
      let joining = joining_of condition left right in
      alike_at (V.Join left right kind condition) (After (Allows left) (λ a. After (Allows right) (λ b. Bounded (IsJoin kind joining a b)))) (Allows-Join left right kind condition)
      (alike_after_two left right (IsJoin kind joining) fixed_left fixed_right inputs.0 inputs.1.0
      (λ a b c d e f xs ys g k. through xs ys (joined kind joining a b) (joined kind joining c d) g (same_joined joining a c b d e f kind) k));
  set_op = λ left right kind all fixed_left fixed_right h.
      let inputs = every_input IsNoChoice (V.SetOp left right kind all) (O.SetOp left right kind all) (V.outs-SetOp left right kind all) h in
      alike_at (V.SetOp left right kind all) (After (Allows left) (λ a. After (Allows right) (λ b. Bounded (IsSetOperation kind all a b)))) (Allows-SetOp left right kind all)
      (alike_after_two left right (IsSetOperation kind all) fixed_left fixed_right inputs.0 inputs.1.0
      (λ a b c d e f xs ys g k row. g row ∙ ap (λ n. copies kind all n (count b row)) (e row) ∙ ap (copies kind all (count c row)) (f row) ∙ sym (k row)));
  aggregate = λ input keys calls items fixed h. alike_at (V.Aggregate input keys calls items) (After (Allows input) (λ a. Bounded (IsAggregate keys calls items a))) (Allows-Aggregate input keys calls items)
      (alike_after input (IsAggregate keys calls items) fixed
      (every_input IsNoChoice (V.Aggregate input keys calls items) (O.Aggregate input keys calls items) (V.outs-Aggregate input keys calls items) h).0
      (same_aggregate keys calls items));
  distinct_on = λ input columns fixed h. absurd (every_here IsNoChoice (V.DistinctOn input columns) (O.DistinctOn input columns) (V.outs-DistinctOn input columns) h);
  sort = λ input keys fixed h. alike_at (V.Sort input keys) (After (Allows input) (λ a. Bounded (IsSort keys a))) (Allows-Sort input keys)
      (alike_after input (IsSort keys) fixed (every_input IsNoChoice (V.Sort input keys) (O.Sort input keys) (V.outs-Sort input keys) h).0 (same_sort keys));
  slice = λ input skip most fixed h. absurd (every_here IsNoChoice (V.Slice input skip most) (O.Slice input skip most) (V.outs-Slice input skip most) h);
}

pub determined_outcomes_alike : DeterminedOutcomesAreAlike
determined_outcomes_alike = induct HasAlike cases
