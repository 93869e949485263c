-- The chosen outcome of each relation is one that it allows.
use Rattle.std.proofs.Common.{◌≡◌, ◌<◌, ◌+◌, ◌*◌, ℕ, zero, suc, ℤ, Bool, true, false, cond, Option, Ok, Err, List, [], ◌∷◌, ◌++◌, map, replicate, refl, sym, ap, ◌∙◌, subst, inl, inr, arith}
use Rattle.std.specs.List.{list_any}
use Rattle.std.proofs.lemmas.List.{map-id}
use Rattle.cn_types.specs.declared.row.Row.{Row}
use Rattle.cn_types.specs.declared.schema.Schema.{Schema}
use Rattle.cn_types.specs.Order.{count, row_eq}
use Rattle.plan_model.specs.declared.expression.TypedExpr.{TypedExpr}
use Rattle.plan_model.specs.declared.node.AggregateCall.{AggregateCall}
use Rattle.plan_model.specs.declared.node.JoinKind.{JoinKind}
use Rattle.plan_model.specs.declared.node.Node.{Node}
use Rattle.plan_model.specs.declared.node.Node.TheFolds.{para-roll-Node, map-Node}
use Rattle.plan_model.specs.declared.node.Node.TheOpen as O
use Rattle.plan_model.specs.declared.node.Node.TheOpen.{Node-F}
use Rattle.plan_model.specs.declared.node.Node.TheVariants as V
use Rattle.plan_model.specs.declared.node.Node.TheViews.{roll-Node}
use Rattle.plan_model.specs.declared.node.SetKind.{SetKind}
use Rattle.plan_model.specs.declared.node.SortKey.{SortKey}
use Rattle.plan_model.specs.declared.outcome.Outcome.{Outcome}
use Rattle.plan_model.specs.declared.plan.Resolved.{Resolved}
use Rattle.plan_model.specs.Allows.{Allows, AllowsPlan, joining_of}
use Rattle.plan_model.specs.Chosen.{range_rows, each_once_by, with_copies, in_order, after, chosen_step, chosen}
use Rattle.plan_model.specs.Counts.{SameCounts, once, HasEachOnce}
use Rattle.plan_model.specs.Groups.{key_values, aggregated, columns_of, IsAggregate, IsDistinctOn}
use Rattle.plan_model.specs.Joins.{joined, IsJoin}
use Rattle.plan_model.specs.OutcomeLaws.{ChosenIsAllowed, EveryPlanHasAnOutcome}
use Rattle.plan_model.specs.Outcomes.{PlanError, Evaluated, Allowed, Bounded, After, limited, row_limit, weight_limit}
use Rattle.plan_model.specs.Ranges.{IsRange}
use Rattle.plan_model.specs.Selections.{projected, selected, sliced}
use Rattle.plan_model.specs.SetOperations.{copies, IsSetOperation}
use Rattle.plan_model.specs.Sorting.{IsSort}
use Rattle.plan_model.specs.WellFormed.{IsSound, IsWellFormed}
use Rattle.plan_model.proofs.AllowsFacts.{Allows-Rows, Allows-Range, Allows-Project, Allows-Filter, Allows-Join, Allows-SetOp, Allows-Aggregate, Allows-DistinctOn, Allows-Sort, Allows-Slice}
use Rattle.plan_model.proofs.Fitting.{none_of_none}
use Rattle.plan_model.proofs.Multisets.{copies-cons, copies-replicate, count_by-flat_map, sum_of_one, keys_once}
use Rattle.plan_model.proofs.NodeFacts.{Cases, induct, every_here, every_input}
use Rattle.plan_model.proofs.RangeFacts.{made_range}
use Rattle.plan_model.proofs.RowCounts.{row_exact, count-append, sum_by-alike}
use Rattle.plan_model.proofs.Sorted.{sorts}

-- the rows that are chosen of a set operation and of an aggregate
abbrev combined_rows : SetKind → Bool → List Row → List Row → List Row
combined_rows kind all a b = with_copies (λ row. copies kind all (count a row) (count b row)) (a ++ b)

abbrev aggregated_rows : List TypedExpr → List AggregateCall → List TypedExpr → List Row → List Row
aggregated_rows keys calls items a = map (aggregated keys calls items a) (each_once_by (λ key. key) (key_values keys a))

abbrev with_outcome : Node → Node × Evaluated
with_outcome node = (node, chosen node)

chosen_roll : (x : Node-F Node) → chosen (roll-Node x) ≡ chosen_step (map-Node Node (Node × Evaluated) with_outcome x)
unfolding chosen
chosen_roll = para-roll-Node Evaluated chosen_step

pub chosen-Rows : (schema : Schema) (rows : List Row) → chosen (V.Rows schema rows) ≡ limited rows
chosen-Rows schema rows = ap chosen (sym (V.rolls-Rows schema rows)) ∙ chosen_roll (O.Rows schema rows)

pub chosen-Range : (start end step : ℤ) → chosen (V.Range start end step) ≡ limited (range_rows start end step)
chosen-Range start end step = ap chosen (sym (V.rolls-Range start end step)) ∙ chosen_roll (O.Range start end step)

pub chosen-Project : (input : Node) (items : List TypedExpr) → chosen (V.Project input items) ≡ after (chosen input) (λ a. limited (projected items a))
chosen-Project input items = ap chosen (sym (V.rolls-Project input items)) ∙ chosen_roll (O.Project input items)

pub chosen-Filter : (input : Node) (condition : TypedExpr) → chosen (V.Filter input condition) ≡ after (chosen input) (λ a. limited (selected condition a))
chosen-Filter input condition = ap chosen (sym (V.rolls-Filter input condition)) ∙ chosen_roll (O.Filter input condition)

pub chosen-Join : (left right : Node) (kind : JoinKind) (condition : Option TypedExpr) → chosen (V.Join left right kind condition) ≡ after (chosen left) (λ a. after (chosen right) (λ b. limited (joined kind (joining_of condition left right) a b)))
chosen-Join left right kind condition = ap chosen (sym (V.rolls-Join left right kind condition)) ∙ chosen_roll (O.Join left right kind condition)

pub chosen-SetOp : (left right : Node) (kind : SetKind) (all : Bool) → chosen (V.SetOp left right kind all) ≡ after (chosen left) (λ a. after (chosen right) (λ b. limited (combined_rows kind all a b)))
chosen-SetOp left right kind all = ap chosen (sym (V.rolls-SetOp left right kind all)) ∙ chosen_roll (O.SetOp left right kind all)

pub chosen-Aggregate : (input : Node) (keys : List TypedExpr) (calls : List AggregateCall) (items : List TypedExpr) → chosen (V.Aggregate input keys calls items) ≡ after (chosen input) (λ a. limited (aggregated_rows keys calls items a))
chosen-Aggregate input keys calls items = ap chosen (sym (V.rolls-Aggregate input keys calls items)) ∙ chosen_roll (O.Aggregate input keys calls items)

pub chosen-DistinctOn : (input : Node) (columns : List ℕ) → chosen (V.DistinctOn input columns) ≡ after (chosen input) (λ a. limited (each_once_by (columns_of columns) a))
chosen-DistinctOn input columns = ap chosen (sym (V.rolls-DistinctOn input columns)) ∙ chosen_roll (O.DistinctOn input columns)

pub chosen-Sort : (input : Node) (keys : List SortKey) → chosen (V.Sort input keys) ≡ after (chosen input) (λ a. limited (in_order keys a))
chosen-Sort input keys = ap chosen (sym (V.rolls-Sort input keys)) ∙ chosen_roll (O.Sort input keys)

pub chosen-Slice : (input : Node) (skip : ℕ) (most : Option ℕ) → chosen (V.Slice input skip most) ≡ after (chosen input) (λ a. limited (sliced skip most a))
chosen-Slice input skip most = ap chosen (sym (V.rolls-Slice input skip most)) ∙ chosen_roll (O.Slice input skip most)

-- ---- lists

pub each_once : (key : Row → Row) (rows : List Row) → HasEachOnce (map key (each_once_by key rows)) (map key rows)
each_once key rows row = keys_once row_eq row_exact key (each_once_by key) refl (λ x xs. refl) rows row

pub each_once_itself : (rows : List Row) → HasEachOnce (each_once_by (λ row. row) rows) rows
each_once_itself rows row =
    ap (λ (xs : List Row). count xs row) (sym (map-id (each_once_by (λ r. r) rows))) ∙ each_once (λ r. r) rows row ∙ ap (λ (xs : List Row). once (count xs row)) (map-id rows)

-- a row stands in the list so often as the function says, where it stands in the given rows at all
count-with_copies : (number : Row → ℕ) (rows : List Row) (row : Row) → count (with_copies number rows) row ≡ once (count rows row) * number row
count-with_copies number rows row =
    count_by-flat_map (row_eq row) (λ r. replicate (number r) r) (each_once_by (λ r. r) rows)
    ∙ sum_by-alike (λ r. count (replicate (number r) r) row) (λ r. cond (row_eq row r) (number r) 0) (λ r. copies-replicate row_eq row_exact (number r) r row) (each_once_by (λ r. r) rows)
    ∙ sum_of_one row_eq row_exact number (each_once_by (λ r. r) rows) row
    ∙ ap (λ n. n * number row) (each_once_itself rows row)

copies_once : (kind : SetKind) (all : Bool) (m n : ℕ) → once (m + n) * copies kind all m n ≡ copies kind all m n
copies_once kind all zero zero = omega (arith, none_of_none kind all)
copies_once kind all (suc m) n = let e : once (suc m + n) ≡ 1 = omega arith in ap (λ k. k * copies kind all (suc m) n) e ∙ omega arith
copies_once kind all zero (suc n) = let e : once (zero + suc n) ≡ 1 = omega arith in ap (λ k. k * copies kind all zero (suc n)) e ∙ omega arith

combined_is : (kind : SetKind) (all : Bool) (a b : List Row) → IsSetOperation kind all a b (combined_rows kind all a b)
combined_is kind all a b row =
    count-with_copies (λ r. copies kind all (count a r) (count b r)) (a ++ b) row
    ∙ ap (λ n. once n * copies kind all (count a row) (count b row)) (count-append a b row)
    ∙ copies_once kind all (count a row) (count b row)

aggregated_is : (keys : List TypedExpr) (calls : List AggregateCall) (items : List TypedExpr) (a : List Row) → IsAggregate keys calls items a (aggregated_rows keys calls items a)
aggregated_is keys calls items a = record { different = each_once_by (λ key. key) (key_values keys a); each_once = each_once_itself (key_values keys a); is = refl }

-- what is left of a list stands in it
among_where : (row first : Row) (rows kept : List Row) (b c : Bool) → row_eq row first ≡ c → (0 < count kept row → 0 < count rows row) → 0 < count (cond b kept (first ∷ kept)) row → 0 < count (first ∷ rows) row
among_where row first rows kept true c e h more = omega (arith, copies-cons row_eq row_exact first rows row, h more)
among_where row first rows kept false true e h more = omega (arith, copies-cons row_eq row_exact first rows row, ap {B = ℕ} (λ (t : Bool). cond t 1 0) e)
among_where row first rows kept false false e h more =
    let rest : 0 < count kept row = omega (arith, copies-cons row_eq row_exact first kept row, ap {B = ℕ} (λ (t : Bool). cond t 1 0) e) in
    omega (arith, copies-cons row_eq row_exact first rows row, h rest)

among : (key : Row → Row) (rows : List Row) (row : Row) → 0 < count (each_once_by key rows) row → 0 < count rows row
among key [] row h = h
among key (first ∷ rows) row h = among_where row first rows (each_once_by key rows) (list_any (λ other. row_eq (key first) (key other)) rows) (row_eq row first) refl (among key rows row) h

distinct_is : (columns : List ℕ) (a : List Row) → IsDistinctOn columns a (each_once_by (columns_of columns) a)
distinct_is columns a = record { among = among (columns_of columns) a; each_once = each_once (columns_of columns) a }

-- ---- relations

bounded_limited : (Is : List Row → Type 0) (rows : List Row) → Is rows → Bounded Is (limited rows)
bounded_limited Is rows h = (rows, h, refl)

after_chosen : (input : Allowed) (outcome : Evaluated) (Next : List Row → Allowed) (next : List Row → Evaluated) → input outcome → ((a : List Row) → Next a (next a)) → After input Next (after outcome next)
after_chosen input (Ok a) Next next h g = inr (a, h, g a)
after_chosen input (Err error) Next next h g = inl (error, h, refl)

abbrev AllowsChosen : Node → Type 0
AllowsChosen node = IsWellFormed node → Allows node (chosen node)

allowed_at : (node : Node) (P : Allowed) (outcome : Evaluated) → Allows node ≡ P → chosen node ≡ outcome → P outcome → Allows node (chosen node)
allowed_at node P outcome e f h = subst (λ (Q : Allowed). Q (chosen node)) (sym e) (subst P (sym f) h)

-- of one input, where each list of it gives a list
allowed_after : (input : Node) (Is : List Row → List Row → Type 0) (list : List Row → List Row) → Allows input (chosen input) → ((a : List Row) → Is a (list a))
    → After (Allows input) (λ a. Bounded (Is a)) (after (chosen input) (λ a. limited (list a)))
allowed_after input Is list h g = after_chosen (Allows input) (chosen input) (λ a. Bounded (Is a)) (λ a. limited (list a)) h (λ a. bounded_limited (Is a) (list a) (g a))

-- of two
allowed_after_two : (left right : Node) (Is : List Row → List Row → List Row → Type 0) (list : List Row → List Row → List Row) → Allows left (chosen left) → Allows right (chosen right)
    → ((a b : List Row) → Is a b (list a b))
    → After (Allows left) (λ a. After (Allows right) (λ b. Bounded (Is a b))) (after (chosen left) (λ a. after (chosen right) (λ b. limited (list a b))))
allowed_after_two left right Is list g h is =
    after_chosen (Allows left) (chosen left) (λ a. After (Allows right) (λ b. Bounded (Is a b))) (λ a. after (chosen right) (λ b. limited (list a b))) g
    (λ a. after_chosen (Allows right) (chosen right) (λ b. Bounded (Is a b)) (λ b. limited (list a b)) h (λ b. bounded_limited (Is a b) (list a b) (is a b)))

cases : Cases AllowsChosen
cases = record {
  rows = λ schema rows formed. allowed_at (V.Rows schema rows) (Bounded (λ list. SameCounts list rows)) (limited rows) (Allows-Rows schema rows) (chosen-Rows schema rows)
      (bounded_limited (λ list. SameCounts list rows) rows (λ row. refl));
  range = λ start end step formed. allowed_at (V.Range start end step) (Bounded (IsRange start end step)) (limited (range_rows start end step)) (Allows-Range start end step) (chosen-Range start end step)
      (bounded_limited (IsRange start end step) (range_rows start end step) (made_range start end step (every_here IsSound (V.Range start end step) (O.Range start end step) (V.outs-Range start end step) formed)));
  project = λ input items allowed formed.
      allowed_at (V.Project input items) (After (Allows input) (λ a. Bounded (λ list. list ≡ projected items a))) (after (chosen input) (λ a. limited (projected items a))) (Allows-Project input items) (chosen-Project input items)
      (allowed_after input (λ a list. list ≡ projected items a) (projected items) (allowed (every_input IsSound (V.Project input items) (O.Project input items) (V.outs-Project input items) formed).0) (λ a. refl));
  filter = λ input condition allowed formed.
      allowed_at (V.Filter input condition) (After (Allows input) (λ a. Bounded (λ list. list ≡ selected condition a))) (after (chosen input) (λ a. limited (selected condition a))) (Allows-Filter input condition) (chosen-Filter input condition)
      (allowed_after input (λ a list. list ≡ selected condition a) (selected condition) (allowed (every_input IsSound (V.Filter input condition) (O.Filter input condition) (V.outs-Filter input condition) formed).0) (λ a. refl));
  join = λ left right kind condition allowed_left allowed_right formed.
      let below = every_input IsSound (V.Join left right kind condition) (O.Join left right kind condition) (V.outs-Join left right kind condition) formed in
      let joining = joining_of condition left right in
      allowed_at (V.Join left right kind condition) (After (Allows left) (λ a. After (Allows right) (λ b. Bounded (IsJoin kind joining a b))))
      (after (chosen left) (λ a. after (chosen right) (λ b. limited (joined kind joining a b)))) (Allows-Join left right kind condition) (chosen-Join left right kind condition)
      (allowed_after_two left right (IsJoin kind joining) (joined kind joining) (allowed_left below.0) (allowed_right below.1.0) (λ a b row. refl));
  set_op = λ left right kind all allowed_left allowed_right formed.
      let below = every_input IsSound (V.SetOp left right kind all) (O.SetOp left right kind all) (V.outs-SetOp left right kind all) formed in
      allowed_at (V.SetOp left right kind all) (After (Allows left) (λ a. After (Allows right) (λ b. Bounded (IsSetOperation kind all a b))))
      (after (chosen left) (λ a. after (chosen right) (λ b. limited (combined_rows kind all a b)))) (Allows-SetOp left right kind all) (chosen-SetOp left right kind all)
      (allowed_after_two left right (IsSetOperation kind all) (combined_rows kind all) (allowed_left below.0) (allowed_right below.1.0) (combined_is kind all));
  aggregate = λ input keys calls items allowed formed.
      allowed_at (V.Aggregate input keys calls items) (After (Allows input) (λ a. Bounded (IsAggregate keys calls items a))) (after (chosen input) (λ a. limited (aggregated_rows keys calls items a)))
      (Allows-Aggregate input keys calls items) (chosen-Aggregate input keys calls items)
      (allowed_after input (IsAggregate keys calls items) (aggregated_rows keys calls items)
      (allowed (every_input IsSound (V.Aggregate input keys calls items) (O.Aggregate input keys calls items) (V.outs-Aggregate input keys calls items) formed).0) (aggregated_is keys calls items));
  distinct_on = λ input columns allowed formed.
      allowed_at (V.DistinctOn input columns) (After (Allows input) (λ a. Bounded (IsDistinctOn columns a))) (after (chosen input) (λ a. limited (each_once_by (columns_of columns) a)))
      (Allows-DistinctOn input columns) (chosen-DistinctOn input columns)
      (allowed_after input (IsDistinctOn columns) (each_once_by (columns_of columns)) (allowed (every_input IsSound (V.DistinctOn input columns) (O.DistinctOn input columns) (V.outs-DistinctOn input columns) formed).0) (distinct_is columns));
  sort = λ input keys allowed formed.
      allowed_at (V.Sort input keys) (After (Allows input) (λ a. Bounded (IsSort keys a))) (after (chosen input) (λ a. limited (in_order keys a))) (Allows-Sort input keys) (chosen-Sort input keys)
      (allowed_after input (IsSort keys) (in_order keys) (allowed (every_input IsSound (V.Sort input keys) (O.Sort input keys) (V.outs-Sort input keys) formed).0) (sorts keys));
  slice = λ input skip most allowed formed.
      allowed_at (V.Slice input skip most) (After (Allows input) (λ a. Bounded (λ list. list ≡ sliced skip most a))) (after (chosen input) (λ a. limited (sliced skip most a))) (Allows-Slice input skip most) (chosen-Slice input skip most)
      (allowed_after input (λ a list. list ≡ sliced skip most a) (sliced skip most) (allowed (every_input IsSound (V.Slice input skip most) (O.Slice input skip most) (V.outs-Slice input skip most) formed).0) (λ a. refl));
}

pub chosen_allowed : ChosenIsAllowed
chosen_allowed = induct AllowsChosen cases

outcome_of : (plan : Resolved) (outcome : Evaluated) → Allows plan.node outcome → (o : Outcome) × AllowsPlan plan o
outcome_of plan (Ok rows) h = (Outcome.Rows plan.schema rows, (refl, h))
outcome_of plan (Err PlanError.TooManyRows) h = (Outcome.TooManyRows row_limit, (refl, h))
outcome_of plan (Err PlanError.RowTooLarge) h = (Outcome.RowTooLarge weight_limit, (refl, h))

pub plans_have_outcomes : EveryPlanHasAnOutcome
plans_have_outcomes plan formed = outcome_of plan (chosen plan.node) (chosen_allowed plan.node formed.node)
