-- What the rows of single relations hold.
use Rattle.std.proofs.Common.{◌≡◌, ◌≤◌, ◌<◌, ◌+◌, ℕ, Bool, true, false, cond, ◌==◌, if◌then◌else◌, Ok, List, [], ◌∷◌, map, length, filter, refl, sym, ap, ◌∙◌, subst, inr, arith}
use mathlib.Core.Path.{subst₂}
use Rattle.std.specs.List.{AllByRecursion}
use Rattle.std.proofs.lemmas.List.{length-map}
use Rattle.std.proofs.lemmas.List.Elements.{All-from_recursion}
use Rattle.std.proofs.lemmas.List.Sorted.{IsPermutation-refl}
use Rattle.cn_types.specs.declared.row.Row.{Row}
use Rattle.cn_types.specs.Order.{count, row_eq}
use Rattle.cn_types.specs.Weight.{row_weight}
use Rattle.plan_model.specs.declared.node.Node.{Node}
use Rattle.plan_model.specs.declared.node.Node.TheVariants as V
use Rattle.plan_model.specs.declared.node.SetKind.{SetKind}
use Rattle.plan_model.specs.Allows.{Allows, joining_of}
use Rattle.plan_model.specs.Counts.{SameCounts, once, HasEachOnce}
use Rattle.plan_model.specs.Groups.{aggregated, columns_of, IsAggregate, IsDistinctOn}
use Rattle.plan_model.specs.Joins.{IsJoin}
use Rattle.plan_model.specs.OutcomeLaws.{RowsAreWithinLimits}
use Rattle.plan_model.specs.Outcomes.{Evaluated, Allowed, Bounded, After, limited, weight_limit}
use Rattle.plan_model.specs.Ranges.{IsRange}
use Rattle.plan_model.specs.RelationLaws.{SetOperationsCount, OneRowWithoutKeys, DistinctRowsAreASet, SortedRowsStay}
use Rattle.plan_model.specs.Selections.{projected, selected, sliced}
use Rattle.plan_model.specs.SetOperations.{copies, IsSetOperation}
use Rattle.plan_model.specs.Sorting.{IsSort}
use Rattle.plan_model.proofs.AllowsFacts.{Allows-Rows, Allows-Range, Allows-Project, Allows-Filter, Allows-Join, Allows-SetOp, Allows-Aggregate, Allows-DistinctOn, Allows-Sort, Allows-Slice}
use Rattle.plan_model.proofs.Determined.{determined_outcomes_alike}
use Rattle.plan_model.proofs.Multisets.{copies-here}
use Rattle.plan_model.proofs.NodeFacts.{Cases, induct}
use Rattle.plan_model.proofs.OutcomeFacts.{bounded_rows, bounded_within, bounded_from, after_rows, within_limits}
use Rattle.plan_model.proofs.RowCounts.{row_exact, length-SameCounts, All-from_counts}

-- ---- limits

abbrev IsWithin : Node → Type 0
IsWithin node = (rows : List Row) → Allows node (Ok rows) → limited rows ≡ Ok rows

-- what a relation's kind allows
pub allowed_as : (node : Node) (P : Allowed) (outcome : Evaluated) → Allows node ≡ P → Allows node outcome → P outcome
allowed_as node P outcome e h = subst (λ (Q : Allowed). Q outcome) e h

within_after : (input : Node) (Is : List Row → List Row → Type 0) (rows : List Row) → After (Allows input) (λ a. Bounded (Is a)) (Ok rows) → limited rows ≡ Ok rows
within_after input Is rows h =
    let t = after_rows (Allows input) (λ a. Bounded (Is a)) rows h in
    bounded_within (Is t.0) rows t.2

within_after_two : (left right : Node) (Is : List Row → List Row → List Row → Type 0) (rows : List Row) → After (Allows left) (λ a. After (Allows right) (λ b. Bounded (Is a b))) (Ok rows) → limited rows ≡ Ok rows
within_after_two left right Is rows h =
    let s = after_rows (Allows left) (λ a. After (Allows right) (λ b. Bounded (Is a b))) rows h in
    within_after right (Is s.0) rows s.2

cases : Cases IsWithin
cases = record {
  rows = λ schema source rows h. bounded_within (λ list. SameCounts list source) rows (allowed_as (V.Rows schema source) (Bounded (λ list. SameCounts list source)) (Ok rows) (Allows-Rows schema source) h);
  range = λ start end step rows h. bounded_within (IsRange start end step) rows (allowed_as (V.Range start end step) (Bounded (IsRange start end step)) (Ok rows) (Allows-Range start end step) h);
  project = λ input items within rows h.
      within_after input (λ a list. list ≡ projected items a) rows (allowed_as (V.Project input items) (After (Allows input) (λ a. Bounded (λ list. list ≡ projected items a))) (Ok rows) (Allows-Project input items) h);
  filter = λ input condition within rows h.
      within_after input (λ a list. list ≡ selected condition a) rows (allowed_as (V.Filter input condition) (After (Allows input) (λ a. Bounded (λ list. list ≡ selected condition a))) (Ok rows) (Allows-Filter input condition) h);
  join = λ left right kind condition in_left in_right rows h.
      within_after_two left right (IsJoin kind (joining_of condition left right)) rows
      (allowed_as (V.Join left right kind condition) (After (Allows left) (λ a. After (Allows right) (λ b. Bounded (IsJoin kind (joining_of condition left right) a b)))) (Ok rows) (Allows-Join left right kind condition) h);
  set_op = λ left right kind all in_left in_right rows h.
      within_after_two left right (IsSetOperation kind all) rows
      (allowed_as (V.SetOp left right kind all) (After (Allows left) (λ a. After (Allows right) (λ b. Bounded (IsSetOperation kind all a b)))) (Ok rows) (Allows-SetOp left right kind all) h);
  aggregate = λ input keys calls items within rows h.
      within_after input (IsAggregate keys calls items) rows (allowed_as (V.Aggregate input keys calls items) (After (Allows input) (λ a. Bounded (IsAggregate keys calls items a))) (Ok rows) (Allows-Aggregate input keys calls items) h);
  distinct_on = λ input columns within rows h.
      within_after input (IsDistinctOn columns) rows (allowed_as (V.DistinctOn input columns) (After (Allows input) (λ a. Bounded (IsDistinctOn columns a))) (Ok rows) (Allows-DistinctOn input columns) h);
  sort = λ input keys within rows h.
      within_after input (IsSort keys) rows (allowed_as (V.Sort input keys) (After (Allows input) (λ a. Bounded (IsSort keys a))) (Ok rows) (Allows-Sort input keys) h);
  slice = λ input skip most within rows h.
      within_after input (λ a list. list ≡ sliced skip most a) rows (allowed_as (V.Slice input skip most) (After (Allows input) (λ a. Bounded (λ list. list ≡ sliced skip most a))) (Ok rows) (Allows-Slice input skip most) h);
}

-- the rows of an allowed outcome are within the limits
pub allowed_within : (node : Node) (rows : List Row) → Allows node (Ok rows) → limited rows ≡ Ok rows
allowed_within = induct IsWithin cases

pub rows_within_limits : RowsAreWithinLimits
rows_within_limits node rows h =
    let parts = within_limits rows (allowed_within node rows h) in
    (parts.0, All-from_recursion (λ row. row_weight row ≤ weight_limit) rows parts.1)

-- ---- sorts

pub sorted_rows_stay : SortedRowsStay
sorted_rows_stay input keys rows ordered h =
    let sort : IsSort keys rows rows = record { permuted = IsPermutation-refl rows; ordered = ordered } in
    let inner : After (Allows input) (λ a. Bounded (IsSort keys a)) (Ok rows) = inr (rows, h, bounded_from (IsSort keys rows) rows sort (allowed_within input rows h)) in
    subst (λ (Q : Allowed). Q (Ok rows)) (sym (Allows-Sort input keys)) inner

-- ---- aggregates without keys

abbrev pub no_values : Row
no_values = record { 0 = [] }

pub once_or_none : (b : Bool) → once (0 + cond b 1 0) ≡ 0 + cond b 1 0
once_or_none true = refl
once_or_none false = refl

one_key : (different : List Row) → ((row : Row) → count different row ≡ once (count (no_values ∷ []) row)) → length different ≡ 1
one_key different h = length-SameCounts different (no_values ∷ []) (λ row. h row ∙ once_or_none (row_eq row no_values))

pub one_row_without_keys : OneRowWithoutKeys
one_row_without_keys input calls items rows h =
    let t = after_rows (Allows input) (λ a. Bounded (IsAggregate [] calls items a)) rows (allowed_as (V.Aggregate input [] calls items) (After (Allows input) (λ a. Bounded (IsAggregate [] calls items a))) (Ok rows) (Allows-Aggregate input [] calls items) h) in
    let is = bounded_rows (IsAggregate [] calls items t.0) rows t.2 in
    ap length is.is ∙ length-map is.different (aggregated [] calls items t.0) ∙ one_key is.different is.each_once

-- ---- distinct rows on all columns

map_fixed : (f : Row → Row) (rows : List Row) → AllByRecursion (λ row. f row ≡ row) rows → map f rows ≡ rows
map_fixed f [] h = refl
map_fixed f (row ∷ rows) h = ap (λ r. r ∷ map f rows) h.0 ∙ ap (λ rs. row ∷ rs) (map_fixed f rows h.1)

pub distinct_rows_are_a_set : DistinctRowsAreASet
distinct_rows_are_a_set columns rows list fixed =
    let f = columns_of columns in
    let rows_fixed = map_fixed f rows (All-from_counts (λ row. f row ≡ row) rows fixed) in (
      (λ (h : IsDistinctOn columns rows list).
          let list_fixed = map_fixed f list (All-from_counts (λ row. f row ≡ row) list (λ row more. fixed row (h.among row more))) in
          subst₂ HasEachOnce list_fixed rows_fixed h.each_once),
      λ (h : HasEachOnce list rows).
          let among : (row : Row) → 0 < count list row → 0 < count rows row = λ row more. omega (arith, h row) in
          let list_fixed = map_fixed f list (All-from_counts (λ row. f row ≡ row) list (λ row more. fixed row (among row more))) in
          record { among = among; each_once = subst₂ HasEachOnce (sym list_fixed) (sym rows_fixed) h },
    )

-- ---- set operations

pub nothing_counted : (rows : List Row) → ((row : Row) → count rows row ≡ 0) → rows ≡ []
nothing_counted [] h = refl
nothing_counted (row ∷ rows) h = absurd (omega (arith, copies-here row_eq row_exact row rows, h row))

except_same : (a b rows : List Row) → SameCounts a b → IsSetOperation SetKind.Except true a b rows → rows ≡ []
except_same a b rows same h = nothing_counted rows (λ row. omega (arith, h row, same row))

left_alone_le : (m : ℕ) (b : Bool) → (if b then once m else 0) ≤ 1
left_alone_le m true = omega arith
left_alone_le m false = omega arith

once-le : (kind : SetKind) (m n : ℕ) → copies kind false m n ≤ 1
once-le SetKind.Union m n = omega arith
once-le SetKind.Intersect m n = omega arith
once-le SetKind.Except m n = left_alone_le m (n == 0)

set_operation_rows : (left right : Node) (kind : SetKind) (all : Bool) (rows : List Row) → Allows (V.SetOp left right kind all) (Ok rows)
    → (a : List Row) × (b : List Row) × Allows left (Ok a) × Allows right (Ok b) × IsSetOperation kind all a b rows
set_operation_rows left right kind all rows h =
    let s = after_rows (Allows left) (λ a. After (Allows right) (λ b. Bounded (IsSetOperation kind all a b))) rows
    (allowed_as (V.SetOp left right kind all) (After (Allows left) (λ a. After (Allows right) (λ b. Bounded (IsSetOperation kind all a b)))) (Ok rows) (Allows-SetOp left right kind all) h) in
    let t = after_rows (Allows right) (λ b. Bounded (IsSetOperation kind all s.0 b)) rows s.2 in
    (s.0, t.0, s.1, t.1, bounded_rows (IsSetOperation kind all s.0 t.0) rows t.2)

pub set_operations_count : SetOperationsCount
set_operations_count = record {
  except_itself = λ node fixed rows h.
      let t = set_operation_rows node node SetKind.Except true rows h in
      except_same t.0 t.1 rows (determined_outcomes_alike node fixed (Ok t.0) (Ok t.1) t.2 t.3) t.4;
  except_same = except_same;
  union_adds = λ left right rows h. set_operation_rows left right SetKind.Union true rows h;
  intersect_and_except = λ a b both rest f g row. omega (arith, f row, g row);
  at_most_once = λ kind a b rows h row. subst (λ n. n ≤ 1) (sym (h row)) (once-le kind (count a row) (count b row));
}

-- ---- filters

pub all_pass : (p : Row → Bool) (rows : List Row) → ((row : Row) → p row ≡ true) → filter p rows ≡ rows
all_pass p [] h = refl
all_pass p (row ∷ rows) h = ap (λ (b : Bool). cond b (row ∷ filter p rows) (filter p rows)) (h row) ∙ ap (λ rs. row ∷ rs) (all_pass p rows h)
