-- What the rows of single relations hold.
use Rattle.std.specs.Prelude.{◌≡◌, ◌↔◌, ℕ, ◌≤◌, ◌<◌, ◌+◌, ◌*◌, ◌⊎◌, true, false, List, [], ◌++◌, length, All, IsPermutation, Some, Ok}
use Rattle.std.specs.declared.cmp.Ordering.TheVariants.{Equal}
use Rattle.cn_types.specs.declared.row.Row.{Row}
use Rattle.cn_types.specs.Fit.{FitsTypes}
use Rattle.cn_types.specs.Order.{count}
use Rattle.plan_model.specs.declared.expression.TypedExpr.{TypedExpr}
use Rattle.plan_model.specs.declared.node.AggregateCall.{AggregateCall}
use Rattle.plan_model.specs.declared.node.JoinKind.{JoinKind}
use Rattle.plan_model.specs.declared.node.Node.{Node}
use Rattle.plan_model.specs.declared.node.Node.TheVariants.{Join, SetOp, Aggregate, Sort}
use Rattle.plan_model.specs.declared.node.SetKind.{SetKind}
use Rattle.plan_model.specs.declared.node.SortKey.{SortKey}
use Rattle.plan_model.specs.Allows.{Allows}
use Rattle.plan_model.specs.Counts.{SameCounts, HasEachOnce}
use Rattle.plan_model.specs.Groups.{columns_of, IsDistinctOn}
use Rattle.plan_model.specs.Joins.{Joining, beside, IsJoin}
use Rattle.plan_model.specs.NodeTypes.{types}
use Rattle.plan_model.specs.OutcomeLaws.{IsDetermined}
use Rattle.plan_model.specs.SetOperations.{IsSetOperation}
use Rattle.plan_model.specs.Sorting.{rows_order, IsInOrder, IsSort}
use Rattle.plan_model.specs.Truth.{is_true}
use Rattle.plan_model.specs.Val.{val}
use Rattle.plan_model.specs.ValueRanges.{HasValuesInRange, HasContentInRange}
use Rattle.plan_model.specs.WellFormed.{IsWellFormed}

-- lists have the same counts exactly where one is a permutation of the other
abbrev pub PermutationsHaveTheSameCounts : Type 0
PermutationsHaveTheSameCounts = (xs ys : List Row) → IsPermutation xs ys ↔ SameCounts xs ys

-- an inner join whose condition is never true of rows that fit and are in range has no row
abbrev pub NeverMatches : Type 0
NeverMatches =
    (left right : Node) (condition : TypedExpr) → IsWellFormed left → IsWellFormed right → HasContentInRange left → HasContentInRange right
    → ((row : Row) → FitsTypes (types left ++ types right) row → HasValuesInRange row → is_true (val condition row) ≡ false)
    → (rows : List Row) → Allows (Join left right JoinKind.Inner (Some condition)) (Ok rows) → rows ≡ []

-- so it has; semi and anti joins split the left rows; a cross join of which each pair matches has so many rows as there are pairs
pub record JoinsMatch : Type 0 where
  pub never_true : NeverMatches
  pub semi_and_anti : (joining : Joining) (a b semi anti : List Row) → IsJoin JoinKind.Semi joining a b semi → IsJoin JoinKind.Anti joining a b anti
      → (row : Row) → (count semi row + count anti row) ≡ count a row
  pub each_pair : (joining : Joining) (a b rows : List Row) → ((left right : Row) → joining.matching left right ≡ true) → IsJoin JoinKind.Cross joining a b rows → length rows ≡ (length a * length b)

-- a row of a pair that matches
pub record IsPair (joining : Joining) (a b : List Row) (row : Row) : Type 0 where
  pub left : Row
  pub right : Row
  pub in_left : 0 < count a left
  pub in_right : 0 < count b right
  pub match : joining.matching left right ≡ true
  pub is : row ≡ beside left right

-- a left row has no match, or a right row
abbrev pub HasNoRight : Joining → List Row → Row → Type 0
HasNoRight joining b left = (right : Row) → 0 < count b right → joining.matching left right ≡ false

abbrev pub HasNoLeft : Joining → List Row → Row → Type 0
HasNoLeft joining a right = (left : Row) → 0 < count a left → joining.matching left right ≡ false

-- a left row without a match beside nulls, or a right row
pub record IsLeftAlone (joining : Joining) (a b : List Row) (row : Row) : Type 0 where
  pub left : Row
  pub in_left : 0 < count a left
  pub no_match : HasNoRight joining b left
  pub is : row ≡ beside left joining.right_nulls

pub record IsRightAlone (joining : Joining) (a b : List Row) (row : Row) : Type 0 where
  pub right : Row
  pub in_right : 0 < count b right
  pub no_match : HasNoLeft joining a right
  pub is : row ≡ beside joining.left_nulls right

-- a left row that has a match
pub record HasMatch (joining : Joining) (a b : List Row) (row : Row) : Type 0 where
  pub in_left : 0 < count a row
  pub right : Row
  pub in_right : 0 < count b right
  pub match : joining.matching row right ≡ true

-- which rows a join has
abbrev pub IsOfJoin : JoinKind → Joining → List Row → List Row → Row → Type 0
IsOfJoin JoinKind.Inner joining a b row = IsPair joining a b row
IsOfJoin JoinKind.Cross joining a b row = IsPair joining a b row
IsOfJoin JoinKind.Left joining a b row = IsPair joining a b row ⊎ IsLeftAlone joining a b row
IsOfJoin JoinKind.Right joining a b row = IsPair joining a b row ⊎ IsRightAlone joining a b row
IsOfJoin JoinKind.Full joining a b row = IsPair joining a b row ⊎ (IsLeftAlone joining a b row ⊎ IsRightAlone joining a b row)
IsOfJoin JoinKind.Semi joining a b row = HasMatch joining a b row
IsOfJoin JoinKind.Anti joining a b row = (0 < count a row) × HasNoRight joining b row

-- a join has these rows and no other; where the left rows are of one width, a pair that matches stands in an inner join as often as its
-- two rows stand in the inputs
pub record JoinsHoldTheirRows : Type 0 where
  pub rows_of : (kind : JoinKind) (joining : Joining) (a b rows : List Row) → IsJoin kind joining a b rows → (row : Row) → (0 < count rows row) ↔ IsOfJoin kind joining a b row
  pub pairs_counted : (joining : Joining) (a b rows : List Row) (left right : Row) → All (λ row. length row.0 ≡ length left.0) a → joining.matching left right ≡ true
      → IsJoin JoinKind.Inner joining a b rows → count rows (beside left right) ≡ (count a left * count b right)

-- EXCEPT ALL of a relation with itself has no row, where no choice is made in it, nor of two lists with the same counts; UNION ALL adds
-- the counts of its inputs; INTERSECT ALL and EXCEPT ALL split the left rows; without ALL each row stands there at most once
pub record SetOperationsCount : Type 0 where
  pub except_itself : (node : Node) → IsDetermined node → (rows : List Row) → Allows (SetOp node node SetKind.Except true) (Ok rows) → rows ≡ []
  pub except_same : (a b rows : List Row) → SameCounts a b → IsSetOperation SetKind.Except true a b rows → rows ≡ []
  pub union_adds : (left right : Node) (rows : List Row) → Allows (SetOp left right SetKind.Union true) (Ok rows)
      → (a : List Row) × (b : List Row) × Allows left (Ok a) × Allows right (Ok b) × ((row : Row) → count rows row ≡ (count a row + count b row))
  pub intersect_and_except : (a b both rest : List Row) → IsSetOperation SetKind.Intersect true a b both → IsSetOperation SetKind.Except true a b rest
      → (row : Row) → (count both row + count rest row) ≡ count a row
  pub at_most_once : (kind : SetKind) (a b rows : List Row) → IsSetOperation kind false a b rows → (row : Row) → count rows row ≤ 1

-- an aggregate without keys has one row, also over no row
abbrev pub OneRowWithoutKeys : Type 0
OneRowWithoutKeys = (input : Node) (calls : List AggregateCall) (items : List TypedExpr) (rows : List Row) → Allows (Aggregate input [] calls items) (Ok rows) → length rows ≡ 1

-- distinct rows on columns that give each row back are the rows, each once
abbrev pub DistinctRowsAreASet : Type 0
DistinctRowsAreASet = (columns : List ℕ) (rows list : List Row) → ((row : Row) → 0 < count rows row → columns_of columns row ≡ row) → IsDistinctOn columns rows list ↔ HasEachOnce list rows

-- rows that are in order may stay as they are
abbrev pub SortedRowsStay : Type 0
SortedRowsStay = (input : Node) (keys : List SortKey) (rows : List Row) → IsInOrder keys rows → Allows input (Ok rows) → Allows (Sort input keys) (Ok rows)

-- where no two of the rows tie, a sort has one list
abbrev pub SortsWithoutTiesAreUnique : Type 0
SortsWithoutTiesAreUnique = (keys : List SortKey) (rows xs ys : List Row)
    → ((x y : Row) → 0 < count rows x → 0 < count rows y → rows_order keys x y ≡ Equal → x ≡ y) → IsSort keys rows xs → IsSort keys rows ys → xs ≡ ys
