-- Which rows match in a join, and how often rows stand in it.
use Rattle.std.specs.Prelude.{◌≡◌, ◌↔◌, ℕ, ◌+◌, ◌*◌, ◌&&◌, not, true, if◌then◌else◌, Option, None, Some, List, ◌++◌, length, All, replicate}
use Rattle.cn_types.specs.declared.row.Row.{Row}
use Rattle.cn_types.specs.declared.value.Value.TheVariants.{Null, Boolean}
use Rattle.cn_types.specs.Order.{count, row_eq}
use Rattle.plan_model.specs.declared.expression.TypedExpr.{TypedExpr}
use Rattle.plan_model.specs.declared.node.JoinKind.{JoinKind}
use Rattle.plan_model.specs.declared.node.Node.{Node}
use Rattle.plan_model.specs.declared.node.Node.TheVariants.{Join}
use Rattle.plan_model.specs.Allows.{Allows, joining_of}
use Rattle.plan_model.specs.Joins.{Joining, beside, has_right, has_left, IsJoin}
use Rattle.plan_model.specs.KindLaws.{AllowsAs}
use Rattle.plan_model.specs.NodeTypes.{types}
use Rattle.plan_model.specs.Val.{val}

-- what a join goes by: two rows match where the condition is true of the row that has the left values and then the right ones, and without a
-- condition always; nulls stand in place of a row as wide as its side; a cross join with a condition is an inner one
pub record JoinsGoByConditions : Type 0 where
  pub with_condition : (condition : TypedExpr) (left right : Node) (a b : Row) → ((joining_of (Some condition) left right).matching a b ≡ true) ↔ (val condition (record { 0 = a.0 ++ b.0 }) ≡ Boolean true)
  pub without : (left right : Node) (a b : Row) → (joining_of None left right).matching a b ≡ true
  pub left_nulls : (condition : Option TypedExpr) (left right : Node) → (joining_of condition left right).left_nulls ≡ record { 0 = replicate (length (types left)) Null }
  pub right_nulls : (condition : Option TypedExpr) (left right : Node) → (joining_of condition left right).right_nulls ≡ record { 0 = replicate (length (types right)) Null }
  pub cross : (left right : Node) (condition : Option TypedExpr) → AllowsAs (Allows (Join left right JoinKind.Cross condition)) (Allows (Join left right JoinKind.Inner condition))

-- the rows of the join are two rows side by side
abbrev pub HasBothSides : JoinKind → Type 0
HasBothSides JoinKind.Semi = ⊥
HasBothSides JoinKind.Anti = ⊥
HasBothSides kind = Unit {0}

-- how often two rows side by side stand there as a pair that matches, as a left row without a match beside nulls, and as a right row without
-- one
abbrev pub copies_as_pair : Joining → List Row → List Row → Row → Row → ℕ
copies_as_pair joining a b left right = if joining.matching left right then count a left * count b right else 0

abbrev pub copies_left_alone : Joining → List Row → List Row → Row → Row → ℕ
copies_left_alone joining a b left right = if row_eq right joining.right_nulls && not (has_right joining b left) then count a left else 0

abbrev pub copies_right_alone : Joining → List Row → List Row → Row → Row → ℕ
copies_right_alone joining a b left right = if row_eq left joining.left_nulls && not (has_left joining a right) then count b right else 0

-- and in all
abbrev pub copies_of_both : JoinKind → Joining → List Row → List Row → Row → Row → ℕ
copies_of_both JoinKind.Left joining a b left right = copies_as_pair joining a b left right + copies_left_alone joining a b left right
copies_of_both JoinKind.Right joining a b left right = copies_as_pair joining a b left right + copies_right_alone joining a b left right
copies_of_both JoinKind.Full joining a b left right = copies_as_pair joining a b left right + copies_left_alone joining a b left right + copies_right_alone joining a b left right
copies_of_both kind joining a b left right = copies_as_pair joining a b left right

-- where the left rows are as wide as the row asked for, a join has two rows side by side so often; a semi and an anti join have all copies
-- of the left rows with, and without, a match
pub record JoinsCountTheirRows : Type 0 where
  pub both_sides : (kind : JoinKind) (joining : Joining) (a b rows : List Row) (left right : Row) → HasBothSides kind → All (λ row. length row.0 ≡ length left.0) a
      → length joining.left_nulls.0 ≡ length left.0 → IsJoin kind joining a b rows → count rows (beside left right) ≡ copies_of_both kind joining a b left right
  pub semi : (joining : Joining) (a b rows : List Row) (left : Row) → IsJoin JoinKind.Semi joining a b rows → count rows left ≡ (if has_right joining b left then count a left else 0)
  pub anti : (joining : Joining) (a b rows : List Row) (left : Row) → IsJoin JoinKind.Anti joining a b rows → count rows left ≡ (if has_right joining b left then 0 else count a left)
