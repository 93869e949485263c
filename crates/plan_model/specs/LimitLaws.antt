-- The limits of rows, and which error comes first.
use Rattle.std.specs.Prelude.{◌≡◌, ◌↔◌, ℕ, ◌≤◌, ◌<◌, Option, List, [], ◌∷◌, ◌++◌, length, All, Ok, Err}
use Rattle.cn_types.specs.declared.row.Row.{Row}
use Rattle.cn_types.specs.declared.schema.Schema.{Schema}
use Rattle.cn_types.specs.Order.{count}
use Rattle.cn_types.specs.Weight.{row_weight}
use Rattle.plan_model.specs.declared.expression.TypedExpr.{TypedExpr}
use Rattle.plan_model.specs.declared.node.JoinKind.{JoinKind}
use Rattle.plan_model.specs.declared.node.Node.TheVariants.{Join}
use Rattle.plan_model.specs.declared.outcome.Outcome.{Outcome}
use Rattle.plan_model.specs.declared.plan.Resolved.{Resolved}
use Rattle.plan_model.specs.Allows.{Allows, AllowsPlan}
use Rattle.plan_model.specs.Outcomes.{PlanError, Evaluated, limited}
use Rattle.plan_model.specs.WorkedPlans.{given}

-- rows are an outcome where they are at most 4,194,304 and none weighs more than 8,388,608 bytes; too many rows are an error whatever they
-- weigh, and a row that is too large is one where the rows are not too many
pub record RowsAreLimited : Type 0 where
  pub within : (rows list : List Row) → (limited rows ≡ Ok list) ↔ ((list ≡ rows) × (length rows ≤ 4194304) × All (λ row. row_weight row ≤ 8388608) rows)
  pub too_many : (rows : List Row) → (limited rows ≡ Err PlanError.TooManyRows) ↔ (4194304 < length rows)
  pub too_large : (rows : List Row) → (limited rows ≡ Err PlanError.RowTooLarge) ↔ ((length rows ≤ 4194304) × ((row : Row) × (0 < count rows row) × (8388608 < row_weight row)))
  pub too_many_so_far : (front back : List Row) → 4194304 < length front → limited (front ++ back) ≡ Err PlanError.TooManyRows

-- a plan's answer: its rows under its schema, or an error with the limit that it tells
pub record PlansAreLimited : Type 0 where
  pub rows : (plan : Resolved) (schema : Schema) (rows : List Row) → AllowsPlan plan (Outcome.Rows schema rows) ↔ ((schema ≡ plan.schema) × Allows plan.node (Ok rows))
  pub too_many : (plan : Resolved) (limit : ℕ) → AllowsPlan plan (Outcome.TooManyRows limit) ↔ ((◌≡◌ {A = ℕ} limit 4194304) × Allows plan.node (Err PlanError.TooManyRows))
  pub too_large : (plan : Resolved) (limit : ℕ) → AllowsPlan plan (Outcome.RowTooLarge limit) ↔ ((◌≡◌ {A = ℕ} limit 8388608) × Allows plan.node (Err PlanError.RowTooLarge))

-- more rows than there may be, and a row that is heavier than one may be
pub record AreTooMuch (many : List Row) (heavy : Row) : Type 0 where
  pub too_many : 4194304 < length many
  pub too_large : 8388608 < row_weight heavy

-- of two inputs that both fail a join has the left one's error, whichever of them that is; and there are inputs that fail so
pub record FirstErrorsAreOfTheLeft : Type 0 where
  pub many_first : (kind : JoinKind) (condition : Option TypedExpr) (many : List Row) (heavy : Row) → AreTooMuch many heavy
      → (outcome : Evaluated) → Allows (Join (given many) (given (heavy ∷ [])) kind condition) outcome ↔ (outcome ≡ Err PlanError.TooManyRows)
  pub large_first : (kind : JoinKind) (condition : Option TypedExpr) (many : List Row) (heavy : Row) → AreTooMuch many heavy
      → (outcome : Evaluated) → Allows (Join (given (heavy ∷ [])) (given many) kind condition) outcome ↔ (outcome ≡ Err PlanError.RowTooLarge)
  pub there_are : (many : List Row) × (heavy : Row) × AreTooMuch many heavy
