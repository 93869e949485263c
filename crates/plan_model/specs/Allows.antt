-- Which outcomes a resolved plan allows.
use Rattle.std.specs.Prelude.{◌≡◌, Option, Ok, Err}
use Rattle.plan_model.specs.declared.expression.TypedExpr.{TypedExpr}
use Rattle.plan_model.specs.declared.node.Node.{Node}
use Rattle.plan_model.specs.declared.node.Node.TheOpen.{Node-F}
use Rattle.plan_model.specs.declared.node.Node.TheFolds.{rec-Node}
use Rattle.plan_model.specs.declared.outcome.Outcome.{Outcome}
use Rattle.plan_model.specs.declared.plan.Resolved.{Resolved}
use Rattle.plan_model.specs.Counts.{SameCounts}
use Rattle.plan_model.specs.Groups.{IsAggregate, IsDistinctOn}
use Rattle.plan_model.specs.Joins.{Joining, IsJoin, matches, nulls}
use Rattle.plan_model.specs.NodeTypes.{types}
use Rattle.plan_model.specs.Outcomes.{PlanError, Allowed, Bounded, After, row_limit, weight_limit}
use Rattle.plan_model.specs.Ranges.{IsRange}
use Rattle.plan_model.specs.Selections.{projected, selected, sliced}
use Rattle.plan_model.specs.SetOperations.{IsSetOperation}
use Rattle.plan_model.specs.Sorting.{IsSort}

-- how two relations are joined
abbrev pub joining_of : Option TypedExpr → Node → Node → Joining
joining_of condition left right = record { matching = matches condition; left_nulls = nulls (types left); right_nulls = nulls (types right) }

-- one relation, where `node` tells each input and `allowed` which outcomes it allows: an error of the inputs from left to right; else,
-- with a list of each input, a list of the relation within the limits
abbrev pub Allows_step : (X : Type 0) → (X → Node) → (X → Allowed) → Node-F X → Allowed
Allows_step X node allowed (Node-F.Rows schema rows) = Bounded (λ list. SameCounts list rows)
Allows_step X node allowed (Node-F.Range start end step) = Bounded (IsRange start end step)
Allows_step X node allowed (Node-F.Project input items) = After (allowed input) (λ a. Bounded (λ list. list ≡ projected items a))
Allows_step X node allowed (Node-F.Filter input condition) = After (allowed input) (λ a. Bounded (λ list. list ≡ selected condition a))
Allows_step X node allowed (Node-F.Join left right kind condition) =
    After (allowed left) (λ a. After (allowed right) (λ b. Bounded (IsJoin kind (joining_of condition (node left) (node right)) a b)))
Allows_step X node allowed (Node-F.SetOp left right kind all) = After (allowed left) (λ a. After (allowed right) (λ b. Bounded (IsSetOperation kind all a b)))
Allows_step X node allowed (Node-F.Aggregate input keys calls items) = After (allowed input) (λ a. Bounded (IsAggregate keys calls items a))
Allows_step X node allowed (Node-F.DistinctOn input columns) = After (allowed input) (λ a. Bounded (IsDistinctOn columns a))
Allows_step X node allowed (Node-F.Sort input keys) = After (allowed input) (λ a. Bounded (IsSort keys a))
Allows_step X node allowed (Node-F.Slice input skip most) = After (allowed input) (λ a. Bounded (λ list. list ≡ sliced skip most a))

-- the outcomes that a relation allows
unfoldable pub Allows : Node → Allowed
Allows = rec-Node Allowed Allows_step

-- the outcomes that a plan allows: rows under its schema, or an error with its limit
abbrev pub AllowsPlan : Resolved → Outcome → Type 0
AllowsPlan plan (Outcome.Rows schema rows) = (schema ≡ plan.schema) × Allows plan.node (Ok rows)
AllowsPlan plan (Outcome.TooManyRows limit) = (limit ≡ row_limit) × Allows plan.node (Err PlanError.TooManyRows)
AllowsPlan plan (Outcome.RowTooLarge limit) = (limit ≡ weight_limit) × Allows plan.node (Err PlanError.RowTooLarge)
