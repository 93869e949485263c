-- What the outcomes of plans hold.
use Rattle.std.specs.Prelude.{◌≡◌, ◌≤◌, List, length, All, Ok, Err}
use Rattle.cn_types.specs.declared.row.Row.{Row}
use Rattle.cn_types.specs.declared.schema.Schema.{Schema}
use Rattle.cn_types.specs.Fit.{Fits, FitsTypes}
use Rattle.cn_types.specs.Weight.{row_weight}
use Rattle.plan_model.specs.declared.node.Node.{Node}
use Rattle.plan_model.specs.declared.node.Node.TheOpen.{Node-F}
use Rattle.plan_model.specs.declared.node.Node.TheFolds.{every-Node}
use Rattle.plan_model.specs.declared.outcome.Outcome.{Outcome}
use Rattle.plan_model.specs.declared.plan.Resolved.{Resolved}
use Rattle.plan_model.specs.Allows.{Allows, AllowsPlan}
use Rattle.plan_model.specs.Chosen.{chosen}
use Rattle.plan_model.specs.Counts.{SameCounts}
use Rattle.plan_model.specs.NodeTypes.{types}
use Rattle.plan_model.specs.Outcomes.{Evaluated, row_limit, weight_limit}
use Rattle.plan_model.specs.WellFormed.{IsWellFormed, IsWellFormedPlan}

-- the same error, or the same rows in some order
abbrev pub AreAlike : Evaluated → Evaluated → Type 0
AreAlike (Ok xs) (Ok ys) = SameCounts xs ys
AreAlike (Err e) (Err f) = e ≡ f
AreAlike x y = ⊥

-- neither a slice nor distinct rows on columns, which rows depend on an order
abbrev pub IsNoChoice : Node-F Node → Type 0
IsNoChoice (Node-F.DistinctOn input columns) = ⊥
IsNoChoice (Node-F.Slice input skip most) = ⊥
IsNoChoice other = Unit {0}

-- a relation in which no such choice is made
abbrev pub IsDetermined : Node → Type 0
IsDetermined = every-Node IsNoChoice

-- the outcomes of a relation in which no choice is made are alike
abbrev pub DeterminedOutcomesAreAlike : Type 0
DeterminedOutcomesAreAlike = (node : Node) → IsDetermined node → (x y : Evaluated) → Allows node x → Allows node y → AreAlike x y

-- the rows of an outcome that a well-formed relation allows have the relation's types
abbrev pub RowsHaveTheTypes : Type 0
RowsHaveTheTypes = (node : Node) → IsWellFormed node → (rows : List Row) → Allows node (Ok rows) → All (FitsTypes (types node)) rows

-- the rows of an outcome that a well-formed plan allows fit the schema
abbrev pub RowsFitTheSchema : Type 0
RowsFitTheSchema = (plan : Resolved) → IsWellFormedPlan plan → (schema : Schema) (rows : List Row) → AllowsPlan plan (Outcome.Rows schema rows) → All (Fits schema) rows

-- the rows of an allowed outcome are within the limits
abbrev pub RowsAreWithinLimits : Type 0
RowsAreWithinLimits = (node : Node) (rows : List Row) → Allows node (Ok rows) → (length rows ≤ row_limit) × All (λ row. row_weight row ≤ weight_limit) rows

-- a well-formed relation allows the outcome that is chosen
abbrev pub ChosenIsAllowed : Type 0
ChosenIsAllowed = (node : Node) → IsWellFormed node → Allows node (chosen node)

-- a well-formed plan allows an outcome
abbrev pub EveryPlanHasAnOutcome : Type 0
EveryPlanHasAnOutcome = (plan : Resolved) → IsWellFormedPlan plan → (outcome : Outcome) × AllowsPlan plan outcome
