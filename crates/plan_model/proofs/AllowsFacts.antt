-- The outcomes that each kind of relation allows.
use Rattle.std.proofs.Common.{◌≡◌, ℕ, ℤ, Bool, Option, List, refl, sym, ap, ◌∙◌}
use Rattle.cn_types.specs.declared.row.Row.{Row}
use Rattle.cn_types.specs.declared.schema.Schema.{Schema}
use Rattle.plan_model.specs.declared.expression.TypedExpr.{TypedExpr}
use Rattle.plan_model.specs.declared.node.AggregateCall.{AggregateCall}
use Rattle.plan_model.specs.declared.node.JoinKind.{JoinKind}
use Rattle.plan_model.specs.declared.node.Node.{Node}
use Rattle.plan_model.specs.declared.node.Node.TheFolds.{map-Node, rec-roll-Node}
use Rattle.plan_model.specs.declared.node.Node.TheOpen as O
use Rattle.plan_model.specs.declared.node.Node.TheOpen.{Node-F}
use Rattle.plan_model.specs.declared.node.Node.TheVariants as V
use Rattle.plan_model.specs.declared.node.Node.TheViews.{roll-Node}
use Rattle.plan_model.specs.declared.node.SetKind.{SetKind}
use Rattle.plan_model.specs.declared.node.SortKey.{SortKey}
use Rattle.plan_model.specs.Allows.{joining_of, Allows_step, Allows}
use Rattle.plan_model.specs.Counts.{SameCounts}
use Rattle.plan_model.specs.Groups.{IsAggregate, IsDistinctOn}
use Rattle.plan_model.specs.Joins.{IsJoin}
use Rattle.plan_model.specs.Outcomes.{Allowed, Bounded, After}
use Rattle.plan_model.specs.Ranges.{IsRange}
use Rattle.plan_model.specs.Selections.{projected, selected, sliced}
use Rattle.plan_model.specs.SetOperations.{IsSetOperation}
use Rattle.plan_model.specs.Sorting.{IsSort}

-- a step says the same of inputs under any names
natural : (X : Type 0) (v : X → Node) (k : Node → Allowed) (x : Node-F X) → Allows_step X v (λ p. k (v p)) x ≡ Allows_step Node (λ y. y) k (map-Node X Node v x)
natural X v k (O.Rows schema rows) = refl
natural X v k (O.Range start end step) = refl
natural X v k (O.Project input items) = refl
natural X v k (O.Filter input condition) = refl
natural X v k (O.Join left right kind condition) = refl
natural X v k (O.SetOp left right kind all) = refl
natural X v k (O.Aggregate input keys calls items) = refl
natural X v k (O.DistinctOn input columns) = refl
natural X v k (O.Sort input keys) = refl
natural X v k (O.Slice input skip most) = refl

Allows_roll : (x : Node-F Node) → Allows (roll-Node x) ≡ Allows_step Node (λ y. y) Allows x
unfolding Allows
Allows_roll = rec-roll-Node Allowed Allows_step natural

pub Allows-Rows : (schema : Schema) (rows : List Row) → Allows (V.Rows schema rows) ≡ Bounded (λ list. SameCounts list rows)
Allows-Rows schema rows = ap Allows (sym (V.rolls-Rows schema rows)) ∙ Allows_roll (O.Rows schema rows)

pub Allows-Range : (start end step : ℤ) → Allows (V.Range start end step) ≡ Bounded (IsRange start end step)
Allows-Range start end step = ap Allows (sym (V.rolls-Range start end step)) ∙ Allows_roll (O.Range start end step)

pub Allows-Project : (input : Node) (items : List TypedExpr) → Allows (V.Project input items) ≡ After (Allows input) (λ a. Bounded (λ list. list ≡ projected items a))
Allows-Project input items = ap Allows (sym (V.rolls-Project input items)) ∙ Allows_roll (O.Project input items)

pub Allows-Filter : (input : Node) (condition : TypedExpr) → Allows (V.Filter input condition) ≡ After (Allows input) (λ a. Bounded (λ list. list ≡ selected condition a))
Allows-Filter input condition = ap Allows (sym (V.rolls-Filter input condition)) ∙ Allows_roll (O.Filter input condition)

pub Allows-Join : (left right : Node) (kind : JoinKind) (condition : Option TypedExpr) → Allows (V.Join left right kind condition) ≡ After (Allows left) (λ a. After (Allows right) (λ b. Bounded (IsJoin kind (joining_of condition left right) a b)))
Allows-Join left right kind condition = ap Allows (sym (V.rolls-Join left right kind condition)) ∙ Allows_roll (O.Join left right kind condition)

pub Allows-SetOp : (left right : Node) (kind : SetKind) (all : Bool) → Allows (V.SetOp left right kind all) ≡ After (Allows left) (λ a. After (Allows right) (λ b. Bounded (IsSetOperation kind all a b)))
Allows-SetOp left right kind all = ap Allows (sym (V.rolls-SetOp left right kind all)) ∙ Allows_roll (O.SetOp left right kind all)

pub Allows-Aggregate : (input : Node) (keys : List TypedExpr) (calls : List AggregateCall) (items : List TypedExpr) → Allows (V.Aggregate input keys calls items) ≡ After (Allows input) (λ a. Bounded (IsAggregate keys calls items a))
Allows-Aggregate input keys calls items = ap Allows (sym (V.rolls-Aggregate input keys calls items)) ∙ Allows_roll (O.Aggregate input keys calls items)

pub Allows-DistinctOn : (input : Node) (columns : List ℕ) → Allows (V.DistinctOn input columns) ≡ After (Allows input) (λ a. Bounded (IsDistinctOn columns a))
Allows-DistinctOn input columns = ap Allows (sym (V.rolls-DistinctOn input columns)) ∙ Allows_roll (O.DistinctOn input columns)

pub Allows-Sort : (input : Node) (keys : List SortKey) → Allows (V.Sort input keys) ≡ After (Allows input) (λ a. Bounded (IsSort keys a))
Allows-Sort input keys = ap Allows (sym (V.rolls-Sort input keys)) ∙ Allows_roll (O.Sort input keys)

pub Allows-Slice : (input : Node) (skip : ℕ) (most : Option ℕ) → Allows (V.Slice input skip most) ≡ After (Allows input) (λ a. Bounded (λ list. list ≡ sliced skip most a))
Allows-Slice input skip most = ap Allows (sym (V.rolls-Slice input skip most)) ∙ Allows_roll (O.Slice input skip most)
